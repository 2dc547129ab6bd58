-- The strings from place `i` on, each behind its separator, are still to be written.
use Rattle.hashing.proofs.ObjectLaws.{Following}
use Rattle.hashing.proofs.objects.write_objects.Given as goal

abbrev pub invariant-loop-i : goal.invariant-loop-i
invariant-loop-i l = Following l.table l.event l.objects l.count l.initial.out l.initial.next l.out l.next l.i
