use Rattle.std.proofs.Common.{arith}
use Rattle.values.proofs.CalendarLaws.{field-more}
use Rattle.values.proofs.calendar.four.Goals as goal

pub returns-clause-number : goal.returns-clause-number
returns-clause-number c = field-more _ _ 2 (omega arith) c.two.ensures.number c.two-2.ensures.number
