-- `write_merged` meets its contract: its seven writes are the parts of the lines in their order (`wrote-hashed`), and all lines have room (`fits`).
use borrow.Author.Rules.{rules}
use native.Mathlib.Omega.{arith}
use mathlib.Core.Path.{◌≡◌, ap}
use Prim.Native.Nat.{ℕ, ◌+◌, ◌*◌, ◌≤◌}
use lib.ListN.{length}
use Rattle.packed.proofs.WriteLaws.{wrote-length}
use Rattle.values.specs.Decimal.{in_decimal}
use Rattle.report.specs.Report.{object_lines}
use Rattle.report.proofs.LineLaws.{hashed_length, wrote-hashed, hex-length, objects-room}
use Rattle.report.proofs.lines.write_merged.Statement.{statement}
use Rattle.report.proofs.lines.write_merged.Tie as tie

-- ---- the places

abbrev start : tie.After-write_end-after_line → tie.Start
start c = search

abbrev to-count : tie.After-write_end-after_line → tie.After-write_decimal-after_count
to-count c = search

abbrev to_word : tie.After-write_end-after_line → tie.After-copy-after_merged
to_word c = search

abbrev to_end : tie.After-write_objects-after_objects → tie.After-write_end-after_line
to_end c = search

-- ---- the lengths of the number of objects, of their lines and of the hash

module _ (c : tie.Start) where
  abbrev digits : ℕ
  digits = length (in_decimal c.args.e.objects)

  abbrev lines : ℕ
  lines = length (object_lines c.requires.2.type.properties c.requires.2.event.sets)

  abbrev bytes : ℕ
  bytes = length c.args.hash.now

  fits : 14 + digits + lines + 2 * bytes ≤ length c.args.out.now
  fits =
      let l = c.requires.2 in
      omega (arith, l.fits, hashed_length l.type l.event c.args.hash.now, ap (λ (n : ℕ). length (in_decimal n)) l.read.objects)

-- ---- how far the writes come

headed :
    (c : tie.After-write_end-after_line) →
    (c.write_end-after_line.result ≡ 8 + digits (start c)) × (length c.write_end-after_line.new.out ≡ length (start c).args.out.now)
headed c = (omega arith, omega arith)

-- the last line has room behind the objects' lines
last_fits :
    (c : tie.After-write_objects-after_objects) →
    c.write_objects-after_objects.result + 6 + 2 * bytes (start (to_end c)) ≤ length c.write_objects-after_objects.new.out
last_fits c =
    let s = start (to_end c) in
    let h = headed (to_end c) in
    let w = c.write_objects-after_objects.ensures (objects-room s.requires.2 h.0 h.1) in
    omega (arith, fits s, h.0, h.1, w, wrote-length w)

-- ---- the needs

write-objects-requires : tie.Need-write_objects-after_objects-requires
write-objects-requires c κs =
    let end = c in
    (search, search, objects-room (start (search)).requires.2 (headed (search)).0 (headed (search)).1)

write-end-requires-2 : tie.Need-write_end-requires
write-end-requires-2 c κs =
    let s : tie.Start = search in
    omega (arith, last_fits (search), hex-length s.args.hash.now)

returns : tie.Need-returns
returns c = λ l.
    let objects : tie.After-write_objects-after_objects = search in
    let end = to_end objects in
    let word2 : tie.After-copy-after_word = search in
    let hash : tie.After-write_hex-after_hash = search in
    let last : tie.After-write_end = search in
    wrote-hashed l.type l.event _ l.read.objects
    (to_word end).copy-after_merged.ensures (to-count end).write_decimal-after_count.ensures end.write_end-after_line.ensures
    (objects.write_objects-after_objects.ensures (objects-room l (headed end).0 (headed end).1))
    word2.copy-after_word.ensures hash.write_hex-after_hash.ensures last.write_end.ensures

pub write_merged_spec : {M : Type 1} → statement M
write_merged_spec =
    tie.close
    (tie.spec
    (λ c κs. omega (arith, fits (search)))
    (λ c κs. omega (arith, fits (search)))
    (λ c κs. omega (arith, fits (search)))
    write-objects-requires
    (λ c κs. omega (arith, last_fits (search)))
    (λ c κs. omega (arith, last_fits (search)))
    write-end-requires-2
    (λ c. search rules)
    returns)
