-- `write_hash_text` meets its contract: the objects that were gathered are those of the text, its three parts are written one after the other
-- (`wrote-hash-text`), and the whole text has room (`parts-room`).
use borrow.Author.Rules.{rules}
use native.Mathlib.Omega.{arith}
use Prim.Native.Nat.{◌+◌, ◌≤◌}
use lib.ListN.{length}
use Rattle.packed.specs.code.Strings.{strings_of, strings_in}
use Rattle.hashing.specs.HashText.{separated}
use Rattle.hashing.proofs.TextLaws.{source_line, name_line, gatherable, parts-room, wrote-hash-text}
use Rattle.hashing.proofs.text.write_hash_text.Statement.{statement}
use Rattle.hashing.proofs.text.write_hash_text.Tie as tie

-- ---- the places

abbrev start : tie.After-gather-count → tie.Start
start c = search

-- ---- the facts

fits :
    (c : tie.After-gather-count) →
    let a = (start c).args in
    length (source_line a.event.now a.e) + length (name_line a.table.now a.t)
    + length (separated (strings_of a.table.now a.event.now (strings_in c.gather-count.new.objects) c.gather-count.result))
    ≤ length a.out.now
fits c =
    let h = (start c).requires.0 in
    omega (arith, parts-room h _ _ (c.gather-count.ensures.1 (gatherable h)))

-- ---- the needs

gather-requires : tie.Need-gather-count-requires
gather-requires c κs = let s : tie.Start = search in (gatherable s.requires.0, search rules, search rules, search rules)

write-line-requires : tie.Need-write_line-after_source-requires
write-line-requires c κs =
    let s : tie.Start = search in
    omega (arith, s.requires.0.read.head.uri, fits (search))

write-line-requires-2 : tie.Need-write_line-after_name-requires
write-line-requires-2 c κs =
    let s : tie.Start = search in
    omega (arith, s.requires.0.typed, fits (search))

write-objects-requires : tie.Need-write_objects-requires
write-objects-requires c κs =
    let gathered : tie.After-gather-count = search in
    (gathered.gather-count.ensures.0, omega (arith, fits (search)), search rules)

returns : tie.Need-returns
returns c = λ h.
    let gathered : tie.After-gather-count = search in
    let source : tie.After-write_line-after_source = search in
    let name : tie.After-write_line-after_name = search in
    wrote-hash-text h _ _ (gathered.gather-count.ensures.1 (gatherable h)) source.write_line-after_source.ensures name.write_line-after_name.ensures
    c.write_objects.ensures

pub write_hash_text_spec : {M : Type 1} → statement M
write_hash_text_spec =
    tie.close
    (tie.spec
    (λ c. search rules)
    gather-requires
    write-line-requires
    write-line-requires-2
    (λ c. search rules)
    write-objects-requires
    (λ c. search rules)
    returns)
