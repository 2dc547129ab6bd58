-- Document 01, "Dossier": the bytes that it begins with.
use Rattle.std.specs.Prelude.{ℕ, List}
use Rattle.model.specs.Limits.{Limits}
use Rattle.packed.specs.Parse.{Layout}
use Rattle.event.specs.Head.{Head, read_head, head_bytes}

-- "Type name, source URI, parent count 0 to 32 with the hashes rising": an event's head, with as many parents as the limits allow; document 02, Q-13: "Question
-- 8 uses them, and so does the reading of dossiers (3 for versions and parents, 5 for objects)"
unfoldable pub read_dossier_head : Limits → Layout Head
read_dossier_head limits = read_head limits.parents

-- The same layout, written
unfoldable pub dossier_head_bytes : Head → List ℕ
dossier_head_bytes h = head_bytes h
