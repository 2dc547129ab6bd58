-- Document 01: what an event and a dossier begin with, and its bytes.
use Rattle.std.specs.Prelude.{ℕ, Bool, true, ◌&&◌, length, leb}
use mathlib.Core.List.{List, [], ◌∷◌, ◌++◌, flatten}
use Rattle.model.specs.Order.{Text, texts, rising}
use Rattle.packed.specs.Parse.{Layout, ◌>>=◌, found, found_if, such_that, times}
use Rattle.packed.specs.Packed.{number, read_number, text, read_text, read_bytes}

-- "Type name (text), source URI (text, ..), parent count .., that many 20-byte hashes rising"
pub record Head : Type 0 where
  pub type : Text
  pub source : Text
  pub parents : List Text

-- "source URI (text, 1 to 120 bytes from 21 to 7E hexadecimal)"
unfoldable pub are_source_bytes : Text → Bool
are_source_bytes [] = true
are_source_bytes (b ∷ v) = leb 0x21 b && leb b 0x7e && are_source_bytes v

unfoldable pub is_source : Text → Bool
is_source v = leb 1 (length v) && leb (length v) 120 && are_source_bytes v

-- "parent count 0 to 8, that many 20-byte hashes rising"
unfoldable pub read_parents : ℕ → Layout (List Text)
read_parents most = do
  count ← such_that (λ n. leb n most) read_number
  hashes ← times (read_bytes 20) count
  found_if (rising texts hashes) hashes

-- the most parents that are taken are given: 8 in an event, and in a dossier as many as its limits allow
unfoldable pub read_head : ℕ → Layout Head
read_head most = do
  type ← read_text
  source ← such_that is_source read_text
  parents ← read_parents most
  found (record { type = type; source = source; parents = parents })

-- The same layout, written

unfoldable pub parents_bytes : List Text → List ℕ
parents_bytes hs = number (length hs) ++ flatten hs

unfoldable pub head_bytes : Head → List ℕ
head_bytes h = text h.type ++ text h.source ++ parents_bytes h.parents
