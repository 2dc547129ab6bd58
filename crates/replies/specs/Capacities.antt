-- Document 01, question 1: the least sizes of outputs, and the question.
use Rattle.std.specs.Prelude.{ℕ, leb}
use Rattle.replies.specs.Questions.{Asked, ensure}

-- "Has the output at least 32,768 bytes": a dossier and a merged event; "and each of a batch's three scratch buffers 32,768"
abbrev pub dossier_capacity : ℕ
dossier_capacity = 32768

-- "hash text 8,192"
abbrev pub hash_text_capacity : ℕ
hash_text_capacity = 8192

-- "hash 20"
abbrev pub hash_capacity : ℕ
hash_capacity = 20

-- what the merge program prints, for which document 01 has no number: it holds every report
abbrev pub report_capacity : ℕ
report_capacity = 65536

-- question 1 of an output of `size` bytes: "Has the output at least .. bytes ..? 1"
abbrev pub has_room : ℕ → ℕ → Asked (Unit {0})
has_room least size = ensure 1 (leb least size)
