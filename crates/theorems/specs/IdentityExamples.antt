-- Why the hash text is made as document 01 has it, by example. Two other ways to make it do not tell events apart that have different hash texts: one puts
-- between the strings a byte that a value can have, one leaves the names out. And values that have the bytes at which a hash text is cut are read back whole.
use Rattle.std.specs.Prelude.{ℕ, ◌≡◌, false, cond, List, [], ◌∷◌, ◌++◌}
use Rattle.std.proofs.Math.Option.{some}
use Rattle.model.specs.Order.{Text, texts, equal}
use Rattle.model.specs.Sorting.{sorted}
use Rattle.packed.specs.Ascii.{ascii}
use Rattle.replies.specs.Questions.{accepted, ◌>>=◌, ask}
use Rattle.replies.specs.Capacities.{hash_text_capacity}
use Rattle.replies.specs.Answers.{Answer, answer, gives}
use Rattle.ontology.specs.Table.{Property, EventType, is_match}
use Rattle.ontology.specs.TableLayout.{table_of}
use Rattle.event.specs.EventLayout.{wide}
use Rattle.event.specs.EventQuestions.{event_asked}
use Rattle.hashing.specs.HashText.{object_strings, separator, separated}
use Rattle.hashing.specs.HashCalls.{hash_text_answer}
use Rattle.hashing.specs.ReadHashText.{read_hash_text}
use Rattle.theorems.specs.Marked.{host, hosts, pairs, ip}

-- ---- two wrong ways

-- a way to make a hash text of a source, a type and its sets, as `hash_text` is one; and what it makes of an event under a table
abbrev pub Making : Type 0
Making = Text → EventType → List (List Text) → List ℕ

abbrev pub made : Making → List ℕ → List ℕ → Answer
made making table event =
    answer (ask 2 (table_of table) >>= λ ts. event_asked wide ts event >>= λ a. accepted (making a.event.head.source a.type a.event.sets))

-- 0A between the strings, in place of FF FF FF FF
abbrev pub lines : List Text → List ℕ
lines [] = []
lines (s ∷ []) = s
lines (s ∷ r ∷ ss) = s ++ (10 ∷ []) ++ lines (r ∷ ss)

abbrev pub by_lines : Making
by_lines source t ss = source ++ (10 ∷ []) ++ t.name ++ (10 ∷ []) ++ lines (sorted texts (object_strings t.properties ss))

-- the values alone, in place of name, colon and value
abbrev pub match_values : List Property → List (List Text) → List Text
match_values [] ss = []
match_values (p ∷ ps) [] = []
match_values (p ∷ ps) (s ∷ ss) = cond (is_match p) s [] ++ match_values ps ss

abbrev pub without_names : Making
without_names source t ss = source ++ (10 ∷ []) ++ t.name ++ (10 ∷ []) ++ separated (sorted texts (match_values t.properties ss))

-- two events, s and r, of which it makes the same, though their hash texts differ
pub record Confuses (making : Making) (table s r same text_of_s text_of_r : List ℕ) : Type 0 where
  pub makes_of_s : made making table s ≡ gives same
  pub makes_of_r : made making table r ≡ gives same
  pub hash_text_of_s : hash_text_answer hash_text_capacity table s ≡ gives text_of_s
  pub hash_text_of_r : hash_text_answer hash_text_capacity table r ≡ gives text_of_r
  pub differ : equal texts text_of_s text_of_r ≡ false

-- ---- events

-- of the type net.host, with some addresses, version 1
abbrev pub addressed : List ℕ → List ℕ
addressed addresses = ascii "\u{8}net.host\u{5}/lab/\0\u{7}" ++ addresses ++ ascii "\u{1}\u{1}1\u{1}\u{14}2024-03-01T10:00:00Z"

-- the addresses h1 and h2; one address, of two lines
abbrev pub two : List ℕ
two = addressed (ascii "\u{2}\u{2}h1\u{2}h2")

abbrev pub two_lines : List ℕ
two_lines = addressed (ascii "\u{1}\nh1\naddr:h2")

-- an address with colons
abbrev pub colons : List ℕ
colons = addressed (ascii "\u{1}\u{7}fe80::1")

-- of the type pair, with ip z and ip.alt a: the values of `ip` at the other's places
abbrev pub turned : List ℕ
turned = ascii "\u{4}pair\u{5}/lab/\0\u{3}\u{1}\u{1}z\u{1}\u{1}a"

-- ---- what they show

pub record IdentityExamples : Type 0 where
  -- a separator that a value can have: h1 and h2 are not told from one address of the lines h1 and addr:h2
  pub joined-by_lines : Confuses by_lines hosts two two_lines (ascii "/lab/\nnet.host\naddr:h1\naddr:h2")
      (ascii "/lab/\nnet.host\naddr:h1" ++ separator ++ ascii "addr:h2") (ascii "/lab/\nnet.host\naddr:h1\naddr:h2")
  -- no names: a value is not told from the same value of another property
  pub without-names : Confuses without_names pairs ip turned (ascii "/lab/\npair\na" ++ separator ++ ascii "z")
      (ascii "/lab/\npair\nip.alt:z" ++ separator ++ ascii "ip:a") (ascii "/lab/\npair\nip.alt:a" ++ separator ++ ascii "ip:z")
  -- a value with 0A, and one with colons, read back
  pub line-end : read_hash_text (host ∷ []) (ascii "/lab/\nnet.host\naddr:h1\naddr:h2")
      ≡ some (record { source = ascii "/lab/"; type = ascii "net.host"; sets = (ascii "h1\naddr:h2" ∷ []) ∷ [] })
  pub colon-text : hash_text_answer hash_text_capacity hosts colons ≡ gives (ascii "/lab/\nnet.host\naddr:fe80::1")
  pub colon : read_hash_text (host ∷ []) (ascii "/lab/\nnet.host\naddr:fe80::1")
      ≡ some (record { source = ascii "/lab/"; type = ascii "net.host"; sets = (ascii "fe80::1" ∷ []) ∷ [] })
