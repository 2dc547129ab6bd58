-- The lines marked * in document 01, as one statement about the calls' answers on packed bytes: tables, events and dossiers are bytes throughout.
use Prim.Native.Nat.{Ordering}
use Rattle.std.specs.Prelude.{ℕ, ◌≤◌, ◌≡◌, true, false, length, replicate}
use Rattle.std.proofs.Math.Option.{some}
use mathlib.Core.List.{List, [], ◌∷◌, ◌++◌, map, flatten}
use Rattle.model.specs.Limits.{standard}
use Rattle.model.specs.Order.{texts}
use Rattle.model.specs.Opening.{conflict_at}
use Rattle.packed.specs.Ascii.{ascii}
use Rattle.values.specs.Spaces.{sequence, datetime, string}
use Rattle.replies.specs.Capacities.{dossier_capacity, hash_text_capacity}
use Rattle.replies.specs.Answers.{Answer, gives, refuses, refuses_at, Reply}
use Rattle.ontology.specs.Table.{max, add, replace, match, EventType, name_at}
use Rattle.ontology.specs.TableLayout.{table_of}
use Rattle.hashing.specs.HashCalls.{hash_text_answer, hash_text_call}
use Rattle.combining.specs.CheckCall.{check_answer}
use Rattle.combining.specs.CombineCall.{combine_answer}
use Rattle.opening.specs.OpenCall.{open_answer}

-- "Type net.host: addr (string 40, mandatory, multivalued, match), rev (sequence, max, the mark), seen (datetime, max, mandatory, single), state (string 20,
-- replace), tags (string 20, add, optional, multivalued)."
abbrev pub host : EventType
host = record {
  name = ascii "net.host";
  definition = 1;
  mark = 2;
  properties =
      record { name = ascii "addr"; kind = string 40; optional = false; multivalued = true; strategy = match }
      ∷ record { name = ascii "rev"; kind = sequence; optional = false; multivalued = false; strategy = max }
      ∷ record { name = ascii "seen"; kind = datetime; optional = false; multivalued = false; strategy = max }
      ∷ record { name = ascii "state"; kind = string 20; optional = true; multivalued = false; strategy = replace }
      ∷ record { name = ascii "tags"; kind = string 20; optional = true; multivalued = true; strategy = add }
      ∷ [];
}

-- the table of this type
abbrev pub hosts : List ℕ
hosts =
    ascii "\u{1}\u{8}net.host\u{1}\u{2}\u{5}"
    ++ ascii "\u{4}addr\u{8}(\0\u{1}\u{5}"
    ++ ascii "\u{3}rev\u{5}\0\0\u{2}"
    ++ ascii "\u{4}seen\u{6}\0\0\u{2}"
    ++ ascii "\u{5}state\u{8}\u{14}\u{1}\0\u{4}"
    ++ ascii "\u{4}tags\u{8}\u{14}\u{1}\u{1}\u{3}"

-- "Source /lab/, no parents. E1: h1, 1, 2024-03-01T10:00:00Z, up, a."
abbrev pub e1 : List ℕ
e1 = ascii "\u{8}net.host\u{5}/lab/\0\u{1f}\u{1}\u{2}h1\u{1}\u{1}1\u{1}\u{14}2024-03-01T10:00:00Z\u{1}\u{2}up\u{1}\u{1}a"

-- "E2: h1, 2, 2024-03-01T09:00:00.500000Z, no state, b."
abbrev pub e2 : List ℕ
e2 = ascii "\u{8}net.host\u{5}/lab/\0\u{17}\u{1}\u{2}h1\u{1}\u{1}2\u{1}\u{1b}2024-03-01T09:00:00.500000Z\u{1}\u{1}b"

-- "E3 is E2 with tag c for b; E4 is E1 with state down."
abbrev pub e3 : List ℕ
e3 = ascii "\u{8}net.host\u{5}/lab/\0\u{17}\u{1}\u{2}h1\u{1}\u{1}2\u{1}\u{1b}2024-03-01T09:00:00.500000Z\u{1}\u{1}c"

abbrev pub e4 : List ℕ
e4 = ascii "\u{8}net.host\u{5}/lab/\0\u{1f}\u{1}\u{2}h1\u{1}\u{1}1\u{1}\u{14}2024-03-01T10:00:00Z\u{1}\u{4}down\u{1}\u{1}a"

-- the bytes that a call gave
abbrev pub given : Answer → List ℕ
given (gives d) = d
given (Answer.finds f) = []
given (refuses n) = []
given (refuses_at n i) = []

-- the dossier of one event; of events in their order, each one added to those before it
abbrev pub checked : List ℕ → List ℕ → List ℕ
checked table e = given (check_answer dossier_capacity table e)

abbrev pub added : List ℕ → List ℕ → List (List ℕ) → List ℕ
added table d [] = d
added table d (e ∷ es) = added table (given (combine_answer standard dossier_capacity table d (checked table e))) es

-- what the dossier of some events opens as
abbrev pub opens : List ℕ → List (List ℕ) → Answer
opens table [] = refuses 0
opens table (e ∷ es) = open_answer standard dossier_capacity table (added table (checked table e) es)

-- all orders of a list
abbrev pub everywhere : List ℕ → List (List ℕ) → List (List (List ℕ))
everywhere e [] = (e ∷ []) ∷ []
everywhere e (f ∷ fs) = (e ∷ f ∷ fs) ∷ map (λ es. f ∷ es) (everywhere e fs)

abbrev pub orders : List (List ℕ) → List (List (List ℕ))
orders [] = [] ∷ []
orders (e ∷ es) = flatten (map (everywhere e) (orders es))

-- An unversioned type `pair` with two match properties, ip and ip.alt; and one event with ip a and ip.alt z
abbrev pub pairs : List ℕ
pairs = ascii "\u{1}\u{4}pair\u{1}\0\u{2}\u{2}ip\u{8}\u{14}\0\0\u{5}\u{6}ip.alt\u{8}\u{14}\0\0\u{5}"

abbrev pub ip : List ℕ
ip = ascii "\u{4}pair\u{5}/lab/\0\u{3}\u{1}\u{1}a\u{1}\u{1}z"

-- An unversioned type `last` with the property at: datetime, max; and two events of one second
abbrev pub lasts : List ℕ
lasts = ascii "\u{1}\u{4}last\u{1}\0\u{1}\u{2}at\u{6}\0\0\u{2}"

abbrev pub whole : List ℕ
whole = ascii "\u{4}last\u{5}/lab/\0\u{1}\u{1}\u{14}2024-03-01T10:00:21Z"

abbrev pub fraction : List ℕ
fraction = ascii "\u{4}last\u{5}/lab/\0\u{1}\u{1}\u{1b}2024-03-01T10:00:21.500000Z"

-- An unversioned type `one` of four optional properties: d datetime, i signed of width 1, m decimal 7, 2, signed, u unsigned of width 3; and its events of one
-- value each
abbrev pub ones : List ℕ
ones = ascii "\u{1}\u{3}one\u{1}\0\u{4}\u{1}d\u{6}\u{1}\0\u{7}\u{1}i\u{2}\u{1}\u{1}\0\u{7}\u{1}m\u{3}\u{7}\u{2}\u{1}\u{1}\0\u{7}\u{1}u\u{1}\u{3}\u{1}\0\u{7}"

abbrev pub of : List ℕ → List ℕ
of value = ascii "\u{3}one\u{5}/lab/\0" ++ value

-- its dossier, of one snapshot with the same set
abbrev pub taken : List ℕ → List ℕ → Answer
taken presence value = gives (ascii "\u{3}one\u{5}/lab/\0\u{1}\0" ++ presence ++ (0 ∷ []) ++ value)

pub record Marked : Type 0 where
  -- "Type net.host: addr .., rev .., seen .., state .., tags ..": the table's bytes read so, and so a conflict's place has its name
  pub table : table_of hosts ≡ some (host ∷ [])
  -- "E1, E2: addr h1, rev 2, seen 2024-03-01T10:00:00Z, tags a and b, no state."
  pub one-two : opens hosts (e1 ∷ e2 ∷ []) ≡
      gives (ascii "\u{8}net.host\u{5}/lab/\0\u{17}\u{1}\u{2}h1\u{1}\u{1}2\u{1}\u{14}2024-03-01T10:00:00Z\u{2}\u{1}a\u{1}b")
  -- "E1, E2, E3: conflict 2 tags."
  pub one-two-three : opens hosts (e1 ∷ e2 ∷ e3 ∷ []) ≡ Answer.finds (conflict_at 2 4)
  pub tags : name_at host 4 ≡ ascii "tags"
  -- "With E4 too, in any order: conflict 1 state."
  pub with-four : map (opens hosts) (orders (e1 ∷ e2 ∷ e3 ∷ e4 ∷ [])) ≡ replicate 24 (Answer.finds (conflict_at 1 3))
  pub state : name_at host 3 ≡ ascii "state"
  -- "Hash text of E1, 22 bytes: /lab/ 0A net.host 0A addr:h1."
  pub text-of-one : hash_text_answer hash_text_capacity hosts e1 ≡ gives (ascii "/lab/\nnet.host\naddr:h1")
  pub text-size : (out : List ℕ) → hash_text_capacity ≤ length out → (hash_text_call hosts e1 out).reply ≡ Reply.done 22
  -- "With match properties ip (a) and ip.alt (z): ip.alt:z sorts before ip:a. Sorting by table place fails."
  pub whole-strings : hash_text_answer hash_text_capacity pairs ip ≡ gives
      (ascii "/lab/\npair\nip.alt:z" ++ (255 ∷ 255 ∷ 255 ∷ 255 ∷ []) ++ ascii "ip:a")
  -- "...21.500000Z is later than ...21Z of the same second, though its bytes sort first."
  pub later : opens lasts (whole ∷ fraction ∷ []) ≡ gives fraction
  pub later-turned : opens lasts (fraction ∷ whole ∷ []) ≡ gives fraction
  pub sorts-first : texts.cmp (ascii "2024-03-01T10:00:21.500000Z") (ascii "2024-03-01T10:00:21Z") ≡ Ordering.lt
  -- "Signed width 1: -128 yes, -129 and -0 no."
  pub least-signed : check_answer dossier_capacity ones (of (ascii "\u{2}\u{1}\u{4}-128")) ≡ taken (2 ∷ []) (ascii "\u{1}\u{4}-128")
  pub below-signed : check_answer dossier_capacity ones (of (ascii "\u{2}\u{1}\u{4}-129")) ≡ refuses 6
  pub minus-zero : check_answer dossier_capacity ones (of (ascii "\u{2}\u{1}\u{2}-0")) ≡ refuses 6
  -- "Width 3: 16777215 yes, 16777216 no."
  pub most-of-three : check_answer dossier_capacity ones (of (ascii "\u{8}\u{1}\u{8}16777215")) ≡ taken (8 ∷ []) (ascii "\u{1}\u{8}16777215")
  pub past_three : check_answer dossier_capacity ones (of (ascii "\u{8}\u{1}\u{8}16777216")) ≡ refuses 6
  -- "Decimal 7, 2, signed: 12345.60 yes; 123456.00, 0.5, -0.00 no."
  pub in-decimal : check_answer dossier_capacity ones (of (ascii "\u{4}\u{1}\u{8}12345.60")) ≡ taken (4 ∷ []) (ascii "\u{1}\u{8}12345.60")
  pub too-many-digits : check_answer dossier_capacity ones (of (ascii "\u{4}\u{1}\t123456.00")) ≡ refuses 6
  pub too-few-digits : check_answer dossier_capacity ones (of (ascii "\u{4}\u{1}\u{3}0.5")) ≡ refuses 6
  pub decimal-minus-zero : check_answer dossier_capacity ones (of (ascii "\u{4}\u{1}\u{5}-0.00")) ≡ refuses 6
  -- "2000-02-29 is a day, 1900-02-29 isn't."
  pub leap-day :
      check_answer dossier_capacity ones (of (ascii "\u{1}\u{1}\u{14}2000-02-29T00:00:00Z")) ≡ taken (1 ∷ []) (ascii "\u{1}\u{14}2000-02-29T00:00:00Z")
  pub no-leap-day : check_answer dossier_capacity ones (of (ascii "\u{1}\u{1}\u{14}1900-02-29T00:00:00Z")) ≡ refuses 6
