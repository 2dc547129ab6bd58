-- The laws of the report's lines.
use mathlib.Core.Path.{◌≡◌, refl, sym, ap, ◌∙◌, subst}
use mathlib.Core.Option.{some}
use mathlib.Core.List.{List, [], ◌∷◌, ◌++◌, append_assoc, flatten}
use Prim.Native.Nat.{ℕ, zero, suc, ◌+◌, ◌-◌, ◌*◌, ◌/◌, ◌%◌, ◌^◌, ◌≤◌, ◌<◌}
use native.Mathlib.Numerals.{add-one}
use native.Mathlib.Omega.{arith}
use lib.ListN.{length, drop, get_or, set, get_elem?, length-append, drop_of_length-le}
use lib.Seq.{drop-cons}
use borrow.Author.Tests.{lt-ltb, le-ltb}
use Rattle.model.specs.Order.{Text}
use Rattle.model.specs.Opening.{place_of}
use Rattle.model.proofs.Cases.{never}
use Rattle.packed.specs.Ascii.{ascii}
use Rattle.packed.specs.Packed.{part}
use Rattle.packed.specs.code.Written.{Wrote, ToGo}
use Rattle.packed.proofs.WriteLaws.{to-go, gone, all-gone, wrote_as, wrote_then, stored}
use Rattle.packed.proofs.ReadLaws.{TextStops, drop-next}
use Rattle.values.specs.Decimal.{in_decimal}
use Rattle.values.specs.declared.versions.EventVersion.{EventVersion}
use Rattle.values.proofs.DigitLaws.{decimal-length}
use Rattle.replies.specs.Replies.{finding_of}
use Rattle.replies.specs.declared.reply.Finding.{Finding}
use Rattle.replies.specs.declared.reply.Finding.TheVariants.{Conflict, Overfull}
use Rattle.ontology.specs.Table.{Property, EventType, at_place, name_at}
use Rattle.ontology.specs.code.TypeIndex.{PropertyIs, property_in}
use Rattle.ontology.specs.declared.properties.PropertyAt.{PropertyAt}
use Rattle.event.specs.Event.{Event, object_count}
use Rattle.event.specs.code.EventIndex.{SetIs, set_in}
use Rattle.event.specs.declared.sets.SetAt.{SetAt}
use Rattle.event.specs.declared.read.EventIndex.{EventIndex}
use Rattle.event.proofs.SetLaws.{set-read}
use Rattle.hashing.proofs.ObjectLaws.{part_room}
use Rattle.hashing.proofs.GatherLaws.{Standing, First, standing-all, standing-none, standing-next, At, at-place}
use Rattle.report.specs.Report.{hex_digit, hex_of, value_line, value_lines, object_lines}
use Rattle.report.specs.Report.{hashed_lines, conflict_line, overfull_line, finding_line, refused_line}
use Rattle.report.specs.code.ReportIndex.{PlaceNamed, FindingNamed, ValuesRoom, ObjectsRoom, LinesRoom}

-- ---- hexadecimal digits

pub hex-low : (n : ℕ) → n < 10 → 48 + n ≡ hex_digit n
unfolding hex_digit
hex-low n h = rw (lt-ltb n 10 h)

pub hex-high : (n : ℕ) → 10 ≤ n → 87 + n ≡ hex_digit n
unfolding hex_digit
hex-high n h = rw (le-ltb n 10 h)

pub hex-length : (s : List ℕ) → length (hex_of s) ≡ 2 * length s
unfolding hex_of
hex-length [] = refl
hex-length (b ∷ s) = omega (arith, hex-length s)

pub hex-end : (s : List ℕ) (i : ℕ) → length s ≤ i → hex_of (drop i s) ≡ []
unfolding hex_of
hex-end s i h = ap hex_of (drop_of_length-le s h)

hex-step :
    (s : List ℕ) (i : ℕ) → i < length s →
    hex_of (drop i s) ≡ (hex_digit (get_or s i 0 / 16) ∷ hex_digit (get_or s i 0 % 16) ∷ []) ++ hex_of (drop (i + 1) s)
unfolding hex_of
hex-step s i h = ap hex_of (drop-next s i h)

hex-next : (at i : ℕ) → at + 2 * i + 1 + 1 ≡ at + 2 * (i + 1)
hex-next at i = omega arith

pub hex-start : (l : List ℕ) (at : ℕ) (s : List ℕ) → ToGo l at (hex_of s) l (at + 2 * 0) (hex_of s)
hex-start l at s = subst (λ (p : ℕ). ToGo l at (hex_of s) l p (hex_of s)) (nothing at) to-go
  where
    nothing : (n : ℕ) → n ≡ n + 2 * 0
    nothing n = omega arith

pub hex-gone :
    {l₀ whole l : List ℕ} {at : ℕ} (s : List ℕ) (i a b : ℕ) → i < length s → a ≡ hex_digit (get_or s i 0 / 16) →
    b ≡ hex_digit (get_or s i 0 % 16) →
    ToGo l₀ at whole l (at + 2 * i) (hex_of (drop i s)) →
    ToGo l₀ at whole (set (set l (at + 2 * i) a) (at + 2 * i + 1) b) (at + 2 * (i + 1)) (hex_of (drop (i + 1) s))
hex-gone {l₀} {whole} {l} {at} s i a b h x y g =
    gone (hex_digit (get_or s i 0 / 16) ∷ hex_digit (get_or s i 0 % 16) ∷ []) (hex_of (drop (i + 1) s)) g (hex-step s i h)
    (subst (Wrote l (at + 2 * i) (hex_digit (get_or s i 0 / 16) ∷ hex_digit (get_or s i 0 % 16) ∷ []) (set (set l (at + 2 * i) a) (at + 2 * i + 1) b))
    (hex-next at i)
    (rw (← x, ← y) (wrote_then (stored l (at + 2 * i) a) (stored (set l (at + 2 * i) a) (at + 2 * i + 1) b))))

-- ---- a refusal

wrote-five :
    {l a b c d e A B C D E : List ℕ} {p q r s z : ℕ} → Wrote l 0 A a p → Wrote a p B b q → Wrote b q C c r → Wrote c r D d s → Wrote d s E e z →
    Wrote l 0 (A ++ (B ++ (C ++ (D ++ E)))) e z
wrote-five v w x y u = wrote_then v (wrote_then w (wrote_then x (wrote_then y u)))

module _ (n i : ℕ) where
  refused-is :
      refused_line n i ≡ (114 ∷ 101 ∷ 102 ∷ 117 ∷ 115 ∷ 101 ∷ 100 ∷ 32 ∷ []) ++
      (in_decimal n ++ ((32 ∷ []) ++ (in_decimal i ++ (10 ∷ []))))
  unfolding refused_line ascii
  refused-is = simp append_assoc

  pub refused-length : length (refused_line n i) ≡ 10 + length (in_decimal n) + length (in_decimal i)
  refused-length = ap length refused-is ∙ simp length-append (omega arith)

  pub wrote-refused :
      {l a b c d e : List ℕ} {p q r s z : ℕ} → Wrote l 0 (114 ∷ 101 ∷ 102 ∷ 117 ∷ 115 ∷ 101 ∷ 100 ∷ 32 ∷ []) a p →
      Wrote a p (in_decimal n) b q →
      Wrote b q (32 ∷ []) c r → Wrote c r (in_decimal i) d s → Wrote d s (10 ∷ []) e z →
      Wrote l 0 (refused_line n i) e z
  wrote-refused v w x y u = rw refused-is (wrote-five v w x y u)

  -- the number is the refusal's, m
  pub refused-as : {m z : ℕ} {l e : List ℕ} → n ≡ m → Wrote l 0 (refused_line n i) e z → Wrote l 0 (refused_line m i) e z
  refused-as g w = rw (sym g) w

  pub refused-short : length (refused_line n i) ≤ 50
  refused-short = omega (arith, refused-length, decimal-length n, decimal-length i)

-- ---- a property of a type

pub some_below : {A : Type 0} (xs : List A) (i : ℕ) (a : A) → get_elem? xs i ≡ some a → i < length xs
some_below [] i a e = never (cc)
some_below (x ∷ xs) zero a e = omega arith
some_below (x ∷ xs) (suc i) a e = omega (arith, some_below xs i a e)

module _ {table ps : List ℕ} {place : ℕ} (p : PlaceNamed table ps place) where
  name-is : name_at p.type place ≡ p.property.name
  unfolding name_at at_place
  name-is = rw p.named

  pub place-below : place < 32
  place-below = omega (arith, some_below p.type.properties place p.property p.named, p.are.few)

  -- `conflict 1 state`
  module _ (v : ℕ) where
    conflict-is :
        conflict_line p.type v place ≡ (99 ∷ 111 ∷ 110 ∷ 102 ∷ 108 ∷ 105 ∷ 99 ∷ 116 ∷ 32 ∷ []) ++
        (in_decimal v ++ ((32 ∷ []) ++ (name_at p.type place ++ (10 ∷ []))))
    unfolding conflict_line ascii
    conflict-is = simp append_assoc

    pub conflict-length : length (conflict_line p.type v place) ≡ 11 + length (in_decimal v) + length (name_at p.type place)
    conflict-length = ap length conflict-is ∙ simp length-append (omega arith)

  -- `overfull serial`
  overfull-is :
      overfull_line p.type place ≡ (111 ∷ 118 ∷ 101 ∷ 114 ∷ 102 ∷ 117 ∷ 108 ∷ 108 ∷ 32 ∷ []) ++ (name_at p.type place ++ (10 ∷ []))
  unfolding overfull_line ascii
  overfull-is = simp append_assoc

  pub overfull-length : length (overfull_line p.type place) ≡ 10 + length (name_at p.type place)
  overfull-length = ap length overfull-is ∙ simp length-append (omega arith)

  -- the property that was taken from the numbers
  module _ {q : PropertyAt} (same : q ≡ property_in ps place) where
    pub place_is : PropertyIs table p.property q
    place_is = subst (PropertyIs table p.property) (sym same) (p.are.each place p.property p.named)

    pub place-name : part table q.start q.end ≡ name_at p.type place
    place-name = place_is.name ∙ sym name-is

  pub wrote-conflict :
      {l a b c e f : List ℕ} {q r s x z : ℕ} (v : ℕ) → Wrote l 0 (99 ∷ 111 ∷ 110 ∷ 102 ∷ 108 ∷ 105 ∷ 99 ∷ 116 ∷ 32 ∷ []) a q →
      Wrote a q (in_decimal v) b r → Wrote b r (32 ∷ []) c s →
      Wrote c s (name_at p.type place) e x → Wrote e x (10 ∷ []) f z → Wrote l 0 (conflict_line p.type v place) f z
  wrote-conflict v g w x y u = rw (conflict-is v) (wrote-five g w x y u)

  pub wrote-overfull :
      {l a b c : List ℕ} {q r s : ℕ} → Wrote l 0 (111 ∷ 118 ∷ 101 ∷ 114 ∷ 102 ∷ 117 ∷ 108 ∷ 108 ∷ 32 ∷ []) a q →
      Wrote a q (name_at p.type place) b r → Wrote b r (10 ∷ []) c s → Wrote l 0 (overfull_line p.type place) c s
  wrote-overfull g w x = rw overfull-is (wrote_then g (wrote_then w x))

-- ---- what opening finds

module _ {table ps : List ℕ} (f : Finding) (p : FindingNamed table ps f) where
  pub named-at : {place : ℕ} → place_of (finding_of f) ≡ place → get_elem? p.type.properties place ≡ some p.property
  named-at e = subst (λ (k : ℕ). get_elem? p.type.properties k ≡ some p.property) e p.named

  finding-line : {g : Finding} → f ≡ g → finding_line p.type (finding_of f) ≡ finding_line p.type (finding_of g)
  finding-line e = ap (λ (g : Finding). finding_line p.type (finding_of g)) e

  -- a conflict
  module _ {v : EventVersion} {place : ℕ} (e : f ≡ Conflict v place) where
    pub at-conflict : place_of (finding_of f) ≡ place
    unfolding place_of
    at-conflict = ap (λ (g : Finding). place_of (finding_of g)) e

    abbrev pub conflict-named : PlaceNamed table ps place
    conflict-named = record { type = p.type; property = p.property; are = p.are; named = named-at at-conflict }

    conflict-line : finding_line p.type (finding_of f) ≡ conflict_line p.type v.0 place
    unfolding finding_line
    conflict-line = finding-line e

    pub conflict-fits : {room : ℕ} → length (finding_line p.type (finding_of f)) ≤ room → length (conflict_line p.type v.0 place) ≤ room
    conflict-fits {room} h = subst (λ (l : List ℕ). length l ≤ room) conflict-line h

    pub found-conflict :
        {l m : List ℕ} {n : ℕ} → ((q : PlaceNamed table ps place) → Wrote l 0 (conflict_line q.type v.0 place) m n) →
        Wrote l 0 (finding_line p.type (finding_of f)) m n
    found-conflict w = wrote_as (sym conflict-line) (w conflict-named)

  -- an overfull place
  module _ {place : ℕ} (e : f ≡ Overfull place) where
    pub at-overfull : place_of (finding_of f) ≡ place
    unfolding place_of
    at-overfull = ap (λ (g : Finding). place_of (finding_of g)) e

    abbrev pub overfull-named : PlaceNamed table ps place
    overfull-named = record { type = p.type; property = p.property; are = p.are; named = named-at at-overfull }

    overfull-line : finding_line p.type (finding_of f) ≡ overfull_line p.type place
    unfolding finding_line
    overfull-line = finding-line e

    pub overfull-fits : {room : ℕ} → length (finding_line p.type (finding_of f)) ≤ room → length (overfull_line p.type place) ≤ room
    overfull-fits {room} h = subst (λ (l : List ℕ). length l ≤ room) overfull-line h

    pub found-overfull :
        {l m : List ℕ} {n : ℕ} → ((q : PlaceNamed table ps place) → Wrote l 0 (overfull_line q.type place) m n) →
        Wrote l 0 (finding_line p.type (finding_of f)) m n
    found-overfull w = wrote_as (sym overfull-line) (w overfull-named)

-- ---- the line of a value

pub value-length : (name v : Text) → length (value_line name v) ≡ length name + 2 + length v
value-length name v = simp length-append (omega arith)

pub wrote_value :
    {l a b c d : List ℕ} {at p q r s : ℕ} (name v : Text) → Wrote l at name a p → Wrote a p (58 ∷ []) b q → Wrote b q v c r →
    Wrote c r (10 ∷ []) d s →
    Wrote l at (value_line name v) d s
wrote_value name v w x y z = rw (append_assoc name (58 ∷ v) (10 ∷ [])) (wrote_then w (wrote_then x (wrote_then y z)))

-- ---- the lines of a property's values

-- The values vs have their lines but for `left` of them, which stand at `i`
pub record Lines (name : Text) (vs : List Text) (event out₀ : List ℕ) (at : ℕ) (out : List ℕ) (next i left : ℕ) (tail : List ℕ) : Type 0 where
  pub rest : List Text
  pub stand : Standing event rest i left tail
  pub go : ToGo out₀ at (value_lines name vs) out next (value_lines name rest)

module _ {name : Text} {vs : List Text} {event out₀ : List ℕ} {at : ℕ} where
  pub lines_start : {x : SetAt} → SetIs event vs x → Lines name vs event out₀ at out₀ at x.start x.count (drop x.end event)
  lines_start w = record { rest = vs; stand = standing-all w; go = to-go }

  module _ {out tail : List ℕ} {next i left : ℕ} (w : Lines name vs event out₀ at out next i left tail) where
    module _ (small : length event < 2 ^ 64) (h : 0 < left) {a z : ℕ} (t : TextStops event i a z) {n : Text} (named : n ≡ name) where
      value : First event w.rest a z left tail
      value = standing-next w.stand small h t

      value-step : value_lines name w.rest ≡ value_line n (part event a z) ++ value_lines name value.others
      unfolding value_lines flatten
      value-step = ap (value_lines name) value.is ∙ ap (λ (m : Text). value_line m (part event a z) ++ value_lines name value.others) (sym named)

      pub lines-room : at + length (value_lines name vs) ≤ length out₀ → next + length (value_line n (part event a z)) ≤ length out
      lines-room r = part_room (value_line n (part event a z)) (value_lines name value.others) w.go r value-step

      pub lines_more :
          {out₁ : List ℕ} {next₁ : ℕ} → Wrote out next (value_line n (part event a z)) out₁ next₁ →
          Lines name vs event out₀ at out₁ next₁ z (left - 1) tail
      lines_more u = record {
        rest = value.others;
        stand = value.standing;
        go = gone (value_line n (part event a z)) (value_lines name value.others) w.go value-step u;
      }

    pub lines-all : left ≤ 0 → Wrote out₀ at (value_lines name vs) out next
    unfolding value_lines flatten
    lines-all h = all-gone w.go (ap (value_lines name) (standing-none w.stand h))

-- ---- the lines of all objects

objects-step :
    (ps : List Property) (ss : List (List Text)) (k : ℕ) (w : At ps k) → k < length ss →
    object_lines (drop k ps) (drop k ss) ≡ value_lines w.what.name (get_or ss k []) ++ object_lines (drop (k + 1) ps) (drop (k + 1) ss)
unfolding object_lines
objects-step ps ss k w h = rw (w.rest, drop-cons ss k [] h, add-one)

objects-end : (ps : List Property) (ss : List (List Text)) (k : ℕ) → length ps ≤ k → object_lines (drop k ps) (drop k ss) ≡ []
unfolding object_lines
objects-end ps ss k h = ap (λ (l : List Property). object_lines l (drop k ss)) (drop_of_length-le ps h)

-- what is to be written from a place on
abbrev pub ObjectsGo : List Property → List (List Text) → List ℕ → ℕ → List ℕ → ℕ → ℕ → Type 0
ObjectsGo ps ss out₀ at out next k = ToGo out₀ at (object_lines ps ss) out next (object_lines (drop k ps) (drop k ss))

module _ {table ps event ats out₀ out : List ℕ} {count at next : ℕ} (o : ObjectsRoom table count ps event ats at (length out₀)) (k : ℕ)
    (g : ObjectsGo o.properties o.sets out₀ at out next k) where
  pub objects-all : count ≤ k → Wrote out₀ at (object_lines o.properties o.sets) out next
  objects-all h = all-gone g (objects-end o.properties o.sets k (omega (arith, o.are.count)))

  module _ (below : k < count) where
    property : At o.properties k
    property = at-place o.properties k (omega (arith, o.are.count))

    -- the lines of this place, and those that follow
    abbrev here : List ℕ
    here = value_lines property.what.name (get_or o.sets k [])

    abbrev later : List ℕ
    later = object_lines (drop (k + 1) o.properties) (drop (k + 1) o.sets)

    step : object_lines (drop k o.properties) (drop k o.sets) ≡ here ++ later
    step = objects-step o.properties o.sets k property (omega (arith, o.stand.long, o.are.few))

    -- the property and the set of this place, as they were taken from the numbers
    module _ {q : PropertyAt} {x : SetAt} (same-property : q ≡ property_in ps k) (same_set : x ≡ set_in ats k) where
      pub values-room : ValuesRoom table q event x next (length out)
      values-room = record {
        property = property.what;
        values = get_or o.sets k [];
        named = subst (PropertyIs table property.what) (sym same-property) (o.are.each k property.what property.is);
        is = set-read same_set (o.stand.each k (omega (arith, o.are.few)));
        fits = part_room here later g o.fits step;
      }

      pub objects-more :
          {out₁ : List ℕ} {next₁ : ℕ} →
          ((v : ValuesRoom table q event x next (length out)) → Wrote out next (value_lines v.property.name v.values) out₁ next₁) →
          ObjectsGo o.properties o.sets out₀ at out₁ next₁ (k + 1)
      unfolding values-room
      objects-more w = gone here later g step (w values-room)

-- ---- the lines of a merged event

module _ (t : EventType) (e : Event) (hash : List ℕ) where
  abbrev objects_of : List ℕ
  objects_of = object_lines t.properties e.sets

  hashed-is :
      hashed_lines t e hash ≡ (109 ∷ 101 ∷ 114 ∷ 103 ∷ 101 ∷ 100 ∷ 32 ∷ []) ++
      (in_decimal (object_count e.sets) ++ ((10 ∷ []) ++ (objects_of ++ ((104 ∷ 97 ∷ 115 ∷ 104 ∷ 32 ∷ []) ++ (hex_of hash ++ (10 ∷ []))))))
  unfolding hashed_lines ascii
  hashed-is =
      let digits = in_decimal (object_count e.sets) in
      let last = (104 ∷ 97 ∷ 115 ∷ 104 ∷ 32 ∷ []) ++ (hex_of hash ++ (10 ∷ [])) in
      ap (λ (x : List ℕ). (109 ∷ 101 ∷ 114 ∷ 103 ∷ 101 ∷ 100 ∷ 32 ∷ []) ++ x)
      (append_assoc (digits ++ (10 ∷ [])) objects_of last ∙ append_assoc digits (10 ∷ []) (objects_of ++ last))

  pub hashed_length : length (hashed_lines t e hash) ≡ 14 + length (in_decimal (object_count e.sets)) + length objects_of + 2 * length hash
  hashed_length = ap length hashed-is ∙ simp length-append (omega (arith, hex-length hash))

  pub wrote-hashed :
      {l a b c d f g h : List ℕ} {p q r s u v z n : ℕ} → n ≡ object_count e.sets →
      Wrote l 0 (109 ∷ 101 ∷ 114 ∷ 103 ∷ 101 ∷ 100 ∷ 32 ∷ []) a p →
      Wrote a p (in_decimal n) b q → Wrote b q (10 ∷ []) c r → Wrote c r objects_of d s →
      Wrote d s (104 ∷ 97 ∷ 115 ∷ 104 ∷ 32 ∷ []) f u → Wrote f u (hex_of hash) g v → Wrote g v (10 ∷ []) h z →
      Wrote l 0 (hashed_lines t e hash) h z
  wrote-hashed k w₁ w₂ w₃ w₄ w₅ w₆ w₇ =
      rw (hashed-is, ← k) (wrote_then w₁ (wrote_then w₂ (wrote_then w₃ (wrote_then w₄ (wrote_then w₅ (wrote_then w₆ w₇))))))

abbrev pub objects-room :
    {table ps bytes ats hash : List ℕ} {count : ℕ} {e : EventIndex} {room at room₁ : ℕ} (l : LinesRoom table count ps bytes e ats hash room) →
    at ≡ 8 + length (in_decimal e.objects) → room₁ ≡ room → ObjectsRoom table count ps bytes ats at room₁
objects-room {hash} l h r = record {
  properties = l.type.properties;
  sets = l.event.sets;
  are = l.are;
  stand = l.read.sets;
  fits = omega (arith, h, r, l.fits, hashed_length l.type l.event hash, ap (λ (n : ℕ). length (in_decimal n)) l.read.objects);
}
