-- The laws of a table: its types one by one, in the order of their names, and the type of a name among them.
use mathlib.Core.Path.{◌≡◌, refl, sym, ap, ap₂, ◌∙◌, subst}
use mathlib.Core.Bool.{Bool, true, false, cond, not, ◌&&◌}
use mathlib.Core.Option.{Option, none, some}
use mathlib.Core.List.{List, [], ◌∷◌, ◌++◌, map, append-nil}
use Prim.Native.Nat.{ℕ, ◌-◌, ◌≤◌, ◌<◌}
use native.Mathlib.Omega.{arith}
use lib.ListN.{length, drop, drop_of_length-le}
use lib.Dec.{leb}
use Rattle.model.specs.Order.{Text, texts, equal, rising}
use borrow.Author.Tests.{not-true, not-false}
use Rattle.model.proofs.Cases.{never, and_parts}
use Rattle.packed.specs.Parse.{Parse, fail, got, Layout, and_then, found_if, such_that, times}
use Rattle.packed.specs.Packed.{read_number, part, is_within}
use Rattle.packed.proofs.LayoutLaws.{such_that-got}
use Rattle.packed.proofs.ReadLaws.{drop-next}
use Rattle.packed.specs.code.Located.{Got}
use Rattle.packed.specs.code.Comparison.{precedes}
use Rattle.replies.specs.declared.reply.Refusal.TheVariants.{BadTable}
use Rattle.replies.specs.Replies.{table_replied}
use Rattle.ontology.specs.Table.{EventType, Table, is_name, is_name_within, names_rise, type_rules, type_named}
use Rattle.ontology.specs.TableLayout.{read_type, read_table, table_of}
use Rattle.ontology.specs.TableCall.{reply_to_table, table_call}
use Rattle.ontology.specs.declared.types.TypeIndex.{TypeIndex}
use Rattle.ontology.specs.code.TypeIndex.{TypeIs, TypeStops, TypeSaid, TypeSays, TableSaid}
use Rattle.ontology.proofs.RunLaws.{prepend, prepend-nil, prepend-two, such-stop, such-bad, such-more, such-end}
use Rattle.ontology.proofs.TurnLaws.{rise-step, rise-from}
use Rattle.ontology.proofs.TypeLaws.{rules-hold}
use Rattle.std.specs.Prelude as std
use Rattle.std.specs.Prelude.{Some, None, Ok, Err, is_some}

-- a type that meets its rules
abbrev read_ruled : Layout EventType
read_ruled = such_that type_rules read_type

-- ---- the types that are left, each name above the one before

abbrev name_of : EventType → Text
name_of t = t.name

-- their names rise from `last` on
abbrev rises_from : Text → List EventType → Bool
rises_from last ts = rising texts (last ∷ map name_of ts)

-- so many types, whose names do
abbrev pub types_from : Text → ℕ → Layout (List EventType)
types_from last n = such_that (rises_from last) (times read_ruled n)

module _ (last : Text) (n : ℕ) (s : List ℕ) where
  pub types-none : 0 < n → read_ruled s ≡ fail → types_from last n s ≡ fail
  types-none = such-stop read_ruled (rises_from last) n s

  pub types-end : n ≡ 0 → types_from last n s ≡ got [] s
  unfolding rising
  types-end h = such-end read_ruled (rises_from last) n s h refl

  module _ (t : EventType) (u : List ℕ) (h : 0 < n) (e : read_ruled s ≡ got t u) where
    rises_by : {b : Bool} → precedes last t.name ≡ b → (ts : List EventType) → rises_from last (t ∷ ts) ≡ (b && rises_from t.name ts)
    rises_by k ts = rise-step last t.name (map name_of ts) ∙ ap (λ (x : Bool). x && rises_from t.name ts) k

    pub types-low : precedes last t.name ≡ false → types_from last n s ≡ fail
    types-low k = such-bad read_ruled (rises_from last) n s t u h e (rises_by k)

    pub types_more : precedes last t.name ≡ true → types_from last n s ≡ prepend (t ∷ []) (types_from t.name (n - 1) u)
    types_more k = such-more read_ruled (rises_from last) n s t u h e (rises_from t.name) (rises_by k)

type-named : (s : List ℕ) (t : EventType) (r : List ℕ) → read_ruled s ≡ got t r → is_name t.name ≡ true
unfolding is_name_within
type-named s t r e =
    (and_parts (is_name t.name) (leb (length t.name) 64) (rules-hold t (such_that-got type_rules read_type s t r e).test).name).0

all_from : (n : ℕ) (s : List ℕ) → such_that (λ ts. names_rise (map name_of ts)) (times read_ruled n) s ≡ types_from [] n s
all_from n s = go (times read_ruled n s) refl
  where
    go :
        (p : Parse (List EventType)) → times read_ruled n s ≡ p →
        and_then p (λ ts. found_if (names_rise (map name_of ts)) ts) ≡ and_then p (λ ts. found_if (rises_from [] ts) ts)
    go fail e = refl
    go (got ts r) e = ap (λ (x : Bool). cond x (got ts r) fail) (rise-from read_ruled name_of type-named n s ts r e)

-- ---- the table

pub table_none : (s : List ℕ) → such_that (is_within 1 16) read_number (drop 0 s) ≡ fail → read_table s ≡ fail
unfolding read_table
table_none s e = rw e

pub table-from :
    (s : List ℕ) {n next : ℕ} → Got (such_that (is_within 1 16) read_number (drop 0 s)) s 0 n next → read_table s ≡ types_from [] n (drop next s)
unfolding read_table
table-from s {n} {next} g =
    ap (λ (p : Parse ℕ). and_then p (λ count r. and_then (times read_ruled count r) (λ ts. found_if (names_rise (map name_of ts)) ts))) g.is
    ∙ all_from n (drop next s)

pub table-fail : (s : List ℕ) → read_table s ≡ fail → table_of s ≡ none
unfolding table_of
table-fail s e = rw e

-- what r says of the numbers ps it says of others, if these are the same where the type is found
says-stay :
    (o : Option EventType) (s ps qs : List ℕ) (r : std.Option TypeIndex) → (is_some r ≡ true → qs ≡ ps) → TypeSays o s ps r → TypeSays o s qs r
says-stay o s ps qs (Some x) h w = subst (λ (ns : List ℕ). TypeSaid o s ns x) (sym (h refl)) w
says-stay o s ps qs None h w = w

-- The types before `at` are read, and r and the numbers ps have the type of the name among them
pub record Listed (s : List ℕ) (name : Text) (ps : List ℕ) (r : std.Option TypeIndex) (left at start end : ℕ) : Type 0 where
  pub before : List EventType
  pub rest : read_table s ≡ prepend before (types_from (part s start end) left (drop at s))
  pub within : at ≤ length s
  pub order : start ≤ end
  pub ends : end ≤ length s
  pub says : TypeSays (type_named name before) s ps r

pub listed-none :
    (s : List ℕ) (name : Text) (ps : List ℕ) {n left next : ℕ} → Got (such_that (is_within 1 16) read_number (drop 0 s)) s 0 n next → n ≡ left →
    Listed s name ps None left next 0 0
unfolding type_named
listed-none s name ps {n} {left} {next} g e = record {
  before = [];
  rest = table-from s g ∙ prepend-nil (types_from [] n (drop next s)) ∙ ap (λ (m : ℕ). prepend [] (types_from [] m (drop next s))) e;
  within = g.within;
  order = omega arith;
  ends = omega arith;
  says = refl;
}

module _ {s : List ℕ} {name : Text} {ps : List ℕ} {r : std.Option TypeIndex} {left at start end : ℕ} (w : Listed s name ps r left at start end) where
  -- where what is left fails, the table does
  failed : types_from (part s start end) left (drop at s) ≡ fail → table_of s ≡ none
  failed e = table-fail s (w.rest ∙ ap (prepend w.before) e)

  pub listed-bad : 0 < left → read_ruled (drop at s) ≡ fail → table_of s ≡ none
  listed-bad h e = failed (types-none (part s start end) left (drop at s) h e)

  -- a further type is read into the numbers ps', which stay where the type of the name is found
  module _
      {keep : Bool} {ps' : List ℕ} {x : TypeIndex} {next : ℕ} (h : 0 < left) (g : TypeStops (read_ruled (drop at s)) s at keep ps' x next)
    where
      -- the names, where the type's stands in the bytes
      named_here : {b : Bool} → b ≡ precedes (part s start end) (part s x.start x.end) → precedes (part s start end) g.what.name ≡ b
      named_here e = ap (precedes (part s start end)) (sym g.name) ∙ sym e

      pub listed-low : false ≡ precedes (part s start end) (part s x.start x.end) → table_of s ≡ none
      listed-low n = failed (types-low (part s start end) left (drop at s) g.what (drop next s) h g.stops.is (named_here n))

      pub listed_more :
          {q : std.Option TypeIndex} {others : ℕ} → left - 1 ≡ others → true ≡ precedes (part s start end) (part s x.start x.end) →
          is_some r ≡ not keep →
          ((ts : List EventType) (u : EventType) (ns : List ℕ) → TypeSays (type_named name ts) s ns r →
          (r ≡ None → TypeIs s u x ns) →
          TypeSays (type_named name (ts ++ (u ∷ []))) s ns q) →
          (keep ≡ false → ps' ≡ ps) → Listed s name ps' q others next x.start x.end
      listed_more {others = others} e n k kept stay = record {
        before = w.before ++ (g.what ∷ []);
        rest =
            w.rest
            ∙ ap (prepend w.before) (types_more (part s start end) left (drop at s) g.what (drop next s) h g.stops.is (named_here n))
            ∙ prepend-two w.before (g.what ∷ []) (types_from g.what.name (left - 1) (drop next s))
            ∙ ap₂ (λ (v : Text) (n : ℕ). prepend (w.before ++ (g.what ∷ [])) (types_from v n (drop next s))) (sym g.name) e;
        within = g.stops.within;
        order = g.order;
        ends = g.ends;
        says =
            kept w.before g.what ps' (says-stay (type_named name w.before) s ps ps' r (λ f. stay (not-true keep (sym k ∙ f))) w.says)
            (λ f. g.is (not-false keep (sym k ∙ ap is_some f)));
      }

  listed-all : left ≤ 0 → read_table s ≡ got w.before (drop at s)
  listed-all h =
      w.rest ∙ ap (prepend w.before) (types-end (part s start end) left (drop at s) (omega arith))
      ∙ ap (λ (l : List EventType). got l (drop at s)) (append-nil w.before)

  pub listed-exact : left ≤ 0 → at ≡ length s → TableSaid (table_of s) s name ps r
  unfolding table_of
  listed-exact h e =
      let z : length s ≤ at = omega arith in
      record { what = w.before; is = rw (listed-all h, drop_of_length-le s z) refl; says = w.says }

  pub listed-early : left ≤ 0 → (at ≡ length s → ⊥) → table_of s ≡ none
  unfolding table_of
  listed-early h e =
      let z : at < length s = omega (arith, w.within, e) in
      rw (listed-all h, drop-next s at z) refl

-- ---- the type of a name

named_some : (n : Text) (ts : List EventType) (t u : EventType) → type_named n ts ≡ some u → type_named n (ts ++ (t ∷ [])) ≡ some u
unfolding type_named
named_some n [] t u e = never (cc)
named_some n (x ∷ ts) t u e = go (equal texts n x.name) (λ q. named_some n ts t u q) e
  where
    go :
        (b : Bool) → (type_named n ts ≡ some u → type_named n (ts ++ (t ∷ [])) ≡ some u) → cond b (some x) (type_named n ts) ≡ some u →
        cond b (some x) (type_named n (ts ++ (t ∷ []))) ≡ some u
    go true f e = e
    go false f e = f e

named_none :
    (n : Text) (ts : List EventType) (t : EventType) → type_named n ts ≡ none →
    type_named n (ts ++ (t ∷ [])) ≡ cond (equal texts n t.name) (some t) none
unfolding type_named
named_none n [] t e = refl
named_none n (x ∷ ts) t e = go (equal texts n x.name) (λ q. named_none n ts t q) e
  where
    go :
        (b : Bool) → (type_named n ts ≡ none → type_named n (ts ++ (t ∷ [])) ≡ cond (equal texts n t.name) (some t) none) →
        cond b (some x) (type_named n ts) ≡ none → cond b (some x) (type_named n (ts ++ (t ∷ []))) ≡ cond (equal texts n t.name) (some t) none
    go true f e = never (cc)
    go false f e = f e

module _ (n : Text) (ts : List EventType) (t : EventType) (s ps : List ℕ) where
  pub keep-old :
      (r : std.Option TypeIndex) → is_some r ≡ true → TypeSays (type_named n ts) s ps r → TypeSays (type_named n (ts ++ (t ∷ []))) s ps r
  keep-old (Some y) h w = record { what = w.what; is = named_some n ts t w.what w.is; typed = w.typed }
  keep-old None h w = never (cc)

  -- none is found yet, and x is the next type, whose name stands in the bytes
  module _ (x : TypeIndex) where
    now-named :
        {b : Bool} → type_named n ts ≡ none → TypeIs s t x ps → b ≡ equal texts n (part s x.start x.end) →
        type_named n (ts ++ (t ∷ [])) ≡ cond b (some t) none
    now-named h is e = named_none n ts t h ∙ ap (λ (b : Bool). cond b (some t) none) (ap (equal texts n) (sym is.name) ∙ sym e)

    pub keep-new :
        (r : std.Option TypeIndex) → is_some r ≡ false → TypeSays (type_named n ts) s ps r → (r ≡ None → TypeIs s t x ps) →
        true ≡ equal texts n (part s x.start x.end) → TypeSaid (type_named n (ts ++ (t ∷ []))) s ps x
    keep-new None h w is e = record { what = t; is = now-named w (is refl) e; typed = is refl }
    keep-new (Some y) h w is e = never (cc)

    pub keep-none :
        (r : std.Option TypeIndex) → is_some r ≡ false → TypeSays (type_named n ts) s ps r → (r ≡ None → TypeIs s t x ps) →
        false ≡ equal texts n (part s x.start x.end) → TypeSays (type_named n (ts ++ (t ∷ []))) s ps r
    keep-none None h w is e = now-named w (is refl) e
    keep-none (Some y) h w is e = never (cc)

-- ---- the call

pub reply-refused : (s : List ℕ) → table_of s ≡ none → table_replied (Err BadTable) ≡ table_call s
unfolding table_replied table_call reply_to_table
reply-refused s e = rw e

pub reply-accepted : (s : List ℕ) {ts : Table} → table_of s ≡ some ts → table_replied (Ok tt) ≡ table_call s
unfolding table_replied table_call reply_to_table
reply-accepted s e = rw e
