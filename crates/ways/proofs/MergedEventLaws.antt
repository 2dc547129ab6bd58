-- Where the dossier of accepted events opens as a merged event, questions 3 to 6 of that event are answered yes, and it has the hash text of each of them.
use mathlib.Core.Path.{◌≡◌, refl, sym, ap, ap₂, ◌∙◌, subst}
use mathlib.Core.Bool.{true, cond, not, ◌||◌, and-eq-true_iff}
use mathlib.Core.Option.{none, some}
use mathlib.Core.List.{List, [], ◌∷◌, ◌++◌, map, flatten, Memᴰ}
use Prim.Native.Nat.{ℕ, suc, ◌^◌, ◌≤◌, ◌<◌}
use native.Mathlib.Omega.{arith}
use lib.Dec.{leb}
use lib.ListN.{length, get_or, get_elem?, length-map}
use borrow.Author.Tests.{le-leb}
use Rattle.model.specs.Order.{Text, texts}
use Rattle.model.specs.Rule.{places, Dossier, rule}
use Rattle.model.specs.Limits.{Limits}
use Rattle.model.specs.Opening.{merged, merged_at, merged_sets, opening}
use Rattle.model.proofs.WayClaims.{Has}
use Rattle.model.proofs.Cases.{truth}
use Rattle.model.proofs.SetLaws.{rising-ups}
use Rattle.model.proofs.PartLaws.{length-up_to}
use Rattle.model.proofs.OpeningLaws.{merged-sets-at, opening-merged, merged-single, merged_value, merged-rises, merged_some, merged-match}
use Rattle.model.proofs.SizeLaws.{merged-limit}
use Rattle.replies.specs.Questions.{accepted}
use Rattle.ontology.specs.Table.{Property, EventType, Table, is_match, type_named}
use Rattle.ontology.proofs.TableLaws.{place_in}
use Rattle.event.specs.Event.{Event, object_count, set_at, type_view, event_view, view}
use Rattle.event.specs.EventLayout.{wide, event_bytes}
use Rattle.event.specs.Head.{is_source}
use Rattle.event.specs.EventQuestions.{is_empty, set_fits, event_shape, are_in_space, values_fit, event_asked}
use Rattle.event.proofs.EventLayoutLaws.{SetWritten, EventWritten, event-read}
use Rattle.event.proofs.EventQuestionLaws.{all-member, member-all, all-at, at_all, place-each, are-in-space, MatchAlike, match-count, fits-some, set-written}
use Rattle.event.proofs.EventQuestionLaws.{set-rises, choice-none, choice-match, single-at, flat-objects, accepted-event}
use Rattle.event.proofs.EventSizeLaws.{each_within}
use Rattle.dossier.specs.DossierLayout.{headed}
use Rattle.dossier.proofs.DossierHeadLaws.{head_more}
use Rattle.hashing.specs.HashText.{object_string, object_strings, hash_text, event_text}
use Rattle.opening.specs.OpenCall.{merged_event}
use Rattle.ways.specs.ByteWays.{SameMatch}
use Rattle.ways.proofs.RuleQuestionLaws.{has-length, few-objects, Gathered, parents-written}

-- ---- the hash text is that of source, type and match sets

object-strings :
    (ps : List Property) (ss ts : List (List Text)) → length ss ≡ length ts → MatchAlike ps ss ts → object_strings ps ss ≡ object_strings ps ts
unfolding object_strings
object-strings [] ss ts l h = refl
object-strings (x ∷ ps) [] [] l h = refl
object-strings (x ∷ ps) [] (t ∷ ts) l h = absurd (omega arith)
object-strings (x ∷ ps) (s ∷ ss) [] l h = absurd (omega arith)
object-strings (x ∷ ps) (s ∷ ss) (t ∷ ts) l h =
    ap₂ (λ (a b : List Text). a ++ b)
    (truth (is_match x) (λ y. ap (λ (r : List Text). cond (is_match x) (map (object_string x.name) r) []) (h 0 x refl y)) (λ n. rw n))
    (object-strings ps ss ts (omega arith) (λ p q e y. h (suc p) q e y))

pub hash-same :
    (t : EventType) (e f : Event) → e.head.source ≡ f.head.source → length e.sets ≡ length f.sets → SameMatch t e f →
    event_text t e ≡ event_text t f
unfolding hash_text
hash-same t e f b l m = rw (b, object-strings t.properties e.sets f.sets l m)

module _
    {limits : Limits} (t : EventType) (uri : Text) (d : Event) (es : List Event) (g : Gathered limits t uri d es) (ss : List (List Text))
    (o : opening (type_view t) (rule (view t) es) ≡ merged ss)
  where
    abbrev ruled : Dossier
    ruled = rule (view t) es

    sets-are : merged_sets (type_view t) ruled ≡ ss
    sets-are = (opening-merged (type_view t) ruled ss o).2

    sets-long : length ss ≡ 32
    unfolding merged_sets places type_view event_view
    sets-long = ap (λ (x : List (List Text)). length x) (sym sets-are) ∙
        (length-map (places (type_view t)) (merged_at (type_view t) ruled) ∙ length-up_to 32)

    set-from : (p : ℕ) → get_or ss p [] ≡ get_or (merged_sets (type_view t) ruled) p []
    set-from p = ap (λ (x : List (List Text)). get_or x p []) (sym sets-are)

    set_is : (p : ℕ) → p < 32 → get_or ss p [] ≡ merged_at (type_view t) ruled p
    unfolding type_view event_view
    set_is p l = set-from p ∙ merged-sets-at (type_view t) ruled p l

    vacant : (p : ℕ) → p < 32 → get_elem? t.properties p ≡ none → get_or ss p [] ≡ []
    unfolding type_view event_view
    vacant p l c =
        let chosen = choice-none t p c in
        set-from p ∙ merged-match (view t) es p l [] chosen.0 chosen.1 tt g.one (λ e i. (g.fit e i).vacant p c)

    alike : MatchAlike t.properties ss d.sets
    unfolding type_view event_view
    alike p q at x =
        let chosen = choice-match t p q at x in
        set-from p
        ∙ merged-match (view t) es p (place_in t g.kept p q at) (set_at d p) chosen.0 chosen.1 (set-rises t d g.model p) g.one
        (λ e i. g.alike e i p q at x)

    same_length : length ss ≡ length d.sets
    same_length = sets-long ∙ sym g.model.written.sets.long

    fit_at : (p : ℕ) (q : Property) → get_elem? t.properties p ≡ some q → set_fits q (get_or ss p []) ≡ true
    unfolding set_fits type_view event_view
    fit_at p q at =
        let l = place_in t g.kept p q at in
        let s = get_or ss p [] in
        let from = sym (set_is p l) in
        let (free, full, is) = opening-merged (type_view t) ruled ss o in
        (and-eq-true_iff (q.optional || leb 1 (length s)) (q.multivalued || leb (length s) 1)).1 (
          truth q.optional
              (λ c. rw c)
              (λ c. rw c (le-leb 1 (length s) (has-length s
              (subst Has from (merged_some (view t) es p l free g.one (λ e i. fits-some q (set_at e p) ((g.fit e i).fits p q at) c)))))),
          truth q.multivalued
              (λ c. rw c)
              (λ c. rw c (le-leb (length s) 1 (subst (λ (x : List Text). length x ≤ 1) from
              (merged-single (type_view t) ruled full p l (single-at t p q at ∙ ap not c))))),
        )

    value_of : (p : ℕ) → p < 32 → (v : Text) → Memᴰ v (get_or ss p []) → (e : Event) × Memᴰ e es × Memᴰ v (set_at e p)
    unfolding type_view event_view
    value_of p l v i = merged_value (view t) es p l v (rw (set_is p l) at i)

    objects-few : object_count ss ≤ 256
    objects-few =
        omega (
          arith,
          flat-objects ss,
          ap (λ (x : List (List Text)). length (flatten x)) sets-are,
          merged-limit (view t) limits 32 256 es g.inside (omega (arith, g.permitted.few-versions)) g.permitted.few-objects
              (few-objects t es g.fit),
        )

    set-written-at : (p : ℕ) → p < 32 → SetWritten (get_or ss p [])
    unfolding type_view event_view
    set-written-at p l = record {
      rises = (rising-ups texts (get_or ss p [])).1 (rw (set_is p l) (merged-rises (view t) es p l (λ e i. set-rises t e (g.fit e i) p)));
      few = omega (arith, all-at (λ (x : List Text). length x ≤ 256) [] (omega arith) ss (each_within 256 ss objects-few) p);
      short = member-all (λ (v : Text). length v < 2 ^ 64) (get_or ss p []) (λ v i.
          let (e, j, r) = value_of p l v i in
          all-member (λ (w : Text). length w < 2 ^ 64) (set_at e p) (set-written t e (g.fit e j) p).short v r);
    }

    abbrev opened : Event
    opened = merged_event (headed t.name uri ruled) ss

    merged-written : EventWritten wide opened
    unfolding wide merged_event
    merged-written = record {
      head = head_more g.permitted.few-parents opened.head (record {
        type = omega (arith, g.kept.short);
        source = subst (λ (u : Text). is_source u ≡ true) (g.from g.one.0 g.one.1) (g.fit g.one.0 g.one.1).written.head.source;
        parents = parents-written t uri d es g;
      });
      sets = record { long = sets-long; each = at_all SetWritten [] ss (λ p l. set-written-at p (omega (arith, sets-long))) };
      objects = objects-few;
    }

    -- questions 3 to 6 of the merged event
    pub merged-asked :
        (table : Table) → type_named t.name table ≡ some t →
        event_asked wide table (event_bytes opened) ≡ accepted (record { type = t; event = opened })
    unfolding merged_event event_shape values_fit
    merged-asked table y = accepted-event wide table (event_bytes opened) t opened (record {
      read = event-read wide opened merged-written;
      typed = y;
      shape =
          rw (
            place-each set_fits is_empty t.properties ss fit_at (λ p l c. rw (vacant p (omega (arith, sets-long)) c)),
            match-count t.properties ss d.sets same_length alike,
          )
          (le-leb _ 32 g.model.matches);
      values = place-each (λ q s. are_in_space q.kind s) (λ s. true) t.properties ss
          (λ p q at. are-in-space q.kind (get_or ss p [])
          (λ v i. let (e, j, r) = value_of p (place_in t g.kept p q at) v i in (g.fit e j).values p q at v r))
          (λ p l c. refl);
    })

    pub merged-text : d.head.source ≡ uri → event_text t opened ≡ event_text t d
    unfolding merged_event
    merged-text s = hash-same t opened d (sym s) same_length alike
