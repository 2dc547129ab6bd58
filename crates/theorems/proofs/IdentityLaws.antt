-- Equal hash texts are of one identity: reading undoes the hash text, and gives the identity (`reads-back`). Question 7 asks for the same identity of two
-- dossiers.
use mathlib.Core.Path.{◌≡◌, refl, sym, ap, ◌∙◌}
use mathlib.Core.Logic.{◌↔◌}
use mathlib.Core.Bool.{Bool, true, false}
use mathlib.Core.Option.{some, some-injective}
use mathlib.Core.List.Memᴰ
use mathlib.Core.List.{List, [], ◌∷◌, map}
use Prim.Native.Nat.{ℕ, ◌≤◌}
use lib.ListN.{length}
use Rattle.model.specs.Order.{Text}
use Rattle.model.specs.Limits.{Limits, Permitted, fits}
use Rattle.model.specs.Rule.{rule}
use Rattle.model.specs.Ways.{wrote}
use Rattle.model.proofs.WayClaims.{Each, Has}
use Rattle.model.proofs.Cases.{never}
use Rattle.replies.specs.Answers as answers
use Rattle.replies.specs.Answers.{answer, reply_of}
use Rattle.replies.specs.Capacities.{dossier_capacity, hash_text_capacity}
use Rattle.replies.specs.Questions.{accepted, ◌>>◌, ensure}
use Rattle.replies.proofs.CapacityLaws.{has_room_lem}
use Rattle.replies.proofs.RangeLaws.{in-range}
use Rattle.ontology.specs.Table.{EventType, Table, type_named}
use Rattle.ontology.specs.TableLayout.{table_of}
use Rattle.ontology.proofs.TypeIndexLaws.{named-at}
use Rattle.event.specs.Event.{Event, type_view, view}
use Rattle.event.specs.EventLayout.{narrow, wide}
use Rattle.event.specs.EventQuestions.{Typed, event_asked}
use Rattle.event.specs.Agreement.{match_sets}
use Rattle.event.proofs.EventLayoutLaws.{event-was}
use Rattle.event.proofs.EventQuestionLaws.{EventAccepted, event-accepted, accepted-wide}
use Rattle.dossier.specs.DossierLayout.{dossier_bytes, headed}
use Rattle.dossier.specs.DossierQuestions.{TypedDossier, dossier_asked, dossier_match, dossiers_agree}
use Rattle.dossier.proofs.DossierQuestionLaws.{match-sets, agree-exact}
use Rattle.hashing.specs.HashText.{event_text}
use Rattle.hashing.specs.HashCalls.{hash_text_asked, hash_text_answer, hash_text_call}
use Rattle.hashing.specs.ReadHashText.{Identity, identity_of, read_hash_text}
use Rattle.hashing.proofs.ReadBackLaws.{reads-back}
use Rattle.ways.specs.ByteWays.{event_or, event_at, returned, HasRoom}
use Rattle.ways.proofs.MergedEventLaws.{hash-same}
use Rattle.ways.proofs.CallLaws.{returned-gives, Colliding, Inside, asked, same-match, checked-one, one-fits}
use Rattle.combining.specs.CheckCall.{check_call}
use Rattle.combining.specs.CombineCall.{headed_as, combined, combine_asked, combine_answer, combine_call}
use Rattle.theorems.proofs.DemandLaws.{check-accepted}
use Rattle.theorems.specs.HashIdentity.{SameIdentity, text_of, SameText, HashIdentity}

-- calls that returned the same wrote the same
wrote-same : (x y : List ℕ) → wrote x ≡ wrote y → x ≡ y
wrote-same x y e = cc

-- a call is refused with 7 exactly where that question is answered no
seven : (b c : Bool) (x : List ℕ) → (reply_of (answer (ensure 7 b >> (ensure 8 c >> accepted x))) ≡ answers.Reply.refused 7 → ⊥) ↔ (b ≡ true)
seven true true x = (λ h. refl, λ e h. never (cc))
seven true false x = (λ h. refl, λ e h. never (cc))
seven false c x = (λ h. absurd (h refl), λ e. never (cc))

module _ (table : List ℕ) (types : Table) (is_table : table_of table ≡ some types) where
  type-named : (s : List ℕ) (a : Typed) → event_asked wide types s ≡ accepted a → a.type.name ≡ a.event.head.type
  type-named s a h = (named-at a.event.head.type types a.type (event-accepted wide types s a.type a.event h).typed).2

  module _
      (s r : List ℕ) (a b : Typed) (left : event_asked wide types s ≡ accepted a) (right : event_asked wide types r ≡ accepted b) where
    read : EventAccepted wide types s a.type a.event
    read = event-accepted wide types s a.type a.event left

    read' : EventAccepted wide types r b.type b.event
    read' = event-accepted wide types r b.type b.event right

    long : length a.event.sets ≡ length b.event.sets
    long = (event-was wide s a.event read.read).1.sets.long ∙ sym (event-was wide r b.event read'.read).1.sets.long

    -- a name has one type in the table
    one_type : a.event.head.type ≡ b.event.head.type → a.type ≡ b.type
    one_type e = some-injective a.type b.type (sym read.typed ∙ ap (λ (n : Text). type_named n types) e ∙ read'.typed)

    -- reading gives each identity back from its text
    identity-texts : SameText a b → identity_of a ≡ identity_of b
    identity-texts e =
        some-injective (identity_of a) (identity_of b)
        (sym (reads-back wide table s types a is_table left) ∙ ap (read_hash_text types) e ∙ reads-back wide table r types b is_table right)

    same-identity : identity_of a ≡ identity_of b → SameIdentity a b
    same-identity e =
        let named = ap (λ (x : Identity). x.type) e in
        record {
          source = ap (λ (x : Identity). x.source) e;
          type = named;
          match = (match-sets a.type.properties a.event.sets b.event.sets long).1
              (ap (λ (x : Identity). x.sets) e ∙ ap (λ (t : EventType). match_sets t.properties b.event.sets) (sym (one_type named)));
        }

    texts-same : SameIdentity a b → SameText a b
    texts-same i =
        hash-same a.type a.event b.event i.source long i.match
        ∙ ap (λ (t : EventType). event_text t b.event) (one_type i.type)

    same-exactly : SameText a b ↔ SameIdentity a b
    same-exactly = (λ e. same-identity (identity-texts e), texts-same)

  -- ---- the call

  text-gives :
      (s out : List ℕ) (a : Typed) → event_asked wide types s ≡ accepted a → hash_text_capacity ≤ length out →
      returned (hash_text_call table s out) ≡ wrote (text_of a)
  unfolding hash_text_call hash_text_answer hash_text_asked
  text-gives s out a h room = rw (has_room_lem hash_text_capacity (length out) room, is_table, h) (returned-gives (text_of a) out)

  calls-exactly :
      (s r out old : List ℕ) (a b : Typed) → event_asked wide types s ≡ accepted a → event_asked wide types r ≡ accepted b →
      hash_text_capacity ≤ length out → hash_text_capacity ≤ length old →
      (returned (hash_text_call table s out) ≡ returned (hash_text_call table r old)) ↔ SameIdentity a b
  calls-exactly s r out old a b left right room room' =
      let given = text-gives s out a left room in
      let given' = text-gives r old b right room' in
      let (there, back) = same-exactly s r a b left right in
      (λ e. there (wrote-same _ _ (sym given ∙ e ∙ given')), λ i. given ∙ ap wrote (back i) ∙ sym given')

  -- ---- question 7

  module _ (limits : Limits) (permitted : Permitted limits) where
    -- an accepted event and its dossier
    module _ (s : List ℕ) (a : Typed) (taken : event_asked narrow types s ≡ accepted a) where
      abbrev t : EventType
      t = a.type

      abbrev uri : Text
      uri = a.event.head.source

      itself : event_at s ≡ a.event
      unfolding event_or
      itself = rw (event-accepted narrow types s t a.event taken).read

      own : Colliding types t uri s s
      own = record { taken = rw itself taken; source = rw itself; alike = λ p q at y. refl }

      abbrev these : List Event
      these = map event_at (s ∷ [])

      abbrev of_one : TypedDossier
      of_one = record { type = t; headed = headed t.name uri (rule (view t) these) }

      one : Has (s ∷ [])
      one = (s, Memᴰ.head refl)

      each : Each (Colliding types t uri s) (s ∷ [])
      each x m = rw (Memᴰ.eq_of_singleton m) own

      inside : Inside limits permitted table types is_table t uri s own (s ∷ [])
      inside = one-fits limits permitted table types is_table t uri s own s own

      -- checking gave the dossier of this event alone, and its questions are answered yes
      dossier-asked : (x d : List ℕ) → returned (check_call table s x) ≡ wrote d → dossier_asked limits types d ≡ accepted of_one
      dossier-asked x d e =
          let gave = checked-one limits permitted table types is_table t uri s own x s (check-accepted table s x d e).0 own in
          ap (dossier_asked limits types) (wrote-same _ _ (sym e ∙ gave)) ∙
          asked limits permitted table types is_table t uri s own (s ∷ []) one each inside

      -- it has the event's match sets
      dossier-match : dossier_match t of_one.headed.snapshots ≡ match_sets t.properties a.event.sets
      dossier-match =
          same-match limits permitted table types is_table t uri s own (s ∷ []) one each inside
          ∙ ap (λ (e : Event). match_sets t.properties e.sets) itself

    module _
        (s r : List ℕ) (a b : Typed) (left : event_asked narrow types s ≡ accepted a) (right : event_asked narrow types r ≡ accepted b) where
      agree-exactly : (dossiers_agree (of_one s a left) (of_one r b right) ≡ true) ↔ SameText a b
      unfolding dossiers_agree
      agree-exactly =
          let l = accepted-wide types s a left in
          let m = accepted-wide types r b right in
          let named = type-named s a l in
          let named' = type-named r b m in
          let sets = dossier-match s a left in
          let sets' = dossier-match r b right in
          let (there, back) = agree-exact a.type.name (uri s a left) _ b.type.name (uri r b right) _ in (
            λ h.
                let (n, u, k) = there h in
                let types_same = sym named ∙ n ∙ named' in
                let sets_same = sym sets ∙ k ∙ sets' in
                texts-same s r a b l m (same-identity s r a b l m (λ i. record { source = u i; type = types_same i; sets = sets_same i })),
            λ e.
                let i = identity-texts s r a b l m e in
                back (
                  named ∙ ap (λ (x : Identity). x.type) i ∙ sym named',
                  ap (λ (x : Identity). x.source) i,
                  sets ∙ ap (λ (x : Identity). x.sets) i ∙ sym sets',
                ),
          )

      combines-exactly :
          (x y d e out : List ℕ) → returned (check_call table s x) ≡ wrote d → returned (check_call table r y) ≡ wrote e → HasRoom out →
          ((combine_call limits table d e out).reply ≡ answers.Reply.refused 7 → ⊥) ↔ SameText a b
      unfolding combine_call combine_answer combine_asked
      combines-exactly x y d e out p q room =
          let (there, back) = agree-exactly in
          let c = of_one s a left in
          let f = of_one r b right in
          let both = combined c f in
          let (free, met) = seven (dossiers_agree c f) (fits limits (type_view a.type) both) (dossier_bytes (headed_as c.headed both)) in
          rw (
            in-range limits permitted,
            has_room_lem dossier_capacity (length out) room,
            is_table,
            dossier-asked s a left x d p,
            dossier-asked r b right y e q,
          )
          (λ h. there (free h), λ h. met (back h))

-- "Show that two accepted events have equal hash texts exactly when source URI, type name and every match property's set are equal"
pub hash-identity : (table : List ℕ) (types : Table) → table_of table ≡ some types → HashIdentity table types
hash-identity table types is_table = record {
  events = λ s r a b left right. same-exactly table types is_table s r a b (accepted-wide types s a left) (accepted-wide types r b right);
  taken = same-exactly table types is_table;
  gives = text-gives table types is_table;
  calls = calls-exactly table types is_table;
  combines = combines-exactly table types is_table;
}
