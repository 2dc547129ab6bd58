-- The calls on accepted events of one type, source and match values are calls as the model asks for them (`Calls`, `HashCalls`).
use mathlib.Core.Path.{◌≡◌, refl, sym, ap, ◌∙◌, subst}
use mathlib.Core.Bool.{Bool, true, false, cond}
use mathlib.Core.Option.{some}
use mathlib.Core.List.Memᴰ
use mathlib.Core.List.{List, [], ◌∷◌, map, Memᴰ}
use Prim.Native.Nat.{ℕ, ◌≤◌}
use native.Mathlib.Omega.{arith}
use lib.ListN.{length, drop}
use lib.Seq.{take-append_seam}
use Rattle.model.specs.Order.{Text}
use Rattle.model.specs.Rule.{Dossier, rule, combine}
use Rattle.model.specs.Limits.{Limits, Permitted, fits}
use Rattle.model.specs.Opening.{Opened, finds, conflict_at, merged, opening}
use Rattle.model.specs.Ways.{wrote, said, limited}
use Rattle.model.proofs.WayClaims.{Each, Has, Calls, HashCalls}
use Rattle.model.proofs.Cases.{never}
use Rattle.model.proofs.LimitLaws.{fits_one}
use Rattle.model.proofs.ViewLaws.{rule-through, combine-through}
use Rattle.replies.specs.Capacities.{dossier_capacity, hash_text_capacity}
use Rattle.replies.specs.Questions.{accepted, ensure, ◌>>◌}
use Rattle.replies.specs.Answers.{Answer, gives, refuses, refuses_at, outcome, answer}
use Rattle.replies.proofs.CapacityLaws.{has_room_lem}
use Rattle.replies.proofs.RangeLaws.{in-range}
use Rattle.ontology.specs.Table.{EventType, Table, type_named}
use Rattle.ontology.specs.TableLayout.{table_of}
use Rattle.ontology.proofs.TableLaws.{table-type}
use Rattle.event.specs.Event.{Event, type_view, event_view, view}
use Rattle.event.specs.EventLayout.{narrow, wide, event_bytes}
use Rattle.event.specs.EventQuestions.{event_asked}
use Rattle.event.proofs.EventQuestionLaws.{EventAccepted, event-accepted, accepted-wide, EventFits, event-fits, count-objects}
use Rattle.event.specs.Agreement.{match_sets}
use Rattle.dossier.specs.DossierLayout.{dossier_bytes, headed}
use Rattle.dossier.specs.DossierQuestions.{dossier_asked, dossiers_agree, dossier_match}
use Rattle.dossier.proofs.DossierQuestionLaws.{agree-exact}
use Rattle.hashing.specs.HashText.{event_text}
use Rattle.hashing.specs.HashCalls.{hash_text_asked, hash_text_answer}
use Rattle.combining.specs.CheckCall.{event_dossier, check_asked, check_answer, check_call}
use Rattle.combining.specs.CombineCall.{combined, combine_asked, combine_answer, combine_call}
use Rattle.opening.specs.OpenCall.{merged_event, opened_answer, asked_opening, open_answer}
use Rattle.ways.specs.ByteWays.{event_at, byte_view, returned, HasRoom, SameMatch}
use Rattle.ways.proofs.RuleQuestionLaws.{Gathered, rule-match, rule-asked}
use Rattle.ways.proofs.MergedEventLaws.{hash-same, merged-asked, merged-text}

-- "the first bytes of its output, as many as it returned"
pub returned-gives : (x out : List ℕ) → returned (outcome (gives x) out) ≡ wrote x
returned-gives x out = ap wrote (take-append_seam x (drop (length x) out))

-- the bytes' rule and combining are those of the events
module _ (t : EventType) where
  pub rule-bytes : (es : List (List ℕ)) → rule (byte_view t) es ≡ rule (view t) (map event_at es)
  rule-bytes es = rule-through event_at (view t) es

  combine-bytes : (es fs : List (List ℕ)) →
      combine (type_view t) (rule (byte_view t) es) (rule (byte_view t) fs)
      ≡ combine (type_view t) (rule (view t) (map event_at es)) (rule (view t) (map event_at fs))
  combine-bytes es fs = combine-through event_at (view t) es fs

-- what is shown of a dossier that is opened
abbrev pub shown_as : EventType → Text → Dossier → Opened → Answer
shown_as t uri d o = opened_answer (headed t.name uri d) o

pub tells-conflict : (t : EventType) (uri : Text) (d : Dossier) (o : Opened) (v p : ℕ) →
    shown_as t uri d o ≡ shown_as t uri d (finds (conflict_at v p)) → o ≡ finds (conflict_at v p)
unfolding opened_answer
tells-conflict t uri d (finds f) v p e = cc
tells-conflict t uri d (merged ss) v p e = never (cc)

-- accepted under the table, of one type and source, and with the match values of the event d
pub record Colliding (types : Table) (t : EventType) (uri : Text) (d s : List ℕ) : Type 0 where
  pub taken : event_asked narrow types s ≡ accepted (record { type = t; event = event_at s })
  pub source : (event_at s).head.source ≡ uri
  pub alike : SameMatch t (event_at s) (event_at d)

module _
    (limits : Limits) (permitted : Permitted limits) (table : List ℕ) (types : Table) (is_table : table_of table ≡ some types) (t : EventType)
    (uri : Text) (d : List ℕ) (c : Colliding types t uri d d) where
  abbrev pub S : List ℕ → Type 0
  S s = Colliding types t uri d s

  -- the rule over such events, its bytes, and that it is inside the limits
  abbrev pub rule_of : List (List ℕ) → Dossier
  rule_of es = rule (byte_view t) es

  abbrev pub bytes_of : List (List ℕ) → List ℕ
  bytes_of es = dossier_bytes (headed t.name uri (rule_of es))

  abbrev pub Inside : List (List ℕ) → Type 0
  Inside es = fits limits (type_view t) (rule_of es) ≡ true

  accepted-at : (s : List ℕ) → S s → EventAccepted narrow types s t (event_at s)
  accepted-at s h = event-accepted narrow types s t (event_at s) h.taken

  fits-at : (s : List ℕ) → S s → EventFits t (event_at s)
  fits-at s h = event-fits types s t (event_at s) (accepted-at s h)

  type_at : type_named t.name types ≡ some t
  type_at = ap (λ (n : Text). type_named n types) (sym (fits-at d c).named) ∙ (accepted-at d c).typed

  -- events by their bytes
  module _ (es : List (List ℕ)) (n : Has es) (h : Each S es) where
    abbrev these : List Event
    these = map event_at es

    of-bytes : (P : Event → Type 0) → ((s : List ℕ) → S s → P (event_at s)) → Each P these
    of-bytes P x e m = let (s, i, q) = Memᴰ.of_map event_at es m in subst P q (x s (h s i))

    module _ (f : Inside es) where
      gathered : Gathered limits t uri (event_at d) these
      gathered = record {
        kept = table-type table types is_table t.name t type_at;
        one = (event_at n.0, Memᴰ.map event_at n.1);
        fit = of-bytes (EventFits t) fits-at;
        model = fits-at d c;
        alike = of-bytes (λ e. SameMatch t e (event_at d)) (λ s k. k.alike);
        from = of-bytes (λ e. e.head.source ≡ uri) (λ s k. k.source);
        permitted = permitted;
        inside = ap (fits limits (type_view t)) (sym (rule-bytes t es)) ∙ f;
      }

      pub asked : dossier_asked limits types (bytes_of es) ≡ accepted (record { type = t; headed = headed t.name uri (rule (view t) these) })
      asked =
          ap (λ (x : Dossier). dossier_asked limits types (dossier_bytes (headed t.name uri x))) (rule-bytes t es)
          ∙ rule-asked t uri (event_at d) these gathered types type_at

      pub same-match : dossier_match t (rule (view t) these).snapshots ≡ match_sets t.properties (event_at d).sets
      same-match = rule-match t uri (event_at d) these gathered

      -- "Opened, the dossier answers what 01's opening says of the rule's bytes."
      pub opens_as : (room : ℕ) → dossier_capacity ≤ room →
          open_answer limits room table (bytes_of es) ≡ shown_as t uri (rule_of es) (opening (type_view t) (rule_of es))
      unfolding open_answer asked_opening
      opens_as room r =
          rw (in-range limits permitted, has_room_lem dossier_capacity room r, is_table, asked)
          (sym (ap (λ (x : Dossier). opened_answer (headed t.name uri x) (opening (type_view t) x)) (rule-bytes t es)))

  -- question 8, and what it leaves
  eight : (b : Bool) (x out : List ℕ) → returned (outcome (answer (ensure 8 b >> accepted x)) out) ≡ cond b (wrote x) (said 8)
  eight true x out = returned-gives x out
  eight false x out = refl

  pub checked-one : (out s : List ℕ) → HasRoom out → S s → returned (check_call table s out) ≡ wrote (bytes_of (s ∷ []))
  unfolding check_call check_answer check_asked event_dossier
  checked-one out s r k =
      rw (has_room_lem dossier_capacity (length out) r, is_table, k.taken)
      (returned-gives _ out ∙ ap wrote (ap dossier_bytes (λ i. headed ((fits-at s k).named i) (k.source i) (sym (rule-bytes t (s ∷ [])) i))))

  pub one-fits : (s : List ℕ) → S s → Inside (s ∷ [])
  unfolding narrow type_view event_view
  one-fits s k =
      let w = (fits-at s k).written in
      let few = count-objects t (event_at s) w.sets.long in
      ap (fits limits (type_view t)) (rule-bytes t (s ∷ []))
      ∙ fits_one (view t) (event_at s) limits permitted.some-versions (omega (arith, w.head.parents.within, permitted.some-parents))
      (omega (arith, few, w.objects, permitted.some-objects))

  pub two-joined :
      (out : List ℕ) (es fs : List (List ℕ)) → HasRoom out → Has es → Has fs → Each S es → Each S fs → Inside es → Inside fs →
      returned (combine_call limits table (bytes_of es) (bytes_of fs) out)
      ≡ limited limits (type_view t) (λ x. dossier_bytes (headed t.name uri x)) (combine (type_view t) (rule_of es) (rule_of fs))
  unfolding combine_call combine_answer combine_asked combined limited dossiers_agree
  two-joined out es fs r n o h g p q =
      let ms = match_sets t.properties (event_at d).sets in
      rw (
        in-range limits permitted,
        has_room_lem dossier_capacity (length out) r,
        is_table,
        asked es n h p,
        asked fs o g q,
        same-match es n h p,
        same-match fs o g q,
        (agree-exact t.name uri ms t.name uri ms).1 (refl, refl, refl),
      )
      (let x = combine (type_view t) (rule (view t) (map event_at es)) (rule (view t) (map event_at fs)) in
      eight (fits limits (type_view t) x) (dossier_bytes (headed t.name uri x)) out
      ∙ sym (ap (limited limits (type_view t) (λ y. dossier_bytes (headed t.name uri y))) (combine-bytes t es fs)))

  unfoldable pub byte-calls : Calls limits (byte_view t) (List ℕ) (List ℕ) Answer HasRoom S
  byte-calls = record {
    encode = λ x. dossier_bytes (headed t.name uri x);
    check = λ out s. returned (check_call table s out);
    join = λ out x y. returned (combine_call limits table x y out);
    opens = λ out x. open_answer limits (length out) table x;
    shown = shown_as t uri;
    one = checked-one;
    fit = one-fits;
    two = two-joined;
    opened = λ out es r n h f. opens_as es n h f (length out) r;
    tells = tells-conflict t uri;
  }

  -- ---- the hash text

  of-asked :
      (out x : List ℕ) (e : Event) → hash_text_capacity ≤ length out → event_asked wide types x ≡ accepted (record { type = t; event = e }) →
      hash_text_answer (length out) table x ≡ gives (event_text t e)
  unfolding hash_text_answer hash_text_asked
  of-asked out x e r a = rw (has_room_lem hash_text_capacity (length out) r, is_table, a)

  -- of an event
  pub event-text : (out s : List ℕ) → hash_text_capacity ≤ length out → S s →
      hash_text_answer (length out) table s ≡ gives (event_text t (event_at s))
  event-text out s r k = of-asked out s (event_at s) r (accepted-wide types s (record { type = t; event = event_at s }) k.taken)

  -- of the bytes that an answer gives
  abbrev pub text_of : List ℕ → Answer → Answer
  text_of out (gives x) = hash_text_answer (length out) table x
  text_of out (Answer.finds f) = refuses 0
  text_of out (refuses n) = refuses 0
  text_of out (refuses_at n i) = refuses 0

  same_text : (s : List ℕ) → S s → event_text t (event_at s) ≡ event_text t (event_at d)
  same_text s k =
      let a = fits-at s k in
      let b = fits-at d c in
      hash-same t (event_at s) (event_at d) (k.source ∙ sym c.source) (a.written.sets.long ∙ sym b.written.sets.long) k.alike

  pub merged-text-is :
      (out : List ℕ) (es : List (List ℕ)) (ss : List (List Text)) (s : List ℕ) → hash_text_capacity ≤ length out → Each S es → Memᴰ s es →
      Inside es →
      opening (type_view t) (rule_of es) ≡ merged ss →
      text_of out (shown_as t uri (rule_of es) (merged ss)) ≡ gives (event_text t (event_at s))
  unfolding opened_answer
  merged-text-is out es ss s r h m f o =
      let n : Has es = (s, m) in
      let ruled = rule-bytes t es in
      let ms = ap (opening (type_view t)) (sym ruled) ∙ o in
      let g = gathered es n h f in
      let e = merged_event (headed t.name uri (rule (view t) (map event_at es))) ss in
      ap (λ (x : Dossier). text_of out (opened_answer (headed t.name uri x) (merged ss))) ruled
      ∙ (of-asked out (event_bytes e) e r (merged-asked t uri (event_at d) (map event_at es) g ss ms types type_at)
      ∙ ap gives (merged-text t uri (event_at d) (map event_at es) g ss ms c.source ∙ sym (same_text s (h s m))))

  unfoldable pub byte-texts : HashCalls byte-calls Answer (λ out. hash_text_capacity ≤ length out)
  unfolding byte-calls
  byte-texts = record {
    defined = λ s. gives (event_text t (event_at s));
    of_event = λ out s. hash_text_answer (length out) table s;
    of_merged = text_of;
    event-hash = event-text;
    merged-hash = merged-text-is;
  }
