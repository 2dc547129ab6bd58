-- What succeeds under smaller limits is the same under larger ones: each question that takes the limits is answered yes under the larger ones too, and what is
-- written of dossiers that are taken does not hang on the limits.
use mathlib.Core.Path.{◌≡◌, refl, sym, ap, ◌∙◌, subst}
use mathlib.Core.Bool.{true}
use mathlib.Core.List.{List, [], ◌∷◌}
use Prim.Native.Nat.{ℕ}
use lib.Dec.{leb}
use lib.ListN.{length}
use Rattle.model.specs.Limits.{Limits, is_permitted, Permitted, NoLarger, fits}
use Rattle.model.specs.Ways as ways
use Rattle.model.specs.Ways.{Way, leaf, node, wrote, said, next, calls}
use Rattle.model.proofs.Cases.{never}
use Rattle.model.proofs.LimitLaws.{fits-larger}
use Rattle.replies.specs.Questions as questions
use Rattle.replies.specs.Questions.{Asked, ask, ensure}
use Rattle.replies.specs.Capacities.{dossier_capacity}
use Rattle.replies.specs.Answers.{answer, reply_of, Outcome, outcome}
use Rattle.replies.proofs.QuestionLaws.{asked-then, ensured}
use Rattle.replies.proofs.RangeLaws.{in-range}
use Rattle.ontology.specs.Table.{Table}
use Rattle.ontology.specs.TableLayout.{table_of}
use Rattle.event.specs.Event.{type_view}
use Rattle.event.specs.EventQuestions.{Typed}
use Rattle.dossier.specs.DossierLayout.{model_of}
use Rattle.dossier.specs.DossierQuestions.{TypedDossier, dossier_asked, dossiers_agree}
use Rattle.dossier.proofs.LargerLaws.{asked-larger}
use Rattle.combining.specs.CombineCall.{combined, combine_asked, combine_answer, combine_call}
use Rattle.opening.specs.OpenCall.{asked_opening, open_answer, open_call}
use Rattle.batch.specs.Batch.{AskedAt, refused_at, accepted, ◌>>◌, at, events_asked}
use Rattle.batch.specs.Batch.{agree_with, batch_dossier, together, batch_of, batch_asked, batch_given, Rooms}
use Rattle.batch.specs.Batch.{have_room, batch_answer, batch_call}
use Rattle.batch.proofs.GatheredLaws.{at-then, at_next, at-ensured}
use Rattle.ways.specs.ByteWays.{returned, way_answer}
use Rattle.theorems.specs.LargerLimits.{Succeeds, LargerLimits}

module _ (small large : Limits) (permitted : Permitted large) (w : NoLarger small large) where
  -- ---- the questions

  combine-larger :
      (room : ℕ) (table left right x : List ℕ) → combine_asked small room table left right ≡ questions.accepted x →
      combine_asked large room table left right ≡ questions.accepted x
  unfolding combine_asked
  combine-larger room table left right x e =
      let (ranged, e) = ensured 18 (is_permitted small) _ x e in
      let (roomy, e) = ensured 1 (leb dossier_capacity room) _ x e in
      let (ts, is_table, e) = asked-then (ask 2 (table_of table)) _ x e in
      let (a, first, e) = asked-then (dossier_asked small ts left) _ x e in
      let (b, second, e) = asked-then (dossier_asked small ts right) _ x e in
      let (agree, e) = ensured 7 (dossiers_agree a b) _ x e in
      let (inside, e) = ensured 8 (fits small (type_view a.type) (combined a b)) _ x e in
      rw (
        in-range large permitted,
        roomy,
        is_table,
        asked-larger w ts left a first,
        asked-larger w ts right b second,
        agree,
        fits-larger (type_view a.type) w (combined a b) inside,
      )
      e

  -- the questions of opening
  abbrev open_asked : Limits → ℕ → List ℕ → List ℕ → Asked TypedDossier
  open_asked limits room table s =
      questions.◌>>◌ (ensure 18 (is_permitted limits))
      (questions.◌>>◌ (ensure 1 (leb dossier_capacity room)) (questions.◌>>=◌ (ask 2 (table_of table)) (λ ts. dossier_asked limits ts s)))

  open-larger :
      (room : ℕ) (table s : List ℕ) (a : TypedDossier) → open_asked small room table s ≡ questions.accepted a →
      open_asked large room table s ≡ questions.accepted a
  open-larger room table s a e =
      let (ranged, e) = ensured 18 (is_permitted small) _ a e in
      let (roomy, e) = ensured 1 (leb dossier_capacity room) _ a e in
      let (ts, is_table, e) = asked-then (ask 2 (table_of table)) _ a e in
      rw (in-range large permitted, roomy, is_table) (asked-larger w ts s a e)

  together-larger : (xs : List Typed) (d : TypedDossier) → together small xs ≡ accepted d → together large xs ≡ accepted d
  unfolding together
  together-larger [] d e = e
  together-larger (a ∷ bs) d e =
      let whole = model_of (batch_dossier a bs) in
      let (u, agree, e) = at_next (agree_with a 1 bs) _ d e in
      let (v, inside, e) = at_next (at 0 (ensure 8 (fits small (type_view a.type) whole))) _ d e in
      let fitting = fits-larger (type_view a.type) w whole (at-ensured 0 8 (fits small (type_view a.type) whole) v inside) in
      rw (agree, fitting) e

  -- the questions of a batch
  abbrev whole_asked : Limits → Rooms → List ℕ → List ℕ → AskedAt TypedDossier
  whole_asked limits rooms table batch = at 0 (ensure 18 (is_permitted limits)) >> (at 0 (ensure 1 (have_room rooms)) >> batch_asked limits table batch)

  batch-larger :
      (rooms : Rooms) (table batch : List ℕ) (d : TypedDossier) → whole_asked small rooms table batch ≡ accepted d →
      whole_asked large rooms table batch ≡ accepted d
  unfolding batch_asked
  batch-larger rooms table batch d e =
      let (u, ranged, e) = at_next (at 0 (ensure 18 (is_permitted small))) _ d e in
      let (v, roomy, e) = at_next (at 0 (ensure 1 (have_room rooms))) _ d e in
      let (ts, is_table, e) = at-then (at 0 (ask 2 (table_of table))) _ d e in
      let (ss, is_batch, e) = at-then (at 0 (ask 9 (batch_of batch))) _ d e in
      let (xs, asked, e) = at-then (events_asked ts 0 ss) _ d e in
      again (at-ensured 0 1 (have_room rooms) v roomy) is_table is_batch asked (together-larger xs d e)
    where
      again :
          {ts : Table} {ss : List (List ℕ)} {xs : List Typed} → have_room rooms ≡ true → at 0 (ask 2 (table_of table)) ≡ accepted ts →
          at 0 (ask 9 (batch_of batch)) ≡ accepted ss → events_asked ts 0 ss ≡ accepted xs → together large xs ≡ accepted d →
          whole_asked large rooms table batch ≡ accepted d
      again room is_table is_batch asked e = rw (in-range large permitted, room, is_table, is_batch, asked) e

  -- ---- the calls

  combine-same :
      (table left right out : List ℕ) → Succeeds (combine_call small table left right out).reply →
      combine_call large table left right out ≡ combine_call small table left right out
  unfolding combine_call combine_answer Succeeds
  combine-same table left right out h = go (combine_asked small (length out) table left right) refl h
    where
      go : (q : Asked (List ℕ)) → combine_asked small (length out) table left right ≡ q → Succeeds (reply_of (answer q)) →
          outcome (answer (combine_asked large (length out) table left right)) out
          ≡ outcome (answer (combine_asked small (length out) table left right)) out
      go (questions.refused n) e h = absurd h
      go (questions.accepted x) e h =
          ap (λ (q : Asked (List ℕ)). outcome (answer q) out) (combine-larger (length out) table left right x e ∙ sym e)

  open-same :
      (table dossier out : List ℕ) → Succeeds (open_call small table dossier out).reply →
      open_call large table dossier out ≡ open_call small table dossier out
  unfolding open_call open_answer asked_opening Succeeds
  open-same table dossier out h = go (open_asked small (length out) table dossier) refl h
    where
      go : (q : Asked TypedDossier) → open_asked small (length out) table dossier ≡ q → Succeeds (reply_of (asked_opening q)) →
          outcome (asked_opening (open_asked large (length out) table dossier)) out
          ≡ outcome (asked_opening (open_asked small (length out) table dossier)) out
      go (questions.refused n) e h = absurd h
      go (questions.accepted a) e h =
          ap (λ (q : Asked TypedDossier). outcome (asked_opening q) out) (open-larger (length out) table dossier a e ∙ sym e)

  batch-same :
      (rooms : Rooms) (table batch out : List ℕ) → Succeeds (batch_call small rooms table batch out).reply →
      batch_call large rooms table batch out ≡ batch_call small rooms table batch out
  unfolding batch_call batch_answer batch_given Succeeds
  batch-same rooms table batch out h = go (whole_asked small rooms table batch) refl h
    where
      go : (q : AskedAt TypedDossier) → whole_asked small rooms table batch ≡ q → Succeeds (reply_of (batch_given q)) →
          outcome (batch_given (whole_asked large rooms table batch)) out ≡ outcome (batch_given (whole_asked small rooms table batch)) out
      go (refused_at n i) e h = absurd h
      go (accepted d) e h = ap (λ (q : AskedAt TypedDossier). outcome (batch_given q) out) (batch-larger rooms table batch d e ∙ sym e)

  -- ---- whole ways

  -- a dossier that a combine returns
  combine-returned :
      (table out a b d : List ℕ) → returned (combine_call small table a b out) ≡ wrote d → returned (combine_call large table a b out) ≡ wrote d
  unfolding combine_call combine_answer
  combine-returned table out a b d h = go (combine_asked small (length out) table a b) refl h
    where
      go : (q : Asked (List ℕ)) → combine_asked small (length out) table a b ≡ q → returned (outcome (answer q) out) ≡ wrote d →
          returned (outcome (answer (combine_asked large (length out) table a b)) out) ≡ wrote d
      go (questions.refused n) e h = never (cc)
      go (questions.accepted x) e h =
          ap (λ (q : Asked (List ℕ)). returned (outcome (answer q) out)) (combine-larger (length out) table a b x e) ∙ h

  way-larger :
      (table : List ℕ) (x : Way (List ℕ) (List ℕ)) (d : List ℕ) → way_answer small table x ≡ wrote d → way_answer large table x ≡ wrote d
  unfolding way_answer calls next
  way-larger table (leaf out s) d e = e
  way-larger table (node out l r) d e =
      go (way_answer small table l) (way-larger table l) (way_answer small table r) (way-larger table r) e
    where
      go :
          (a : ways.Reply (List ℕ)) → ((x : List ℕ) → a ≡ wrote x → way_answer large table l ≡ wrote x) →
          (b : ways.Reply (List ℕ)) → ((y : List ℕ) → b ≡ wrote y → way_answer large table r ≡ wrote y) →
          next (λ x y. returned (combine_call small table x y out)) a b ≡ wrote d →
          next (λ x y. returned (combine_call large table x y out)) (way_answer large table l) (way_answer large table r) ≡ wrote d
      go (said n) f b g e = never (cc)
      go (wrote x) f (said n) g e = never (cc)
      go (wrote x) f (wrote y) g e = rw (f x refl, g y refl) (combine-returned table out x y d e)

  -- what is the same succeeds too
  stays : {o p : Outcome} → p ≡ o → Succeeds o.reply → Succeeds p.reply
  stays e h = subst (λ (x : Outcome). Succeeds x.reply) (sym e) h

  pub larger-limits : LargerLimits small large
  larger-limits = record {
    combine = combine-same;
    opens = open-same;
    batch = batch-same;
    way = way-larger;
    combine_stays = λ table left right out h. stays (combine-same table left right out h) h;
    opens_stays = λ table dossier out h. stays (open-same table dossier out h) h;
    batch_stays = λ rooms table batch out h. stays (batch-same rooms table batch out h) h;
  }
