-- The laws of the call combine.
use mathlib.Core.Path.{◌≡◌, refl, sym, ap, ap₂, ◌∙◌, subst}
use mathlib.Core.Bool.{Bool, true, false}
use mathlib.Core.Option.{Option, none, some}
use mathlib.Core.List.{List, ◌++◌}
use Prim.Native.Nat.{ℕ, ◌+◌, ◌≤◌, ◌<◌}
use native.Mathlib.Omega.{arith}
use lib.ListN.{length, drop}
use Rattle.std.specs.Prelude.{Some, None, Ok, Err}
use Rattle.std.specs.Prelude as std
use Rattle.std.specs.Option.{option_flatten}
use Rattle.model.specs.Order.{Text}
use Rattle.model.specs.Limits.{Limits, is_permitted, Permitted, fits}
use Rattle.packed.specs.code.Written.{Wrote}
use Rattle.packed.proofs.WriteLaws.{wrote-between}
use Rattle.replies.specs.Questions.{Asked, refused, accepted, ◌>>=◌, ask}
use Rattle.replies.specs.Capacities.{dossier_capacity}
use Rattle.replies.proofs.CapacityLaws.{has_room_lem, too_small}
use Rattle.replies.proofs.RangeLaws.{in-range, out_of_range}
use Rattle.replies.specs.Replies.{refusal_number, replies}
use Rattle.replies.specs.declared.reply.Refusal.{Refusal}
use Rattle.replies.specs.declared.reply.Refusal.TheVariants.{SmallBuffer, Disagreement, OverLimits, BadLimits}
use Rattle.ontology.specs.Table.{EventType, Table, type_named}
use Rattle.ontology.specs.TableLayout.{table_of}
use Rattle.ontology.specs.code.TypeIndex.{PropertiesAre, TypeSays, TableSaid, TableSays}
use Rattle.ontology.specs.declared.types.TypeIndex.{TypeIndex}
use Rattle.ontology.proofs.TypeIndexLaws.{known-says}
use Rattle.event.specs.Event.{type_view}
use Rattle.dossier.specs.DossierLayout.{Headed, dossier_of, dossier_bytes}
use Rattle.dossier.specs.DossierQuestions.{dossier_asked, dossiers_agree}
use Rattle.dossier.specs.code.DossierIndex.{DossierIs, RowsAre, DossierReads, dossier_questions, DossierAccepted}
use Rattle.dossier.specs.declared.dossiers.DossierIndex.{DossierIndex}
use Rattle.dossier.proofs.AnswerLaws.{answer-layout, answer-type, answer-refused, answer-accepted}
use Rattle.dossier.proofs.AcceptedLaws.{one_type, QuestionsTaken, questions-taken, dossier-taken}
use Rattle.dossier.proofs.AskLaws.{Each, asked_all}
use Rattle.combining.specs.CombineCall.{headed_as, combined, combine_asked, combine_answer, combine_call}
use Rattle.combining.specs.code.CombineIndex.{OtherAccepted, Known, Inside, CombinableUnder}
use Rattle.combining.proofs.RoomLaws.{combined-room}

-- ---- questions 3 to 6 of the other dossier

-- r is what its reader answers, and the table was read for the name of its type
module _
    (limits : Limits) (table s rows : List ℕ) {r : std.Option DossierIndex} (w : DossierReads (dossier_of limits s) s rows r)
    (ts : Table) (k : table_of table ≡ some ts) where
  pub other-layout : r ≡ None → dossier_asked limits ts s ≡ refused 3
  other-layout h = answer-layout limits table ts s rows w h

  module _
      {name : Text} (named : (h : Headed) → dossier_of limits s ≡ some h → name ≡ h.head.type)
      (ps : List ℕ) (read : std.Option (std.Option TypeIndex)) (says : TableSays (table_of table) table name ps read)
      {e : DossierIndex} (there : r ≡ Some e) where
    typed-says : (h : Headed) → dossier_of limits s ≡ some h → TypeSays (type_named h.head.type ts) table ps (option_flatten read)
    typed-says h i =
        subst (λ (n : Text). TypeSays (type_named n ts) table ps (option_flatten read)) (named h i) (known-says table name ps read ts k says)

    pub other-type : option_flatten read ≡ None → dossier_asked limits ts s ≡ refused 4
    other-type h = answer-type limits table ts s rows w there ps typed-says h

    module _ {t : TypeIndex} (typed : option_flatten read ≡ Some t) where
      pub other-refused : {n : ℕ} → Each s e rows t ps (λ ty ss. refused n ≡ asked_all limits ty ss) → dossier_asked limits ts s ≡ refused n
      other-refused told = answer-refused limits table ts s rows w there ps typed-says typed k told

      pub other-accepted :
          Each s e rows t ps (λ ty ss. accepted tt ≡ asked_all limits ty ss) → OtherAccepted (dossier_asked limits ts s) s rows e
      other-accepted told =
          let x = answer-accepted limits table ts s rows w there ps typed-says typed k told in
          record { what = x.what; is = x.is; read = x.read; in_rows = x.in_rows }

-- ---- question 7

-- a dossier of which questions 2 to 6 are answered yes; t and ps are of its type
module _
    (limits : Limits) {table a ps left : List ℕ} {t : TypeIndex} {d : DossierIndex}
    (x : DossierAccepted (dossier_questions limits table a) table a ps left t d) where
  abbrev pub first : QuestionsTaken limits table a x.what
  first = questions-taken limits table a x.what x.is

  -- the table has its type, under the name that it begins with
  pub name-says :
      {name : Text} → ((h : Headed) → dossier_of limits a ≡ some h → name ≡ h.head.type) →
      TableSaid (table_of table) table name ps (Some t)
  name-says named = record {
    what = first.types;
    is = first.is;
    says = record {
      what = x.what.type;
      is = ap (λ (n : Text). type_named n first.types) (named x.what.headed first.taken.read) ∙ first.taken.typed;
      typed = x.typed;
    };
  }

  -- and the other one, of which questions 3 to 6 are answered yes
  module _
      {b right : List ℕ} {e : DossierIndex}
      (others : (ts : Table) → table_of table ≡ some ts → OtherAccepted (dossier_asked limits ts b) b right e) where
    abbrev pub second : OtherAccepted (dossier_asked limits first.types b) b right e
    second = others first.types first.is

    module _
        {r : Bool}
        (says : (u : List ℕ) (ty tz : EventType) (v w : Headed) → PropertiesAre u ty.properties t.count ps → DossierIs a v d → DossierIs b w e →
        RowsAre a v.snapshots left → RowsAre b w.snapshots right → (v.head.type ≡ w.head.type → ty ≡ tz) →
        r ≡ dossiers_agree (record { type = ty; headed = v }) (record { type = tz; headed = w })) where
      pub agree-is : r ≡ dossiers_agree x.what second.what
      agree-is =
          says table x.what.type second.what.type x.what.headed second.what.headed x.typed.are x.read second.read x.in_rows second.in_rows
          (one_type first.taken (dossier-taken limits first.types b second.what second.is))

      abbrev pub combinable : Permitted limits → r ≡ true → CombinableUnder limits table a d left b e right t ps
      combinable permitted so = record {
        both = record {
          known = record {
            limits = limits;
            permitted = permitted;
            types = first.types;
            is = first.is;
            left = x.what;
            right = second.what;
            left-asked = first.asked;
            right-asked = second.is;
            agree = sym agree-is ∙ so;
            typed = x.typed;
          };
          left-read = x.read;
          right-read = second.read;
          left-rows = x.in_rows;
          right-rows = second.in_rows;
        };
        under = refl;
      }

-- ---- question 8

-- what is asked of two dossiers, under these limits
abbrev pub Within : {table a b : List ℕ} {t : TypeIndex} {ps : List ℕ} → Limits → Known table a b t ps → Bool
Within limits k = fits limits (type_view k.left.type) (combined k.left k.right)

pub combine-inside :
    {table a b : List ℕ} {t : TypeIndex} {ps : List ℕ} {limits : Limits} → Permitted limits → (k : Known table a b t ps) {r : Bool} →
    r ≡ Within limits k → r ≡ true → Inside k.left.type (combined k.left k.right)
combine-inside {limits = limits} permitted k p y = record { limits = limits; permitted = permitted; is = sym p ∙ y }

pub combine-room :
    {table a b : List ℕ} {t : TypeIndex} {ps : List ℕ} (k : Known table a b t ps) → Inside k.left.type (combined k.left k.right) →
    (size : ℕ) → dossier_capacity ≤ size → length (dossier_bytes (headed_as k.left.headed (combined k.left k.right))) ≤ size
combine-room k inside size l = omega (arith, combined-room k inside)

-- ---- the replies

-- the left one is refused, whatever is asked of both
left-no :
    {A B : Type 0} (m : Option Table) (f : Table → Asked A) (g : Table → A → Asked B) {n : ℕ} →
    (ask 2 m >>= f) ≡ refused n → (ask 2 m >>= λ ts. (f ts >>= g ts)) ≡ refused n
left-no none f g h = let is : ◌≡◌ {A = ℕ} 2 _ = cc in ap refused is
left-no (some ts) f g h = ap (λ q. q >>= g ts) h

module _ (limits : Limits) (table left right out : List ℕ) where
  pub combine-unpermitted : is_permitted limits ≡ false → replies (Err BadLimits) out ≡ combine_call limits table left right out
  unfolding combine_call combine_answer combine_asked
  combine-unpermitted h = rw (out_of_range limits h)

module _ {limits : Limits} (permitted : Permitted limits) (table left right out : List ℕ) where
  pub combine-small : length out < dossier_capacity → replies (Err SmallBuffer) out ≡ combine_call limits table left right out
  unfolding combine_call combine_answer combine_asked
  combine-small h = rw (in-range limits permitted, too_small dossier_capacity (length out) h)

  module _ (room : dossier_capacity ≤ length out) where
    asked-left : {n : ℕ} → dossier_questions limits table left ≡ refused n → combine_asked limits (length out) table left right ≡ refused n
    unfolding combine_asked
    asked-left e =
        rw (in-range limits permitted, has_room_lem dossier_capacity (length out) room)
        (left-no (table_of table) (λ ts. dossier_asked limits ts left) _ e)

    pub combine-left :
        (q : Refusal) → dossier_questions limits table left ≡ refused (refusal_number q) →
        replies (Err q) out ≡ combine_call limits table left right out
    unfolding combine_call combine_answer
    combine-left q e = rw (asked-left e)

    module _
        {d : DossierIndex} {t : TypeIndex} {ps xs : List ℕ}
        (x : DossierAccepted (dossier_questions limits table left) table left ps xs t d) where
      pub combine-right :
          (q : Refusal) → ((ts : Table) → table_of table ≡ some ts → dossier_asked limits ts right ≡ refused (refusal_number q)) →
          replies (Err q) out ≡ combine_call limits table left right out
      unfolding combine_call combine_answer combine_asked
      combine-right q e =
          let k = first limits x in
          rw (in-range limits permitted, has_room_lem dossier_capacity (length out) room, k.is, k.asked, e k.types k.is)

      pub combine-apart :
          {e : DossierIndex} {ys : List ℕ} (y : (ts : Table) → table_of table ≡ some ts → OtherAccepted (dossier_asked limits ts right) right ys e)
          {r : Bool} → r ≡ dossiers_agree x.what (second limits x y).what → r ≡ false →
          replies (Err Disagreement) out ≡ combine_call limits table left right out
      unfolding combine_call combine_answer combine_asked
      combine-apart y p n =
          let k = first limits x in
          let q = sym p ∙ n in
          rw (in-range limits permitted, has_room_lem dossier_capacity (length out) room, k.is, k.asked, (second limits x y).is, q)

    module _ {t : TypeIndex} {ps : List ℕ} (k : Known table left right t ps) (u : k.limits ≡ limits) {r : Bool} (p : r ≡ Within limits k) where
      left-asked : dossier_asked limits k.types left ≡ accepted k.left
      left-asked = ap (λ (l : Limits). dossier_asked l k.types left) (sym u) ∙ k.left-asked

      right-asked : dossier_asked limits k.types right ≡ accepted k.right
      right-asked = ap (λ (l : Limits). dossier_asked l k.types right) (sym u) ∙ k.right-asked

      pub combine-full : r ≡ false → replies (Err OverLimits) out ≡ combine_call limits table left right out
      unfolding combine_call combine_answer combine_asked
      combine-full n =
          let q = sym p ∙ n in
          rw (in-range limits permitted, has_room_lem dossier_capacity (length out) room, k.is, left-asked, right-asked, k.agree, q)

      abbrev whole : List ℕ
      whole = dossier_bytes (headed_as k.left.headed (combined k.left k.right))

      asked-whole : r ≡ true → combine_asked limits (length out) table left right ≡ accepted whole
      unfolding combine_asked
      asked-whole y =
          let q = sym p ∙ y in
          rw (in-range limits permitted, has_room_lem dossier_capacity (length out) room, k.is, left-asked, right-asked, k.agree, q)

      pub combine-done :
          r ≡ true → (new : List ℕ) (n : ℕ) → Wrote out 0 whole new n → replies (Ok n) new ≡ combine_call limits table left right out
      unfolding combine_call combine_answer
      combine-done y new n w =
          let s : 0 + length whole ≤ length out = omega (arith, combine-room k (combine-inside permitted k p y) (length out) room) in
          let m : n ≡ length whole = omega (arith, w.after) in
          rw (asked-whole y)
          (ap₂ (λ (k : ℕ) (l : List ℕ). replies (Ok k) l) m (wrote-between s w ∙ ap (λ (k : ℕ). whole ++ drop k out) m))
