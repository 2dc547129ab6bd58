-- The dossier of a batch that is accepted is the rule over accepted events of one type, source and match values, inside the limits.
use mathlib.Core.Path.{◌≡◌, refl, sym, ap, ◌∙◌, subst}
use mathlib.Core.Bool.{Bool, true, false}
use mathlib.Core.Option.{some}
use mathlib.Core.List.Memᴰ
use mathlib.Core.List.{List, [], ◌∷◌, map}
use Prim.Native.Nat.{ℕ, suc}
use Rattle.model.specs.Order.{Text}
use Rattle.model.specs.Rule.{rule}
use Rattle.model.specs.Limits.{Limits, Permitted, fits}
use Rattle.model.proofs.Cases.{never}
use Rattle.model.proofs.WayClaims.{Each}
use Rattle.packed.proofs.LayoutLaws.{All}
use Rattle.replies.specs.Questions as questions
use Rattle.replies.specs.Questions.{Asked, ask, ensure}
use Rattle.replies.proofs.QuestionLaws.{ask-some}
use Rattle.ontology.specs.Table.{EventType, Table, type_named}
use Rattle.ontology.specs.TableLayout.{table_of}
use Rattle.ontology.proofs.TableLaws.{table-type}
use Rattle.event.specs.Event.{Event, type_view, view}
use Rattle.event.specs.EventLayout.{narrow}
use Rattle.event.specs.EventQuestions.{Typed, event_asked}
use Rattle.event.specs.Agreement.{match_sets}
use Rattle.event.proofs.EventQuestionLaws.{all-member, EventFits, event-accepted, event-fits}
use Rattle.dossier.specs.DossierLayout.{Headed, dossier_bytes, headed, model_of}
use Rattle.dossier.specs.DossierQuestions.{TypedDossier, dossier_asked}
use Rattle.dossier.proofs.DossierQuestionLaws.{match-sets, agree-exact}
use Rattle.ways.specs.ByteWays.{SameMatch}
use Rattle.ways.proofs.RuleQuestionLaws.{Gathered, rule-asked}
use Rattle.batch.specs.Batch.{AskedAt, refused_at, accepted, ◌>>=◌, ◌>>◌, at, events_asked, events_agree, agree_with, batch_of, batch_dossier, together}
use Rattle.batch.specs.Batch.{batch_asked}

-- ---- the questions in their order

module _ {A B : Type 0} where
  pub at-then : (m : AskedAt A) (k : A → AskedAt B) (b : B) → (m >>= k) ≡ accepted b → (a : A) × (m ≡ accepted a) × (k a ≡ accepted b)
  at-then (refused_at n i) k b h = never (cc)
  at-then (accepted a) k b h = (a, refl, h)

  pub at_next : (m : AskedAt A) (k : AskedAt B) (b : B) → (m >> k) ≡ accepted b → (a : A) × (m ≡ accepted a) × (k ≡ accepted b)
  at_next (refused_at n i) k b h = never (cc)
  at_next (accepted a) k b h = (a, refl, h)

at-accepted : {A : Type 0} (i : ℕ) (m : Asked A) (a : A) → at i m ≡ accepted a → m ≡ questions.accepted a
at-accepted i (questions.refused n) a h = never (cc)
at-accepted i (questions.accepted b) a h = cc

pub at-ensured : (i n : ℕ) (b : Bool) (u : Unit {0}) → at i (ensure n b) ≡ accepted u → b ≡ true
at-ensured i n true u h = refl
at-ensured i n false u h = never (cc)

-- ---- the dossier of accepted events

-- the head of the rule over events of a type and a source
abbrev pub ruled_head : EventType → Text → List Event → Headed
ruled_head t uri es = headed t.name uri (rule (view t) es)

-- d is the rule over gathered events of a type of the table
pub record Gathers (limits : Limits) (table : List ℕ) (d : TypedDossier) : Type 0 where
  pub types : Table
  pub tabled : table_of table ≡ some types
  pub named : type_named d.type.name types ≡ some d.type
  pub source : Text
  pub model : Event
  pub events : List Event
  pub gathered : Gathered limits d.type source model events
  pub is : d.headed ≡ ruled_head d.type source events

-- questions 3 to 6 of its bytes
pub gathers-asked : {limits : Limits} {table : List ℕ} {d : TypedDossier} (g : Gathers limits table d) →
    dossier_asked limits g.types (dossier_bytes d.headed) ≡ questions.accepted d
gathers-asked {limits} {table} {d} g =
    let asked = rule-asked d.type g.source g.model g.events g.gathered g.types g.named in
    ap (λ (h : Headed). dossier_asked limits g.types (dossier_bytes h)) g.is
    ∙ (asked ∙ ap (λ (h : Headed). questions.accepted (record { type = d.type; headed = h })) (sym g.is))

-- ---- the events of a batch that is accepted

all_map : {A B : Type 0} (P : B → Type 0) (f : A → B) (xs : List A) → All (λ (x : A). P (f x)) xs → All P (map f xs)
all_map P f [] h = tt
all_map P f (x ∷ xs) h = (h.0, all_map P f xs h.1)

all-with : {A : Type 0} (P Q R : A → Type 0) → ((x : A) → P x → Q x → R x) → (xs : List A) → All P xs → All Q xs → All R xs
all-with P Q R k [] h g = tt
all-with P Q R k (x ∷ xs) h g = (k x h.0 g.0, all-with P Q R k xs h.1 g.1)

abbrev pub TypedOf : Table → Typed → Type 0
TypedOf ts a = (s : List ℕ) × (event_asked narrow ts s ≡ questions.accepted a)

all_typed : (ts : Table) (i : ℕ) (ss : List (List ℕ)) (xs : List Typed) → events_asked ts i ss ≡ accepted xs → All (TypedOf ts) xs
unfolding events_asked
all_typed ts i [] xs e = let z : [] ≡ xs = cc in subst (All (TypedOf ts)) z tt
all_typed ts i (s ∷ ss) xs e = go (event_asked narrow ts s) refl (events_asked ts (suc i) ss) (all_typed ts (suc i) ss) e
  where
    go :
        (q : Asked Typed) → event_asked narrow ts s ≡ q → (p : AskedAt (List Typed)) →
        ((ys : List Typed) → p ≡ accepted ys → All (TypedOf ts) ys) →
        (at i q >>= λ a. p >>= λ bs. accepted (a ∷ bs)) ≡ accepted xs → All (TypedOf ts) xs
    go (questions.refused n) h p k e = never (cc)
    go (questions.accepted a) h (refused_at n j) k e = never (cc)
    go (questions.accepted a) h (accepted ys) k e = let z : a ∷ ys ≡ xs = cc in subst (All (TypedOf ts)) z ((s, h), k ys refl)

all-agree : (a : Typed) (i : ℕ) (bs : List Typed) (u : Unit {0}) → agree_with a i bs ≡ accepted u → All (λ (b : Typed). events_agree a b ≡ true) bs
unfolding agree_with
all-agree a i [] u e = tt
all-agree a i (b ∷ bs) u e =
    let (v, x, y) = at_next (at i (ensure 7 (events_agree a b))) (agree_with a (suc i) bs) u e in
    (at-ensured i 7 (events_agree a b) v x, all-agree a (suc i) bs u y)

-- b is accepted, of the type of a, and has its source and match values
record Like (a b : Typed) : Type 0 where
  fit : EventFits a.type b.event
  alike : SameMatch a.type b.event a.event
  from : b.event.head.source ≡ a.event.head.source

module _ (ts : Table) (a : Typed) (x : TypedOf ts a) where
  pub fits-self : EventFits a.type a.event
  fits-self = event-fits ts x.0 a.type a.event (event-accepted narrow ts x.0 a.type a.event x.1)

  named_self : type_named a.event.head.type ts ≡ some a.type
  named_self = (event-accepted narrow ts x.0 a.type a.event x.1).typed

  like-self : Like a a
  like-self = record { fit = fits-self; alike = λ p q i m. refl; from = refl }

  like-other : (b : Typed) → TypedOf ts b → events_agree a b ≡ true → Like a b
  unfolding events_agree
  like-other b y h =
      let (type, source, sets) = (agree-exact _ _ _ _ _ _).0 h in
      let w = event-accepted narrow ts y.0 b.type b.event y.1 in
      let same : some a.type ≡ some b.type = sym named_self ∙ (ap (λ (n : Text). type_named n ts) type ∙ w.typed) in
      let one : a.type ≡ b.type = cc in
      let fit : EventFits a.type b.event = subst (λ (t : EventType). EventFits t b.event) (sym one) (event-fits ts y.0 b.type b.event w) in
      let long = fit.written.sets.long ∙ sym fits-self.written.sets.long in
      record {
        fit = fit;
        alike = (match-sets a.type.properties b.event.sets a.event.sets long).1
            (ap (λ (t : EventType). match_sets t.properties b.event.sets) one ∙ sym sets);
        from = sym source;
      }

-- the events of a batch, which are accepted one by one
module _ (limits : Limits) (permitted : Permitted limits) (table : List ℕ) (d : TypedDossier) where
  pub typed-gathers :
      (ts : Table) → table_of table ≡ some ts → (xs : List Typed) → All (TypedOf ts) xs → together limits xs ≡ accepted d → Gathers limits table d
  unfolding together batch_dossier
  typed-gathers ts is_table [] w h = never (cc)
  typed-gathers ts is_table (a ∷ bs) w h =
      let (u, x, y) = at_next (agree_with a 1 bs) _ d h in
      let (v, z, q) = at_next (at 0 (ensure 8 (fits limits (type_view a.type) (model_of (batch_dossier a bs))))) _ d y in
      let agree = all-with (TypedOf ts) (λ (b : Typed). events_agree a b ≡ true) (Like a) (like-other ts a w.0) bs w.1 (all-agree a 1 bs u x) in
      let likes : All (Like a) (a ∷ bs) = (like-self ts a w.0, agree) in
      let self = fits-self ts a w.0 in
      let named : type_named a.type.name ts ≡ some a.type = ap (λ (n : Text). type_named n ts) (sym self.named) ∙ named_self ts a w.0 in
      subst (Gathers limits table) (accepted-same (record { type = a.type; headed = batch_dossier a bs }) d q) (record {
        types = ts;
        tabled = is_table;
        named = named;
        source = a.event.head.source;
        model = a.event;
        events = map (λ (b : Typed). b.event) (a ∷ bs);
        gathered = record {
          kept = table-type table ts is_table a.type.name a.type named;
          one = (a.event, Memᴰ.head refl);
          fit = each (EventFits a.type) (λ b l. l.fit) likes;
          model = self;
          alike = each (λ e. SameMatch a.type e a.event) (λ b l. l.alike) likes;
          from = each (λ e. e.head.source ≡ a.event.head.source) (λ b l. l.from) likes;
          permitted = permitted;
          inside = at-ensured 0 8 (fits limits (type_view a.type) (model_of (batch_dossier a bs))) v z;
        };
        is = λ i. headed (self.named i) a.event.head.source (model_of (batch_dossier a bs));
      })
    where
      accepted-same : (m n : TypedDossier) → accepted m ≡ accepted n → m ≡ n
      accepted-same m n h = cc

      weaker :
          (P : Event → Type 0) → ((b : Typed) → Like a b → P b.event) → (xs : List Typed) → All (Like a) xs →
          All (λ (b : Typed). P b.event) xs
      weaker P k [] l = tt
      weaker P k (b ∷ xs) l = (k b l.0, weaker P k xs l.1)

      each :
          (P : Event → Type 0) → ((b : Typed) → Like a b → P b.event) → All (Like a) (a ∷ bs) →
          Each P (map (λ (b : Typed). b.event) (a ∷ bs))
      each P k l = all-member P (map (λ (b : Typed). b.event) (a ∷ bs)) (all_map P (λ (b : Typed). b.event) (a ∷ bs) (weaker P k (a ∷ bs) l))

-- a batch that is accepted, question by question
pub batch-gathers :
    (limits : Limits) → Permitted limits → (table batch : List ℕ) (d : TypedDossier) → batch_asked limits table batch ≡ accepted d →
    Gathers limits table d
unfolding batch_asked
batch-gathers limits permitted table batch d e =
    let (ts, x, y) = at-then (at 0 (ask 2 (table_of table))) _ d e in
    let (ss, z, q) = at-then (at 0 (ask 9 (batch_of batch))) _ d y in
    let (xs, k, l) = at-then (events_asked ts 0 ss) _ d q in
    typed-gathers limits permitted table d ts (ask-some 2 (table_of table) ts (at-accepted 0 (ask 2 (table_of table)) ts x)) xs (all_typed ts 0 ss xs k) l
