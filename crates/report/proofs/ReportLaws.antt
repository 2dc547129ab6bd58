-- The laws of the report: what a batch, a dossier and a merged event come to.
use mathlib.Core.Path.{◌≡◌, refl, sym, ap, ap₂, ◌∙◌, subst}
use mathlib.Core.Bool.{Bool, true, false, cond, and-eq-true_iff}
use mathlib.Core.Option.{Option, none, some}
use mathlib.Core.List.{List, [], ◌++◌, append-nil}
use Prim.Native.Nat.{ℕ, ◌+◌, ◌-◌, ◌≤◌, ◌<◌}
use native.Mathlib.Omega.{arith}
use lib.Dec.{leb}
use lib.ListN.{length, take, drop, get_elem?, length-append, length-drop, drop_of_length-le}
use lib.Seq.{take-append_seam, take_all}
use borrow.Author.Tests.{le-leb, lt-leb}
use Rattle.model.specs.Order.{Text}
use Rattle.model.specs.Rule.{places, rule}
use Rattle.model.specs.Limits.{Limits, standard, is_permitted, Permitted}
use Rattle.model.specs.Opening as model
use Rattle.model.specs.Opening.{conflict_at, overfull_at, place_of, finds, merged, overfull, merged_at}
use Rattle.model.proofs.Cases.{never}
use Rattle.model.proofs.LimitLaws.{permitted}
use Rattle.model.proofs.RuleLaws.{rising-snapshots}
use Rattle.model.proofs.ValidLaws.{in-places, ups-places}
use Rattle.model.proofs.ClashLaws.{lowest-found, conflict-found, opening-conflict}
use Rattle.model.proofs.OpeningLaws.{opening-overfull}
use Rattle.model.proofs.DossierLaws.{match-cells}
use Rattle.packed.specs.Parse.{Parse, fail, got}
use Rattle.packed.specs.Packed.{read_text, part}
use Rattle.packed.specs.code.Written.{Wrote}
use Rattle.packed.proofs.WriteLaws.{wrote-between}
use Rattle.packed.proofs.ReadLaws.{TextStops}
use Rattle.replies.specs.Questions as questions
use Rattle.replies.specs.Answers as answers
use Rattle.replies.specs.Answers.{gives, Outcome, outcome}
use Rattle.replies.specs.Replies.{refusal_number, replied, replies, finding_of, open_replies, batch_replies}
use Rattle.replies.specs.declared.reply.Refusal.{Refusal}
use Rattle.replies.specs.declared.reply.Refusal.TheVariants.{SmallBuffer}
use Rattle.replies.specs.declared.reply.Finding.{Finding}
use Rattle.replies.specs.declared.reply.Opened.{Opened}
use Rattle.replies.specs.declared.reply.Opened.TheVariants.{Merged, Found}
use Rattle.replies.specs.declared.reply.BatchRefusal.{BatchRefusal}
use Rattle.replies.specs.Capacities.{dossier_capacity, hash_capacity, report_capacity}
use Rattle.replies.proofs.CapacityLaws.{has_room_lem}
use Rattle.replies.proofs.RangeLaws.{in-range}
use Rattle.ontology.specs.Table.{Property, EventType, Table, is_single, type_named, at_place}
use Rattle.ontology.specs.TableLayout.{table_of}
use Rattle.ontology.specs.code.TypeIndex.{PropertiesAre, TypeIs, TableSays}
use Rattle.ontology.specs.declared.types.TypeIndex.{TypeIndex}
use Rattle.ontology.proofs.TypeIndexLaws.{known-says, type-there}
use Rattle.event.specs.Event.{Event, type_view, event_view, view}
use Rattle.event.specs.EventLayout.{wide, event_of, event_bytes}
use Rattle.event.specs.Head.{Head, read_head}
use Rattle.event.specs.EventQuestions.{Typed, event_asked}
use Rattle.event.specs.code.EventIndex.{EventIs, EventReads, event_questions}
use Rattle.event.specs.declared.read.EventIndex.{EventIndex}
use Rattle.event.proofs.AskLaws.{read-typed, read-accepted}
use Rattle.event.proofs.EventLayoutLaws.{event-name}
use Rattle.event.proofs.EventQuestionLaws.{choice-none}
use Rattle.dossier.specs.DossierLayout.{dossier_bytes}
use Rattle.dossier.specs.DossierQuestions.{TypedDossier, dossier_asked}
use Rattle.dossier.proofs.AcceptedLaws.{dossier-taken}
use Rattle.dossier.proofs.DossierLayoutLaws.{dossier-name}
use Rattle.fips180.specs.Fips.{sha1_of}
use Rattle.fips180.proofs.Laws.{length-sha1_of}
use Rattle.hashing.specs.HashText.{event_text}
use Rattle.hashing.specs.HashCalls.{hash_text_asked, hash_answer, hash_call}
use Rattle.opening.specs.OpenCall.{merged_event, opened_answer, asked_opening, open_answer, open_call}
use Rattle.ways.proofs.RuleQuestionLaws.{Gathered, rule-asked}
use Rattle.ways.proofs.MergedEventLaws.{merged-asked}
use Rattle.batch.specs.Batch.{AskedAt, refused_at, accepted, batch_asked, batch_given, Rooms, have_room, batch_answer, batch_call}
use Rattle.batch.proofs.GatheredLaws.{ruled_head, batch-gathers}
use Rattle.report.specs.Report.{hashed_lines, merged_lines, finding_line, opened_lines, refused_line}
use Rattle.report.specs.Report.{asked_lines, framed_lines, most_input, report, report_answer}
use Rattle.report.specs.Report.{report_call}
use Rattle.report.specs.code.ReportIndex.{NumbersOf, PlaceNamed, LinesRoom, MergedAsked, opens, HasProperty, DossierOpens}
use Rattle.report.proofs.LineLaws.{refused-short}
use Rattle.report.proofs.ReportSizeLaws.{merged-short, finding-short}
use Rattle.std.specs.Option.{IsSome, option_flatten}
use Rattle.std.specs.Result.{IsOk}
use Rattle.std.specs.Prelude.{Some, Result, Ok, Err}
use Rattle.std.specs.Prelude as std

-- ---- a merged event

pub accepted-same : {A : Type 0} {a b : A} → questions.accepted a ≡ questions.accepted b → a ≡ b
accepted-same e = cc

module _ {table bytes : List ℕ} {t : EventType} {e : Event} {room : ℕ} (m : MergedAsked table bytes t e room) where
  -- the call hash gives its hash
  module _ (r : Result ℕ Refusal) (old new : List ℕ) (l : length old ≡ hash_capacity) (h : replies r new ≡ hash_call table bytes old) where
    hashed : replies r new ≡ outcome (gives (sha1_of (event_text t e))) old
    hashed = h ∙ unfold hash_call hash_answer hash_text_asked in (rw (le-leb hash_capacity (length old) (omega arith), m.tabled, m.asked))

    pub hash-ok : IsOk r
    hash-ok = go r (ap (λ (o : Outcome). o.reply) hashed)
      where
        go : (r : Result ℕ Refusal) → replied r ≡ answers.Reply.done (length (sha1_of (event_text t e))) → IsOk r
        go (Ok n) e = refl
        go (Err q) e = never (cc)

    pub digest-is : new ≡ sha1_of (event_text t e)
    digest-is =
        let all : length old ≤ length (sha1_of (event_text t e)) = omega (arith, l, length-sha1_of (event_text t e)) in
        ap (λ (o : Outcome). o.bytes) hashed
        ∙ (ap (λ (d : List ℕ). sha1_of (event_text t e) ++ d) (drop_of_length-le old all) ∙ append-nil (sha1_of (event_text t e)))

  abbrev asked_so : Typed
  asked_so = record { type = t; event = e }

  pub taken : event_questions wide table bytes ≡ questions.accepted asked_so
  taken = rw m.tabled m.asked

  -- the table was read for the name of the event's type
  module _
      (name ps : List ℕ) (r : std.Option (std.Option TypeIndex)) (says : TableSays (table_of table) table name ps r)
      (named : (most : ℕ) (h : Head) (rest : List ℕ) → read_head most bytes ≡ got h rest → name ≡ h.type) where
    typed : (y : TypeIndex) × (option_flatten r ≡ Some y) × TypeIs table t y ps
    typed = read-typed wide table bytes asked_so taken name ps r says (event-name bytes name named wide)

    pub type-had : IsSome (option_flatten r)
    type-had = rw typed.1 refl

    pub type-read : {y : TypeIndex} → option_flatten r ≡ Some y → TypeIs table t y ps
    type-read {y} f = let same : typed.0 ≡ y = cc (typed.1, f) in subst (λ (z : TypeIndex). TypeIs table t z ps) same typed.2

  -- the event was read
  module _ (ats : List ℕ) (v : std.Option EventIndex) (reads : EventReads (event_of wide bytes) bytes ats v) where
    stands : (x : EventIndex) × (v ≡ Some x) × EventIs bytes e x ats
    stands = read-accepted wide table bytes asked_so taken ats v reads

    pub event-had : IsSome v
    event-had = rw stands.1 refl

    pub event-read : {x : EventIndex} → v ≡ Some x → EventIs bytes e x ats
    event-read {x} f = let same : stands.0 ≡ x = cc (stands.1, f) in subst (λ (z : EventIndex). EventIs bytes e z ats) same stands.2

  -- what the writer of its lines needs
  abbrev pub lines-ready :
      {y : TypeIndex} {x : EventIndex} {ps ats hash : List ℕ} → TypeIs table t y ps → EventIs bytes e x ats → hash ≡ sha1_of (event_text t e) →
      LinesRoom table y.count ps bytes x ats hash room
  lines-ready y x h =
      record { type = t; event = e; are = y.are; read = x; fits = omega (arith, m.fits, ap length (ap (hashed_lines t e) h)) }

  pub lines-merged : {hash out new : List ℕ} {n : ℕ} → hash ≡ sha1_of (event_text t e) → Wrote out 0 (hashed_lines t e hash) new n →
      Wrote out 0 (merged_lines t e) new n
  lines-merged {hash} {out} {new} {n} h w = subst (λ (x : List ℕ). Wrote out 0 (hashed_lines t e x) new n) h w

-- ---- document 01's limits, which the report has

standard-permitted : Permitted standard
standard-permitted = permitted standard (unfold is_permitted standard in refl)

pub permitted-as : {l : Limits} → l ≡ standard → Permitted l
permitted-as e = subst Permitted (sym e) standard-permitted

-- ---- the properties of a dossier's type

pub properties-read :
    (table bytes name ps : List ℕ) (r : std.Option (std.Option TypeIndex)) →
    ((most : ℕ) (h : Head) (rest : List ℕ) → read_head most bytes ≡ got h rest → name ≡ h.type) → TableSays (table_of table) table name ps r →
    (types : Table) (d : TypedDossier) → table_of table ≡ some types → dossier_asked standard types bytes ≡ questions.accepted d →
    NumbersOf table d.type ps
properties-read table bytes name ps r names says types d e a =
    let q = dossier-taken standard types bytes d a in
    let named : type_named name types ≡ some d.type =
    ap (λ (v : Text). type_named v types) (dossier-name bytes name names standard d.headed q.read) ∙ q.typed in
    let there = type-there _ table ps _ d.type named (known-says table name ps r types e says) in
    subst (λ (n : ℕ). PropertiesAre table d.type.properties n ps) there.2.are.count there.2.are

-- ---- a dossier that is opened

opened-call : (table bytes old : List ℕ) {d : TypedDossier} {room : ℕ} → DossierOpens table bytes d room → dossier_capacity ≤ length old →
    open_call standard table bytes old ≡ outcome (opened_answer d.headed (opens d)) old
unfolding open_call open_answer asked_opening
opened-call table bytes old w h = rw (in-range standard standard-permitted, has_room_lem dossier_capacity (length old) h, w.tabled, w.asked)

-- the dossier opens as the event whose bytes are the first n of `new`
pub record OpensMerged (d : TypedDossier) (new : List ℕ) (n : ℕ) : Type 0 where
  pub sets : List (List Text)
  pub is : opens d ≡ merged sets
  pub bytes : take n new ≡ event_bytes (merged_event d.headed sets)
  pub within : n ≤ length new

front : (x y : List ℕ) (n : ℕ) (new : List ℕ) → n ≡ length x → new ≡ x ++ y → (take n new ≡ x) × (n ≤ length new)
front x y n new h e = (ap₂ (λ (k : ℕ) (l : List ℕ). take k l) h e ∙ take-append_seam x y, omega (arith, h, ap length e, length-append x y))

module _
    (table bytes old new : List ℕ) {d : TypedDossier} {room : ℕ} (w : DossierOpens table bytes d room) (big : dossier_capacity ≤ length old)
    {limits : Limits} (u : limits ≡ standard) where
  told : (r : Result Opened Refusal) → open_replies r new ≡ open_call limits table bytes old →
      open_replies r new ≡ outcome (opened_answer d.headed (opens d)) old
  told r e = e ∙ ap (λ (l : Limits). open_call l table bytes old) u ∙ opened-call table bytes old w big

  told-as : (o : Opened) → open_replies (Ok o) new ≡ open_call limits table bytes old → {p : Opened} → o ≡ p →
      open_replies (Ok p) new ≡ outcome (opened_answer d.headed (opens d)) old
  told-as o e q = ap (λ (x : Opened). open_replies (Ok x) new) (sym q) ∙ told (Ok o) e

  pub opened-merged : (o : Opened) → open_replies (Ok o) new ≡ open_call limits table bytes old → {n : ℕ} → o ≡ Merged n → OpensMerged d new n
  unfolding opened_answer
  opened-merged o e {n} q = go (opens d) refl (told-as o e q)
    where
      go : (o : model.Opened) → opens d ≡ o → open_replies (Ok (Merged n)) new ≡ outcome (opened_answer d.headed o) old → OpensMerged d new n
      go (finds g) f h = let z = ap (λ (x : Outcome). x.reply) h in never (cc)
      go (merged ss) f h =
          let z : answers.Reply.done n ≡ answers.Reply.done (length (event_bytes (merged_event d.headed ss))) = ap (λ (x : Outcome). x.reply) h in
          let given = event_bytes (merged_event d.headed ss) in
          let k = front given (drop (length given) old) n new (cc) (ap (λ (x : Outcome). x.bytes) h) in
          record { sets = ss; is = f; bytes = k.0; within = k.1 }

  pub opened-found : (o : Opened) → open_replies (Ok o) new ≡ open_call limits table bytes old → {f : Finding} → o ≡ Found f →
      opens d ≡ finds (finding_of f)
  unfolding opened_answer
  opened-found o e {f} q = go (opens d) (told-as o e q)
    where
      go : (o : model.Opened) → open_replies (Ok (Found f)) new ≡ outcome (opened_answer d.headed o) old → o ≡ finds (finding_of f)
      go (finds g) h = let z : answers.Reply.found (finding_of f) ≡ answers.Reply.found g = ap (λ (x : Outcome). x.reply) h in cc
      go (merged ss) h = let z = ap (λ (x : Outcome). x.reply) h in never (cc)

  pub opened-refused : (q : Refusal) → open_replies (Err q) new ≡ open_call limits table bytes old → ⊥
  unfolding opened_answer
  opened-refused q e = go (opens d) (told (Err q) e)
    where
      go : (o : model.Opened) → open_replies (Err q) new ≡ outcome (opened_answer d.headed o) old → ⊥
      go (finds g) h = let z = ap (λ (x : Outcome). x.reply) h in never (cc)
      go (merged ss) h = let z = ap (λ (x : Outcome). x.reply) h in never (cc)

module _ {table bytes : List ℕ} {d : TypedDossier} {room : ℕ} (w : DossierOpens table bytes d room) where
  -- the merged event
  module _ {new : List ℕ} {n : ℕ} (m : OpensMerged d new n) where
    abbrev pub merged_of : Event
    merged_of = merged_event d.headed m.sets

    pub merged-ready : MergedAsked table (take n new) d.type merged_of room
    unfolding opened_lines
    merged-ready = record {
      types = w.types;
      tabled = w.tabled;
      asked = ap (event_asked wide w.types) m.bytes ∙ w.merges m.sets m.is;
      fits = subst (λ (o : model.Opened). length (opened_lines d.type d.headed o) ≤ room) m.is w.fits;
    }

    pub merged-lines : {out out₁ : List ℕ} {z : ℕ} → Wrote out 0 (merged_lines d.type merged_of) out₁ z →
        Wrote out 0 (opened_lines d.type d.headed (opens d)) out₁ z
    unfolding opened_lines
    merged-lines {out} {out₁} {z} u = subst (λ (o : model.Opened). Wrote out 0 (opened_lines d.type d.headed o) out₁ z) (sym m.is) u

  -- a conflict or an overfull place
  module _ {f : model.Finding} (o : opens d ≡ finds f) where
    abbrev pub finding-place : {ps : List ℕ} → NumbersOf table d.type ps → PlaceNamed table ps (place_of f)
    finding-place i = record { type = d.type; property = (w.names f o).0; are = i; named = (w.names f o).1 }

    pub finding-room : length (finding_line d.type f) ≤ room
    unfolding opened_lines
    finding-room = subst (λ (x : model.Opened). length (opened_lines d.type d.headed x) ≤ room) o w.fits

    pub finding-lines : {out out₁ : List ℕ} {z : ℕ} → Wrote out 0 (finding_line d.type f) out₁ z →
        Wrote out 0 (opened_lines d.type d.headed (opens d)) out₁ z
    unfolding opened_lines
    finding-lines {out} {out₁} {z} u = subst (λ (x : model.Opened). Wrote out 0 (opened_lines d.type d.headed x) out₁ z) (sym o) u

-- ---- the rule over gathered events

module _ (t : EventType) (uri : Text) (f : Event) (es : List Event) (g : Gathered standard t uri f es) where
  abbrev ruled : TypedDossier
  ruled = record { type = t; headed = ruled_head t uri es }

  -- a conflict names a property: cells without one are empty
  conflict-names : (v p : ℕ) → opens ruled ≡ finds (conflict_at v p) → HasProperty t p
  unfolding type_view event_view
  conflict-names v p o = go (get_elem? t.properties p) refl
    where
      go : (m : Option Property) → get_elem? t.properties p ≡ m → HasProperty t p
      go (some q) c = (q, c)
      go none c =
          let k = type_view t in
          let x = (opening-conflict k (rule (view t) es) v p).0 o in
          let (s, m, a, n, x, l) = conflict-found (places k) (ups-places k) (rule (view t) es).snapshots v p (rising-snapshots (view t) es) x in
          let y = match-cells (view t) es s m p ((in-places k p).1 n) [] (choice-none t p c).0 tt (λ e i. (g.fit e i).vacant p c) in
          never (cc)

  -- an overfull place has a property: other places are not single
  overfull-names : (p : ℕ) → opens ruled ≡ finds (overfull_at p) → HasProperty t p
  unfolding overfull type_view event_view at_place
  overfull-names p o =
      let k = type_view t in
      let x = (lowest-found _ (places k) p (ups-places k) ((opening-overfull k (rule (view t) es) p).0 o).1).1 in
      go (get_elem? t.properties p) refl ((and-eq-true_iff (k.single p) (leb 2 (length (merged_at k (rule (view t) es) p)))).0 x).0
    where
      go : (m : Option Property) → get_elem? t.properties p ≡ m → at_place false is_single (get_elem? t.properties p) ≡ true → HasProperty t p
      go (some q) c h = (q, c)
      go none c h = let k : false ≡ true = rw c at h in never (cc)

  finding-names : (x : model.Finding) → opens ruled ≡ finds x → HasProperty t (place_of x)
  unfolding place_of
  finding-names (conflict_at v p) o = conflict-names v p o
  finding-names (overfull_at p) o = overfull-names p o

  module _ (table : List ℕ) (types : Table) (is_table : table_of table ≡ some types) (named : type_named t.name types ≡ some t) where
    merged-passes : (ss : List (List Text)) → opens ruled ≡ merged ss →
        event_asked wide types (event_bytes (merged_event ruled.headed ss)) ≡ questions.accepted (record { type = t; event = merged_event ruled.headed ss })
    merged-passes ss o = merged-asked t uri f es g ss o types named

    lines-short : length (opened_lines t ruled.headed (opens ruled)) ≤ report_capacity
    unfolding opened_lines
    lines-short = go (opens ruled) refl
      where
        go : (o : model.Opened) → opens ruled ≡ o → length (opened_lines t ruled.headed o) ≤ report_capacity
        go (finds x) e = let (q, c) = finding-names x e in finding-short table types is_table t t.name named x q c
        go (merged ss) e = let it = merged_event ruled.headed ss in merged-short table types is_table t (event_bytes it) it (merged-passes ss e)

    rule-opens : (room : ℕ) → report_capacity ≤ room → DossierOpens table (dossier_bytes ruled.headed) ruled room
    rule-opens room h = record {
      types = types;
      tabled = is_table;
      asked = rule-asked t uri f es g types named;
      merges = merged-passes;
      names = finding-names;
      fits = omega (arith, h, lines-short);
    }

-- the dossier of a batch that is accepted
batch-opens : (table batch : List ℕ) (d : TypedDossier) → batch_asked standard table batch ≡ accepted d → (room : ℕ) → report_capacity ≤ room →
    DossierOpens table (dossier_bytes d.headed) d room
batch-opens table batch d e room h =
    let g = batch-gathers standard standard-permitted table batch d e in
    let is : record { type = d.type; headed = ruled_head d.type g.source g.events } ≡ d = λ i. record { type = d.type; headed = sym g.is i } in
    subst (λ (k : TypedDossier). DossierOpens table (dossier_bytes k.headed) k room) is
    (rule-opens d.type g.source g.model g.events g.gathered table g.types g.tabled g.named room h)

-- ---- the call batch

pub record BatchDone (table events new : List ℕ) (n : ℕ) : Type 0 where
  pub what : TypedDossier
  pub is : batch_asked standard table events ≡ accepted what
  pub bytes : take n new ≡ dossier_bytes what.headed
  pub within : n ≤ length new

-- every array of a batch has its room
abbrev pub Roomy : Rooms → Type 0
Roomy r = (dossier_capacity ≤ r.output) × (dossier_capacity ≤ r.first) × (dossier_capacity ≤ r.second) × (dossier_capacity ≤ r.third)

rooms-have : (r : Rooms) → Roomy r → have_room r ≡ true
unfolding have_room
rooms-have r (h, i, j, k) =
    rw (le-leb dossier_capacity r.output h, le-leb dossier_capacity r.first i, le-leb dossier_capacity r.second j, le-leb dossier_capacity r.third k)

module _ (table events old new : List ℕ) (rooms : Rooms) (have : Roomy rooms) {limits : Limits} (u : limits ≡ standard) where
  batch-told : (r : Result ℕ BatchRefusal) → batch_replies r new ≡ batch_call limits rooms table events old →
      batch_replies r new ≡ outcome (batch_given (batch_asked standard table events)) old
  batch-told r e =
      e
      ∙ ap (λ (l : Limits). batch_call l rooms table events old) u
      ∙ unfold batch_call batch_answer in (rw (in-range standard standard-permitted, rooms-have rooms have))

  pub batch-done : {n : ℕ} → batch_replies (Ok n) new ≡ batch_call limits rooms table events old → BatchDone table events new n
  unfolding batch_given
  batch-done {n} e = go (batch_asked standard table events) refl (batch-told (Ok n) e)
    where
      go : (a : AskedAt TypedDossier) → batch_asked standard table events ≡ a → batch_replies (Ok n) new ≡ outcome (batch_given a) old →
          BatchDone table events new n
      go (refused_at m i) f h = let z = ap (λ (x : Outcome). x.reply) h in never (cc)
      go (accepted d) f h =
          let z : answers.Reply.done n ≡ answers.Reply.done (length (dossier_bytes d.headed)) = ap (λ (x : Outcome). x.reply) h in
          let k = front (dossier_bytes d.headed) (drop (length (dossier_bytes d.headed)) old) n new (cc) (ap (λ (x : Outcome). x.bytes) h) in
          record { what = d; is = f; bytes = k.0; within = k.1 }

  pub batch-refused : (b : BatchRefusal) → batch_replies (Err b) new ≡ batch_call limits rooms table events old →
      batch_asked standard table events ≡ refused_at (refusal_number b.refusal) b.position
  unfolding batch_given
  batch-refused b e = go (batch_asked standard table events) (batch-told (Err b) e)
    where
      go : (a : AskedAt TypedDossier) → batch_replies (Err b) new ≡ outcome (batch_given a) old → a ≡ refused_at (refusal_number b.refusal) b.position
      go (refused_at m j) h =
          let z : answers.Reply.refused_at (refusal_number b.refusal) b.position ≡ answers.Reply.refused_at m j = ap (λ (x : Outcome). x.reply) h in
          let i : refusal_number b.refusal ≡ m = cc in
          let k : b.position ≡ j = cc in
          sym (ap₂ (λ (n i : ℕ). refused_at n i) i k)
      go (accepted d) h = let z = ap (λ (x : Outcome). x.reply) h in never (cc)

pub done-opens : {table events new : List ℕ} {n : ℕ} (b : BatchDone table events new n) (room : ℕ) → report_capacity ≤ room →
    DossierOpens table (take n new) b.what room
done-opens {table} {events} b room h =
    subst (λ (s : List ℕ). DossierOpens table s b.what room) (sym b.bytes) (batch-opens table events b.what b.is room h)

module _ (table events : List ℕ) {out new : List ℕ} {n : ℕ} where
  lines_of :
      {a : AskedAt TypedDossier} → batch_asked standard table events ≡ a → Wrote out 0 (asked_lines a) new n →
      Wrote out 0 (asked_lines (batch_asked standard table events)) new n
  lines_of e w = subst (λ (a : AskedAt TypedDossier). Wrote out 0 (asked_lines a) new n) (sym e) w

  pub done-lines :
      (d : TypedDossier) → batch_asked standard table events ≡ accepted d → Wrote out 0 (opened_lines d.type d.headed (opens d)) new n →
      Wrote out 0 (asked_lines (batch_asked standard table events)) new n
  unfolding asked_lines
  done-lines d e w = lines_of e w

  pub refused-lines : (m i : ℕ) → batch_asked standard table events ≡ refused_at m i → Wrote out 0 (refused_line m i) new n →
      Wrote out 0 (asked_lines (batch_asked standard table events)) new n
  unfolding asked_lines
  refused-lines m i e w = lines_of e w

-- ---- the report

asked-short : (table batch : List ℕ) → length (asked_lines (batch_asked standard table batch)) ≤ report_capacity
unfolding asked_lines
asked-short table batch = go (batch_asked standard table batch) refl
  where
    go : (a : AskedAt TypedDossier) → batch_asked standard table batch ≡ a → length (asked_lines a) ≤ report_capacity
    go (refused_at n i) e = omega (arith, refused-short n i)
    go (accepted d) e = (batch-opens table batch d e report_capacity (omega arith)).fits

-- every report has its room
pub report-short : (input : List ℕ) → length (report input) ≤ report_capacity
unfolding report framed_lines
report-short input = go (leb (length input) most_input) (read_text input)
  where
    go : (b : Bool) (p : Parse (List ℕ)) → length (cond b (framed_lines p) (refused_line 9 0)) ≤ report_capacity
    go true fail = omega (arith, refused-short 9 0)
    go true (got table batch) = asked-short table batch
    go false p = omega (arith, refused-short 9 0)

pub report-small : (input out : List ℕ) → length out < report_capacity → replies (Err SmallBuffer) out ≡ report_call input out
unfolding report_call report_answer
report-small input out h = rw (lt-leb report_capacity (length out) h)

written : (input out lines : List ℕ) {new : List ℕ} {n : ℕ} → report_capacity ≤ length out → report input ≡ lines → Wrote out 0 lines new n →
    replies (Ok n) new ≡ report_call input out
unfolding report_call report_answer
written input out lines {new} {n} h e w =
    let m : n ≡ length lines = omega (arith, w.after) in
    let room : 0 + length lines ≤ length out = omega (arith, ap length e, report-short input, h) in
    rw (le-leb report_capacity (length out) h, e)
    (ap₂ (λ (k : ℕ) (l : List ℕ). replies (Ok k) l) m (wrote-between room w ∙ ap (λ (k : ℕ). lines ++ drop k out) m))

module _ (input out : List ℕ) {new : List ℕ} {n : ℕ} (room : report_capacity ≤ length out) where
  pub report-long : most_input < length input → Wrote out 0 (refused_line 9 0) new n → replies (Ok n) new ≡ report_call input out
  report-long h w = written input out (refused_line 9 0) room (unfold report in (rw (lt-leb (length input) most_input h))) w

  module _ (few : length input ≤ most_input) where
    pub report-unread : read_text input ≡ fail → Wrote out 0 (refused_line 9 0) new n → replies (Ok n) new ≡ report_call input out
    report-unread e w = written input out (refused_line 9 0) room (unfold report framed_lines in (rw (le-leb (length input) most_input few, e))) w

    -- the table's part of the input, and what follows it
    pub report-parts :
        {a e : ℕ} → TextStops input 0 a e → Wrote out 0 (asked_lines (batch_asked standard (part input a e) (part input e (length input)))) new n →
        replies (Ok n) new ≡ report_call input out
    report-parts {a} {e} t w =
        written input out (asked_lines (batch_asked standard (part input a e) (drop e input))) room
        (unfold report framed_lines in (rw (le-leb (length input) most_input few, t.is)))
        (subst (λ (events : List ℕ). Wrote out 0 (asked_lines (batch_asked standard (part input a e) events)) new n) rest w)
      where
        rest : part input e (length input) ≡ drop e input
        rest = take_all (length input - e) (drop e input) (omega (arith, length-drop e input))
