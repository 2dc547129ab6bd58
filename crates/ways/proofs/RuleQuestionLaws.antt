-- The rule over accepted events of one type, source and match values, inside the limits, is a dossier of which questions 3 to 6 are answered yes.
use mathlib.Core.Path.{◌≡◌, refl, sym, ap, ◌∙◌, subst}
use mathlib.Core.Bool.{true, false, cond, not, ◌&&◌, ◌||◌}
use mathlib.Core.Option.{none, some}
use mathlib.Core.List.Memᴰ
use mathlib.Core.List.{List, [], ◌∷◌, map, Memᴰ}
use Prim.Native.Nat.{ℕ, ◌-◌, ◌^◌, ◌≤◌, ◌<◌}
use native.Mathlib.Omega.{arith}
use lib.ListN.{length, get_or, get_elem?, length-map, get_or-map}
use borrow.Author.Tests.{le-leb, eq-eqb}
use Rattle.model.specs.Order.{Text, numbers, texts, sets}
use Rattle.model.specs.Rule.{Cell, holds, differs, places, Snapshot, Dossier, rule, sizes}
use Rattle.model.proofs.PartLaws.{count}
use Rattle.model.specs.Limits.{Limits, Permitted, fits}
use Rattle.model.specs.Opening.{held, is_mark, cell_at}
use Rattle.model.proofs.WayClaims.{Each, Has}
use Rattle.model.proofs.Cases.{truth}
use Rattle.model.proofs.OrderLaws.{equal-true}
use Rattle.model.proofs.KeyedLaws.{rising-keys}
use Rattle.model.proofs.SetLaws.{rising-ups}
use Rattle.model.proofs.RuleLaws.{rising-snapshots}
use Rattle.model.proofs.LimitLaws.{fits-bounds}
use Rattle.model.proofs.ValidLaws.{one-snapshot}
use Rattle.model.proofs.DossierLaws.{parents-rise, parent_of, snapshot-in, snapshot-events, cells-length, snapshot-objects, cell-value, cell-rises, cell_set}
use Rattle.model.proofs.DossierLaws.{cell-mandatory, cell_unmarked, cell-least, match-cells, version-cell}
use Rattle.model.proofs.SizeLaws.{sizes-in}
use Rattle.packed.proofs.LayoutLaws.{All}
use Rattle.values.specs.Decimal.{in_decimal}
use Rattle.replies.specs.Questions.{accepted}
use Rattle.ontology.specs.Table.{Property, EventType, Table, is_min, is_max, is_match, is_versioned, type_named}
use Rattle.ontology.proofs.TableLaws.{TypeKept, place_in}
use Rattle.event.specs.Event.{Event, set_at, version_of, type_view, event_view, view}
use Rattle.event.specs.EventLayout.{narrow}
use Rattle.event.specs.Head.{is_source}
use Rattle.event.specs.EventQuestions.{are_in_space, values_fit}
use Rattle.event.proofs.EventLayoutLaws.{SetWritten}
use Rattle.event.proofs.HeadLayoutLaws.{ParentsWritten}
use Rattle.event.proofs.EventQuestionLaws.{all-member, member-all, all-at, at_all, place-each, are-in-space, MatchAlike, match-count, fits-some, fits-single}
use Rattle.event.proofs.EventQuestionLaws.{EventFits, empty-written, set-written, set-rises, choice-none, choice-match, extreme-least, version-set}
use Rattle.event.proofs.EventQuestionLaws.{version_below, version-none, count-objects}
use Rattle.event.proofs.EventSizeLaws.{each_within}
use Rattle.event.specs.Agreement.{match_sets}
use Rattle.dossier.specs.DossierLayout.{Headed, dossier_bytes, headed}
use Rattle.dossier.specs.DossierQuestions.{each_cell, each_snapshot, is_vacant, is_present}
use Rattle.dossier.specs.DossierQuestions.{is_lone, is_lone_if_single, is_lone_if_extreme, unversioned_snapshot}
use Rattle.dossier.specs.DossierQuestions.{unversioned_shape, holds_version, versioned_snapshot, snapshot_match, is_unmarked_match, match_fits, dossier_shape}
use Rattle.dossier.specs.DossierQuestions.{snapshot_values, dossier_asked, dossier_match}
use Rattle.dossier.proofs.DossierBodyLaws.{SnapshotWritten}
use Rattle.dossier.proofs.DossierLayoutLaws.{DossierWritten, dossier-read}
use Rattle.dossier.proofs.DossierSizeLaws.{held-objects}
use Rattle.dossier.proofs.DossierQuestionLaws.{cell-each, snapshot-each, match-sets, match-alike, dossier-match, dossier-accepted}
use Rattle.ways.specs.ByteWays.{SameMatch}

-- the case of a cell
cell-is : {C : Type 0} (c : Cell) → (c ≡ differs → C) → ((s : List Text) → c ≡ holds s → C) → C
cell-is differs f g = f refl
cell-is (holds s) f g = g s refl

held_at : (z : Snapshot) (p : ℕ) → get_or (map held z.cells) p [] ≡ held (cell_at z p)
unfolding cell_at held
held_at z p = get_or-map held z.cells p (holds [])

pub has-length : {A : Type 0} (xs : List A) → Has xs → 1 ≤ length xs
has-length [] h = absurd (Memᴰ.not-nil h.1)
has-length (x ∷ xs) h = omega arith

-- "has an unversioned one a single snapshot"
one-alone : (t : EventType) (es : List Event) → Has es → is_versioned t ≡ false → length (rule (view t) es).snapshots ≡ 1
unfolding type_view event_view
one-alone t [] n u = absurd (Memᴰ.not-nil n.1)
one-alone t (e ∷ es) n u = ap (λ (zs : List Snapshot). length zs) (one-snapshot (view t) 0 e es (λ x m. version-none t x u))

-- "At most 32 objects in all", counted by place
pub few-objects : (t : EventType) (es : List Event) → Each (EventFits t) es → Each (λ e. count (view t) e (places (type_view t)) ≤ 32) es
unfolding narrow
few-objects t es a e m = omega (arith, count-objects t e (a e m).written.sets.long, (a e m).written.objects)

-- Accepted events of one type and source, with the match values of the event d, and inside the limits
pub record Gathered (limits : Limits) (t : EventType) (uri : Text) (d : Event) (es : List Event) : Type 0 where
  pub kept : TypeKept t
  pub one : Has es
  pub fit : Each (EventFits t) es
  pub model : EventFits t d
  pub alike : Each (λ e. SameMatch t e d) es
  pub from : Each (λ e. e.head.source ≡ uri) es
  pub permitted : Permitted limits
  pub inside : fits limits (type_view t) (rule (view t) es) ≡ true

module _ {limits : Limits} (t : EventType) (uri : Text) (d : Event) (es : List Event) (g : Gathered limits t uri d es) where
  abbrev ruled : Dossier
  ruled = rule (view t) es

  module _ (z : Snapshot) (m : Memᴰ z ruled.snapshots) where
    all-cells : length z.cells ≡ 32
    unfolding type_view event_view
    all-cells = cells-length (view t) es z m

    -- ---- a place without a property
    vacant-cell : (p : ℕ) → p < 32 → get_elem? t.properties p ≡ none → cell_at z p ≡ holds []
    unfolding type_view event_view
    vacant-cell p l o = match-cells (view t) es z m p l [] (choice-none t p o).0 tt (λ e i. (g.fit e i).vacant p o)

    -- ---- a property
    module _ (p : ℕ) (q : Property) (at : get_elem? t.properties p ≡ some q) where
      below : p < 32
      below = place_in t g.kept p q at

      mandatory : is_present q (cell_at z p) ≡ true
      unfolding is_present is_mark held type_view event_view
      mandatory = truth q.optional
          (λ o. rw o)
          (λ o. cell-is (cell_at z p)
          (λ e. rw (o, e))
          (λ s e. rw (o, e) (le-leb 1 (length s) (has-length s
          (cell-mandatory (view t) es z m p below s e (λ x i. fits-some q (set_at x p) ((g.fit x i).fits p q at) o))))))

      single : is_versioned t ≡ true → is_lone_if_single q (cell_at z p) ≡ true
      unfolding is_lone_if_single is_lone held type_view event_view
      single u = truth q.multivalued
          (λ o. rw o)
          (λ o. cell-is (cell_at z p)
          (λ e. rw (o, e))
          (λ s e.
          let (x, i, v, r) = cell_set (view t) es z m p below s u e in
          rw (o, e) (le-leb (length s) 1 (subst (λ (y : List Text). length y ≤ 1) r (fits-single q (set_at x p) ((g.fit x i).fits p q at) o)))))

      unmarked : is_versioned t ≡ false → (not (is_mark (cell_at z p)) && is_lone_if_extreme q (cell_at z p)) ≡ true
      unfolding is_lone_if_extreme is_lone is_mark held type_view event_view
      unmarked u = cell-is (cell_at z p)
          (λ e. absurd (cell_unmarked (view t) es z m p below u e))
          (λ s e. rw e (truth (is_min q || is_max q)
          (λ x. let (O, c) = extreme-least t p q at x in rw x (le-leb (length s) 1 (cell-least (view t) es z m p below O s u c e)))
          (λ x. rw x)))

      match-cell : is_match q ≡ true → cell_at z p ≡ holds (set_at d p)
      unfolding type_view event_view
      match-cell x = match-cells (view t) es z m p below (set_at d p) (choice-match t p q at x).0 (set-rises t d g.model p) (λ e i. g.alike e i p q at x)

      matched : is_unmarked_match q (cell_at z p) ≡ true
      unfolding is_unmarked_match is_lone_if_single is_lone is_mark held
      matched = truth (is_match q)
          (λ x. rw (x, match-cell x) (truth q.multivalued (λ o. rw o) (λ o. rw o (le-leb _ 1 (fits-single q (set_at d p) (g.model.fits p q at) o)))))
          (λ x. rw x)

    -- ---- the snapshot

    presence : each_cell is_present is_vacant t.properties z.cells ≡ true
    unfolding is_vacant is_mark held
    presence = cell-each is_present is_vacant t.properties z mandatory (λ p l o. rw (vacant-cell p (omega (arith, all-cells)) o))

    versioned-objects : is_versioned t ≡ true → sizes z.cells ≤ 32
    unfolding type_view event_view
    versioned-objects u = snapshot-objects (view t) es z m u 32 (few-objects t es g.fit)

    unversioned-objects : is_versioned t ≡ false → sizes z.cells ≤ limits.objects
    unfolding type_view event_view
    unversioned-objects u = let (x, y, w) = fits-bounds limits (type_view t) ruled g.inside in omega (arith, w u, sizes-in ruled.snapshots z m)

    most-objects : sizes z.cells ≤ 256
    most-objects = truth (is_versioned t)
        (λ u. omega (arith, versioned-objects u))
        (λ u. omega (arith, unversioned-objects u, g.permitted.few-objects))

    has-version : is_versioned t ≡ true → cell_at z (t.mark - 1) ≡ holds (in_decimal z.version ∷ [])
    unfolding type_view event_view
    has-version u =
        let mark = g.kept.marked u in
        version-cell (view t) es z m (t.mark - 1) (place_in t g.kept (t.mark - 1) mark.property mark.at) (λ v. in_decimal v ∷ []) u
        (λ e i. version-set t e g.kept (g.fit e i) u)

    versioned-shape : is_versioned t ≡ true → versioned_snapshot t z ≡ true
    unfolding versioned_snapshot holds_version type_view event_view
    versioned-shape u =
        let few = le-leb (sizes z.cells) 32 (versioned-objects u) in
        rw (few, cell-each is_lone_if_single (λ c. true) t.properties z (λ p q at. single p q at u) (λ p l o. refl), has-version u)
        ((equal-true sets (in_decimal z.version ∷ []) (in_decimal z.version ∷ [])).1 refl)

    version_is : (e : Event) × Memᴰ e es × (version_of t e ≡ z.version)
    unfolding type_view event_view
    version_is = let (fs, h, c, q) = snapshot-events (view t) es z m in (h.0, (c h.0 h.1).0, (c h.0 h.1).1)

    unversioned-snapshot : is_versioned t ≡ false → unversioned_snapshot limits t z ≡ true
    unfolding unversioned_snapshot
    unversioned-snapshot u =
        let (e, i, v) = version_is in
        let cells = cell-each (λ q c. not (is_mark c) && is_lone_if_extreme q c) (λ c. true) t.properties z (λ p q at. unmarked p q at u) (λ p l o. refl) in
        rw (eq-eqb z.version 0 (sym v ∙ version-none t e u), cells)
        (le-leb (sizes z.cells) limits.objects (unversioned-objects u))

    alike-sets : MatchAlike t.properties (map held z.cells) d.sets
    unfolding held
    alike-sets p q at x = held_at z p ∙ ap held (match-cell p q at x)

    same_length : length (map held z.cells) ≡ length d.sets
    same_length = length-map z.cells held ∙ (all-cells ∙ sym g.model.written.sets.long)

    match-fits : match_fits t z ≡ true
    unfolding match_fits
    match-fits =
        rw (
          cell-each is_unmarked_match (λ c. true) t.properties z matched (λ p l o. refl),
          match-count t.properties (map held z.cells) d.sets same_length alike-sets,
        )
        (le-leb _ 32 g.model.matches)

    snapshot-match : snapshot_match t z ≡ match_sets t.properties d.sets
    snapshot-match = (match-sets t.properties (map held z.cells) d.sets same_length).0 alike-sets

    -- a value that is held is a value of an event
    held-from : (p : ℕ) → p < 32 → (v : Text) → Memᴰ v (held (cell_at z p)) → (e : Event) × Memᴰ e es × Memᴰ v (set_at e p)
    unfolding type_view event_view held
    held-from p l v i = cell-is (cell_at z p)
        (λ e. absurd (Memᴰ.not-nil (rw e at i)))
        (λ s e. let (x, j, w, r) = cell-value (view t) es z m p l s e v (rw e at i) in (x, j, r))

    values-fit : snapshot_values t z ≡ true
    unfolding snapshot_values values_fit
    values-fit = place-each (λ q s. are_in_space q.kind s) (λ s. true) t.properties (map held z.cells)
        (λ p q at. rw (held_at z p) (are-in-space q.kind (held (cell_at z p))
        (λ v i. let (e, j, r) = held-from p (below p q at) v i in (g.fit e j).values p q at v r)))
        (λ p l o. refl)

    held_small : All (λ (x : List Text). length x ≤ 256) (map held z.cells)
    held_small = each_within 256 (map held z.cells) (omega (arith, held-objects z.cells, most-objects))

    held-written : (p : ℕ) → p < 32 → SetWritten (held (cell_at z p))
    unfolding type_view event_view held
    held-written p l = record {
      rises = cell-is (cell_at z p)
          (λ e. rw e empty-written.rises)
          (λ s e. rw e ((rising-ups texts s).1 (cell-rises (view t) es z m p l s e (λ x i. set-rises t x (g.fit x i) p))));
      few =
          omega (
            arith,
            all-at (λ (x : List Text). length x ≤ 256) [] (omega arith) (map held z.cells) held_small p,
            ap (λ (x : List Text). length x) (held_at z p),
          );
      short = member-all (λ (v : Text). length v < 2 ^ 64) (held (cell_at z p)) (λ v i.
          let (e, j, r) = held-from p l v i in
          all-member (λ (w : Text). length w < 2 ^ 64) (set_at e p) (set-written t e (g.fit e j) p).short v r);
    }

    snapshot-written : SnapshotWritten z
    snapshot-written =
        let long = length-map z.cells held in
        record {
          version = let (e, i, v) = version_is in subst (λ (x : ℕ). x < 2 ^ 64) v (version_below t e g.kept (g.fit e i));
          sets = record {
            long = long ∙ all-cells;
            each = at_all SetWritten [] (map held z.cells) (λ p l. rw (held_at z p) (held-written p (omega (arith, long, all-cells))));
          };
          small = held_small;
        }

  -- ---- the dossier

  -- question 5
  rule-shape : dossier_shape limits t ruled.snapshots ≡ true
  unfolding dossier_shape unversioned_shape
  rule-shape =
      rw (
        snapshot-each (λ z. each_cell is_present is_vacant t.properties z.cells) ruled.snapshots presence,
        kinds,
        snapshot-each (match_fits t) ruled.snapshots match-fits,
      )
      (match-alike t ruled.snapshots (match_sets t.properties d.sets) snapshot-match)
    where
      kinds : cond (is_versioned t) (each_snapshot (versioned_snapshot t) ruled.snapshots) (unversioned_shape limits t ruled.snapshots) ≡ true
      kinds = truth (is_versioned t)
          (λ u. rw u (snapshot-each (versioned_snapshot t) ruled.snapshots (λ z m. versioned-shape z m u)))
          (λ u. rw (u, eq-eqb (length ruled.snapshots) 1 (one-alone t es g.one u))
          (snapshot-each (unversioned_snapshot limits t) ruled.snapshots (λ z m. unversioned-snapshot z m u)))

  -- question 6
  rule-values : each_snapshot (snapshot_values t) ruled.snapshots ≡ true
  rule-values = snapshot-each (snapshot_values t) ruled.snapshots values-fit

  some-snapshot : 1 ≤ length ruled.snapshots
  some-snapshot = has-length ruled.snapshots (_, snapshot-in (view t) es g.one.0 g.one.1)

  -- what question 7 asks
  pub rule-match : dossier_match t ruled.snapshots ≡ match_sets t.properties d.sets
  rule-match = dossier-match t ruled.snapshots (match_sets t.properties d.sets) some-snapshot snapshot-match

  abbrev ruled-head : Headed
  ruled-head = headed t.name uri ruled

  pub parents-written : ParentsWritten limits.parents ruled.parents
  unfolding type_view event_view
  parents-written =
      let (x, y, w) = fits-bounds limits (type_view t) ruled g.inside in record {
        within = x;
        few = omega (arith, g.permitted.few-parents);
        each = member-all (λ (h : Text). length h ≡ 20) ruled.parents (λ h i.
            let (e, j, r) = parent_of (view t) es h i in
            all-member (λ (x : Text). length x ≡ 20) e.head.parents (g.fit e j).written.head.parents.each h r);
        rises = (rising-ups texts ruled.parents).1 (parents-rise (view t) es);
      }

  rule-written : DossierWritten limits ruled-head
  rule-written =
      let (x, y, w) = fits-bounds limits (type_view t) ruled g.inside in record {
        head = record {
          type = omega (arith, g.kept.short);
          source = subst (λ (u : Text). is_source u ≡ true) (g.from g.one.0 g.one.1) (g.fit g.one.0 g.one.1).written.head.source;
          parents = parents-written;
        };
        body = record {
          one = some-snapshot;
          within = y;
          few = omega (arith, g.permitted.few-versions);
          snapshots = member-all SnapshotWritten ruled.snapshots snapshot-written;
          rises = (rising-ups numbers (map (λ (z : Snapshot). z.version) ruled.snapshots)).1
              ((rising-keys numbers (λ (z : Snapshot). z.version) ruled.snapshots).0 (rising-snapshots (view t) es));
        };
      }

  -- questions 3 to 6 of the rule's bytes
  pub rule-asked :
      (table : Table) → type_named t.name table ≡ some t →
      dossier_asked limits table (dossier_bytes ruled-head) ≡ accepted (record { type = t; headed = ruled-head })
  rule-asked table y =
      dossier-accepted limits table (dossier_bytes ruled-head) t ruled-head (dossier-read limits ruled-head rule-written) y rule-shape rule-values
