-- Demand 3's words for a conflict: "two of the events share an event version and differ in a property", "the lowest such version and the first such property
-- there".
use Rattle.std.specs.Prelude.{◌≡◌, ◌⊎◌, ◌≢◌, true, ℕ, ◌≤◌, ◌<◌}
use mathlib.Core.List.{List, Memᴰ}
use Rattle.model.specs.Rule.{View}

-- Two events share the event version v and differ in the property at place p.
-- "An event of an unversioned type has no event version, so it never conflicts"; "Two events differ in a property when their sets there are unequal (empty
-- counts)".
pub record Clash {Event : Type 0} (t : View Event) (es : List Event) (v p : ℕ) : Type 0 where
  pub versioned : t.type.versioned ≡ true
  pub one : Event
  pub other : Event
  pub one_in : Memᴰ one es
  pub other_in : Memᴰ other es
  pub one_version : t.event.version one ≡ v
  pub other_version : t.event.version other ≡ v
  pub place : p < t.type.width
  pub unequal_sets : t.event.set one p ≢ t.event.set other p

-- version w and place q are v and p, or come after them: by version, then by place
abbrev pub NotBefore : ℕ → ℕ → ℕ → ℕ → Type 0
NotBefore v p w q = (v < w) ⊎ ((v ≡ w) × (p ≤ q))

-- the clash of the lowest version, and there of the first place
abbrev pub FirstClash : {Event : Type 0} → View Event → List Event → ℕ → ℕ → Type 0
FirstClash t es v p = Clash t es v p × ((w q : ℕ) → Clash t es w q → NotBefore v p w q)

abbrev pub NoClash : {Event : Type 0} → View Event → List Event → Type 0
NoClash t es = (v p : ℕ) → Clash t es v p → ⊥
