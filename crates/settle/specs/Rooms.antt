-- Room that is made for a record, by displacing others along a path.
use Rattle.std.specs.Prelude.{◌≡◌, ℕ, ◌*◌, ◌/◌, ◌<◌, List, ◌∷◌, length, get_or, Some, None, Option, slice_index_or}
use Rattle.assignment.specs.Assign.{In}
use Rattle.rules.specs.Placements.{Placement, Apart, Path, Route, handed}
use Rattle.rules.specs.Reach.{Blocked, Layers}
use Rattle.settle.specs.declared.spot.Spot.{Spot}

module _ {R : Type 0} (f : Placement R) where
  -- the way back was walked in d steps to a start: the records on it lie one cell further
  pub record Walked (came : List ℕ) (s : Spot) (d : ℕ) (after : List (Option R)) (Wrote : (ℕ → Type 0) → Type 0) : Type 0 where
    pub rest : List ℕ
    pub inside : s.cell / f.cells < f.size
    pub below : s.cell < f.size * f.cells
    pub start : get_or came (s.cell / f.cells) 0 ≡ 1
    pub path : Path f (s.cell ∷ rest)
    pub apart : Apart f.cells (s.cell ∷ rest)
    pub long : length rest ≡ s.moves
    pub steps : s.moves ≡ d
    pub cells : after ≡ handed rest (slice_index_or f.held s.cell None) f.held
    pub wrote : Wrote (λ c. In c rest)

  -- a route for a record with hash word v begins at the spot's cell, and the displaced records have gone along it: as few as can be
  pub record Cleared (v : ℕ) (after : List (Option R)) (Wrote : (ℕ → Type 0) → Type 0) (s : Spot) : Type 0 where
    pub rest : List ℕ
    pub route : Route f v s.cell rest
    pub long : length rest ≡ s.moves
    pub cells : after ≡ handed rest (slice_index_or f.held s.cell None) f.held
    pub wrote : Wrote (λ c. In c rest)
    pub least : Layers f v s.moves
    pub below : s.cell < f.size * f.cells

  -- what making room answers
  pub record Roomed (v : ℕ) (after : List (Option R)) (Wrote : (ℕ → Type 0) → Type 0) (answer : Option Spot) : Type 0 where
    pub blocked : answer ≡ None → Blocked f v × (after ≡ f.held) × Wrote (λ c. ⊥)
    pub cleared : (s : Spot) → answer ≡ Some s → Cleared v after Wrote s
