-- The place that is settled for a new record, or why there is none.
use Rattle.std.specs.Prelude.{◌≡◌, ℕ, ◌*◌, ◌<◌, ◌⊎◌, List, length, Ok, Err, Result, slice_index_or, None, Option}
use Rattle.records.specs.declared.declines.Decline.{Decline}
use Rattle.records.specs.declared.numbers.Words.{Words}
use Rattle.records.specs.Declines.{number}
use Rattle.assignment.specs.Assign.{In}
use Rattle.rules.specs.Placements.{Placement, Direct, Displaced, handed}
use Rattle.rules.specs.Reach.{Blocked, Layers}
use Rattle.settle.specs.declared.spot.Spot.{Spot}
use Rattle.settle.specs.Surveys.{Absent, FoundAt}

module _ {R : Type 0} (f : Placement R) (w : Words) (after : List (Option R)) (Wrote : (ℕ → Type 0) → Type 0) where
  -- the record with the key words w may be written to the spot's cell: the records that had to give way have gone
  pub record Ready (s : Spot) : Type 0 where
    pub absent : Absent f w
    pub rest : List ℕ
    pub way : Direct f (f.hash w) s.cell rest ⊎ Displaced f (f.hash w) s.cell rest
    pub long : length rest ≡ s.moves
    pub cells : after ≡ handed rest (slice_index_or f.held s.cell None) f.held
    pub wrote : Wrote (λ c. In c rest)
    pub least : Layers f (f.hash w) s.moves
    pub below : s.cell < f.size * f.cells

  -- nothing was changed, and why: the key is there, or nothing can make room for it
  pub record Refused (n : ℕ) : Type 0 where
    pub why : ((n ≡ 6) × ((c : ℕ) × FoundAt f w c)) ⊎ ((n ≡ 8) × Absent f w × Blocked f (f.hash w))
    pub cells : after ≡ f.held
    pub wrote : Wrote (λ c. ⊥)

  pub record Settled (answer : Result Spot Decline) : Type 0 where
    pub ready : (s : Spot) → answer ≡ Ok s → Ready s
    pub refused : (d : Decline) → answer ≡ Err d → Refused (number d)
