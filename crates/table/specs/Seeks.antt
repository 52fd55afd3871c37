-- Looking for a key in its own buckets.
use Rattle.std.specs.Prelude.{◌≡◌, ℕ, ◌/◌, Some, None, Option}
use Rattle.records.specs.declared.numbers.Words.{Words}
use Rattle.assignment.specs.Assign.{In}
use Rattle.rules.specs.Tables.{State, HoldsAt, own_buckets}
use Rattle.lookup.specs.declared.hit.Hit.{Hit}

-- in the own buckets of a key, on any table: its record, or none
pub record Sought {R K : Type 0} (key : R → K) (words : K → Words) (hash : Words → ℕ) (s : State R) (k : K) (answer : Option (Hit R)) : Type 0 where
  pub here : (h : Hit R) → answer ≡ Some h → HoldsAt s h.cell h.held
  pub same : (h : Hit R) → answer ≡ Some h → key h.held ≡ k
  pub none : answer ≡ None → (c : ℕ) (r : R) → HoldsAt s c r → key r ≡ k → In (c / s.size.settings.cells) (own_buckets hash s.size (words k)) → ⊥
