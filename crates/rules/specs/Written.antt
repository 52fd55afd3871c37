-- Which cells a call wrote, what they are made of then, and that it wrote none from some cell on.
use Rattle.std.specs.Prelude.{◌≡◌, ℕ, ◌≤◌, List, length, slice_index_or, None, Option}
use Rattle.stores.specs.Makings.{Raw}

-- The cells W were written and no others: each is made of what a write makes of what it holds, the others of what they were.
pub record Wrote {N R : Type 0} (code : ℕ → Option R → Raw N) (raw raw' : ℕ → Raw N) (after : List (Option R)) (W : ℕ → Type 0) : Type 0 where
  pub others : (c : ℕ) → (W c → ⊥) → raw' c ≡ raw c
  pub made : (c : ℕ) → W c → raw' c ≡ code c (slice_index_or after c None)

-- No cell from n on was written, and none is missing.
pub record Kept {N R : Type 0} (n : ℕ) (cells after : List (Option R)) (raw raw' : ℕ → Raw N) : Type 0 where
  pub reach : length after ≡ length cells
  pub past : (c : ℕ) → n ≤ c → slice_index_or after c None ≡ slice_index_or cells c None
  pub made : (c : ℕ) → n ≤ c → raw' c ≡ raw c
