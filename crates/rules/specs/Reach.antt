-- Sets of full buckets: why there is no way for a key, and why there is no shorter one.
use Rattle.std.specs.Prelude.{◌≡◌, ℕ, suc, ◌/◌, ◌<◌, Bool, true, slice_index_or, Some, None}
use Rattle.rules.specs.Placements.{Placement, vacant, word}

module _ {R : Type 0} (f : Placement R) where
  -- a set of full buckets that has the own ones of a hash word, and that no record in it can leave
  pub record Blocked (v : ℕ) : Type 0 where
    pub set : ℕ → Bool
    pub first : (i : ℕ) → i < f.choices → set (f.lies v i) ≡ true
    pub full : (p : ℕ) → set p ≡ true → (p < f.size) × (vacant f p ≡ 0)
    pub shut : (c : ℕ) (r : R) → set (c / f.cells) ≡ true → slice_index_or f.held c None ≡ Some r → (i : ℕ) → i < f.choices → set (f.lies (word f r) i) ≡ true

  -- the buckets that a hash word reaches by fewer than m moves: all of them are full
  pub record Layers (v m : ℕ) : Type 0 where
    pub set : ℕ → ℕ → Bool
    pub first : (i : ℕ) → i < f.choices → set 0 (f.lies v i) ≡ true
    pub grows : (d p : ℕ) → suc d < m → set d p ≡ true → set (suc d) p ≡ true
    pub next : (d : ℕ) → suc d < m → (c : ℕ) (r : R) → set d (c / f.cells) ≡ true → slice_index_or f.held c None ≡ Some r → (i : ℕ) → i < f.choices → set (suc d) (f.lies (word f r) i) ≡ true
    pub full : (d : ℕ) → d < m → (p : ℕ) → set d p ≡ true → (p < f.size) × (vacant f p ≡ 0)
