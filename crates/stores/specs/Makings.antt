-- What cells are made of beneath their meaning, and what no call on a store changes.
use Rattle.std.specs.Prelude.{ℕ, ◌-◌, cond, List, nat_lt, Option}

-- plain numbers or bytes
pub data Raw (N : Type 0) : Type 0 where
  of_cell : Option N → Raw N
  of_bytes : List ℕ → Raw N

-- The names of the references that a store holds, in the shape of the store; and, of a part of a store, where it begins, its length,
-- and the cells before it and behind it.
pub data Place (R : Type 0) : Type 0 where
  at_name : ℕ → Place R
  both : Place R → Place R → Place R
  part : ℕ → ℕ → List (Option R) → List (Option R) → Place R → Place R

-- of two things end to end, the first of which has n cells, what belongs to cell k
abbrev pub either : {X : Type 0} → ℕ → (ℕ → X) → (ℕ → X) → ℕ → X
either n f g k = cond (nat_lt k n) (f k) (g (k - n))
