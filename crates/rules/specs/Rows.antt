-- Declines as rows: each a number with its reason, in the order of the checks.
use Rattle.std.specs.Prelude.{◌≡◌, ℕ, ◌⊎◌, List, [], ◌∷◌}

-- a number, and when it is given
abbrev pub Row : Type 1
Row = ℕ × Type 0

-- n is the number of the first row whose reason holds, 0 if none does
abbrev pub First : List Row → ℕ → Type 0
First [] n = n ≡ 0
First (row ∷ rows) n = (row.1 × (n ≡ row.0)) ⊎ ((row.1 → ⊥) × First rows n)
