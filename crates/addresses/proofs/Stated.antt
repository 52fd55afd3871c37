-- The laws of positions, stated of numbers.
use Rattle.std.proofs.Common.{◌≡◌, ℕ, ◌+◌, ◌/◌, ◌%◌, ◌^◌, ◌<◌, ◌≤◌, cond, ◌&&◌, eqb}
use Rattle.addresses.specs.Ranges.{buckets}
use Rattle.addresses.specs.Positions.{subtable_of, width_of, position_of, place, grown_x, grown_j, whole}

-- the numbers of a size
abbrev pub Lawful : ℕ → ℕ → ℕ → Type 0
Lawful t x j = (t ≤ 6) × (j < 2 ^ t) × (buckets t x j ≤ 16384)

abbrev pub Below : Type 0
Below = (t x j g b : ℕ) → Lawful t x j → g < 2 ^ t → b < 2 ^ width_of x j g → position_of t g b < buckets t x j

abbrev pub Onto : Type 0
Onto = (t x j p : ℕ) → Lawful t x j → p < buckets t x j → (g : ℕ) × (b : ℕ) × (g < 2 ^ t) × (b < 2 ^ width_of x j g) × (position_of t g b ≡ p)

abbrev pub Added : Type 0
Added =
    (t x j : ℕ) → Lawful t x j →
    (buckets t (grown_x t x j) (grown_j t x j) ≡ buckets t x j + 2 ^ x) ×
    ((b : ℕ) → b < 2 ^ x → position_of t j (b + 2 ^ x) ≡ buckets t x j + b)

abbrev pub Moved : Type 0
Moved =
    (t x j c : ℕ) → Lawful t x j → c < 2 ^ 32 →
    place t (grown_x t x j) (grown_j t x j) c ≡ cond (eqb (subtable_of t c) j && eqb (c / 2 ^ x % 2) 1) (buckets t x j + c % 2 ^ x) (place t x j c)

abbrev pub Within : Type 0
Within = (t x j c : ℕ) → Lawful t x j → c < 2 ^ 32 → whole t x j (place t (grown_x t x j) (grown_j t x j) c) ≡ place t x j c

abbrev pub Merged : Type 0
Merged = (t x j p : ℕ) → Lawful t x j → p < buckets t x j + 2 ^ x → whole t x j p < buckets t x j
