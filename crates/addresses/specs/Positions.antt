-- Choices, subtables, buckets and positions, as numbers.
use Rattle.std.specs.Prelude.{ℕ, ◌+◌, ◌-◌, ◌*◌, ◌/◌, ◌%◌, ◌^◌, cond, ◌==◌, nat_lt}
use Rattle.std.specs.Int.Count.{count_leading_zeros}
use Rattle.addresses.specs.Ranges.{buckets}

-- choice i of a key whose hash word is w: p + i × q modulo 2 ^ 32, where p is the high half of w and q the low half
abbrev pub choice_of : ℕ → ℕ → ℕ
choice_of w i = (w / 2 ^ 32 + i * (w % 2 ^ 32)) % 2 ^ 32

-- the subtable of a choice: its top t bits
abbrev pub subtable_of : ℕ → ℕ → ℕ
subtable_of t c = c / 2 ^ (32 - t)

-- subtable g has 2 ^ width_of x j g buckets
abbrev pub width_of : ℕ → ℕ → ℕ → ℕ
width_of x j g = cond (nat_lt g j) (x + 1) x

-- the bucket of a choice in its subtable: its lowest bits
abbrev pub bucket_of : ℕ → ℕ → ℕ → ℕ → ℕ
bucket_of x j g c = c % 2 ^ width_of x j g

-- the place of the highest one bit of b, which is not 0
abbrev pub highest : ℕ → ℕ
highest b = 31 - count_leading_zeros 32 b

-- where bucket b of subtable g lies
abbrev pub position_of : ℕ → ℕ → ℕ → ℕ
position_of t g b = cond (b == 0) g ((2 ^ t + g - 1) * 2 ^ highest b + b)

-- where a choice lies
abbrev pub place : ℕ → ℕ → ℕ → ℕ → ℕ
place t x j c = position_of t (subtable_of t c) (bucket_of x j (subtable_of t c) c)

-- one grow on
abbrev pub grown_x : ℕ → ℕ → ℕ → ℕ
grown_x t x j = cond (j + 1 == 2 ^ t) (x + 1) x

abbrev pub grown_j : ℕ → ℕ → ℕ → ℕ
grown_j t x j = cond (j + 1 == 2 ^ t) 0 (j + 1)

-- the position at size (x, j) that a position of the next size is split from
abbrev pub whole : ℕ → ℕ → ℕ → ℕ → ℕ
whole t x j p = cond (nat_lt p (buckets t x j)) p (position_of t j (p - buckets t x j))
