-- The ranges of settings and sizes, as numbers.
use Rattle.std.specs.Prelude.{ℕ, ◌+◌, ◌*◌, ◌^◌, ◌≤◌}

-- the settings that there are: t, B, H, x0 and d
abbrev pub InRange : ℕ → ℕ → ℕ → ℕ → ℕ → Type 0
InRange t b h s d = (t ≤ 6) × (1 ≤ b) × (b ≤ 8) × (2 ≤ h) × (h ≤ 4) × (s ≤ 8) × (d ≤ 98)

-- U, the number of buckets at size (x, j)
abbrev pub buckets : ℕ → ℕ → ℕ → ℕ
buckets t x j = (2 ^ t + j) * 2 ^ x
