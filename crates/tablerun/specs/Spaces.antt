-- What a working space is filled with before an insert.
use Rattle.std.specs.Prelude.{◌≡◌, ℕ, ◌+◌, ◌<◌, List, length, min, slice_index}

-- 1, 2, 3 and so on, up to the largest number
abbrev pub CountsUp : List ℕ → Type 0
CountsUp ns = (i : ℕ) → i < length ns → slice_index ns i ≡ min (i + 1) 4294967295
