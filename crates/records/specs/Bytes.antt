-- Lists of bytes, and numbers as bytes, the highest byte first.
use Rattle.std.specs.Prelude.{ℕ, ◌+◌, ◌*◌, ◌/◌, ◌%◌, Bool, List, [], ◌∷◌, ◌==◌, slice_index}
use Rattle.std.specs.List.{list_all}

-- every byte has the value v
unfoldable pub all_are_lem : ℕ → List ℕ → Bool
all_are_lem v xs = list_all (λ x. x == v) xs

-- the two, four or eight bytes of a number
abbrev pub bytes2 : ℕ → List ℕ
bytes2 w = (w / 256 % 256) ∷ (w % 256) ∷ []

abbrev pub bytes4 : ℕ → List ℕ
bytes4 w = (w / 16777216 % 256) ∷ (w / 65536 % 256) ∷ (w / 256 % 256) ∷ (w % 256) ∷ []

abbrev pub bytes8 : ℕ → List ℕ
bytes8 w =
    (w / 72057594037927936 % 256) ∷ (w / 281474976710656 % 256) ∷ (w / 1099511627776 % 256) ∷ (w / 4294967296 % 256) ∷ (w / 16777216 % 256) ∷ (w / 65536 % 256) ∷ (w / 256 % 256) ∷ (w % 256) ∷ []

-- the number in the two, four or eight bytes from place i on; bytes past the end count as 0
abbrev pub word2 : List ℕ → ℕ → ℕ
word2 c i = slice_index c i * 256 + slice_index c (i + 1)

abbrev pub word4 : List ℕ → ℕ → ℕ
word4 c i = slice_index c i * 16777216 + slice_index c (i + 1) * 65536 + slice_index c (i + 2) * 256 + slice_index c (i + 3)

abbrev pub word8 : List ℕ → ℕ → ℕ
word8 c i =
    slice_index c i * 72057594037927936 + slice_index c (i + 1) * 281474976710656 + slice_index c (i + 2) * 1099511627776 + slice_index c (i + 3) * 4294967296 + slice_index c (i + 4) * 16777216 + slice_index c (i + 5) * 65536 + slice_index c (i + 6) * 256 + slice_index c (i + 7)
