-- What a plate is: over its characters as typed, over its 12 bytes, and over its two words.
use Rattle.std.specs.Prelude.{◌≡◌, ℕ, ◌-◌, ◌≤◌, Bool, true, false, cond, ◌&&◌, ◌||◌, List, [], ◌∷◌, ◌++◌, length, replicate, nat_le}
use Rattle.std.specs.List.{list_all}
use Rattle.records.specs.Bytes.{all_are_lem, bytes4, bytes8}

-- A to Z or 0 to 9
unfoldable pub character : ℕ → Bool
character c = (nat_le 48 c && nat_le c 57) || (nat_le 65 c && nat_le c 90)

unfoldable pub all_characters_lem : List ℕ → Bool
all_characters_lem xs = list_all character xs

-- what a plate looks like as typed
abbrev pub Text : List ℕ → Type 0
Text cs = (1 ≤ length cs) × (length cs ≤ 12) × (all_characters_lem cs ≡ true)

-- a text with blanks after it, 12 bytes in all
abbrev pub padded : List ℕ → List ℕ
padded cs = cs ++ replicate (12 - length cs) 32

-- characters, then blanks to the end
unfoldable pub ended : List ℕ → Bool
ended [] = true
ended (x ∷ xs) = cond (character x) (ended xs) (all_are_lem 32 (x ∷ xs))

-- at least one character, then blanks to the end
unfoldable pub plate_in : List ℕ → Bool
plate_in [] = false
plate_in (x ∷ xs) = cond (character x) (ended xs) false

-- the 12 bytes of two numbers, of eight bytes and of four
abbrev pub plate_bytes : ℕ → ℕ → List ℕ
plate_bytes a b = bytes8 a ++ bytes4 b

-- these are the two words of a plate
unfoldable pub is_plate : ℕ → ℕ → Bool
is_plate a b = plate_in (plate_bytes a b)
