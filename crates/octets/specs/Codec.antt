-- Cells as 32 bytes, for any record kind: its number, the end of its fields, and how its numbers lie in between.
use Rattle.std.specs.Prelude.{ℕ, ◌+◌, ◌*◌, ◌/◌, ◌^◌, min, Bool, false, cond, ◌||◌, List, ◌∷◌, ◌++◌, map, length, take, drop, replicate, is_some, Some, None, Ok, Err, Option, Result, ◌==◌, nat_lt, slice_index}
use Rattle.std.specs.List.{range_with_len}
use Rattle.std.specs.Result.{result_ok}
use Rattle.records.specs.declared.declines.Decline.{Decline}
use Rattle.records.specs.Bytes.{all_are_lem}

-- 32 bytes: byte 0 is 1, byte 1 the kind, and all from the end of the fields on are 0
abbrev pub shaped : ℕ → ℕ → List ℕ → Bool
shaped kind end c = cond (length c == 32) (cond (slice_index c 0 == 1) (cond (slice_index c 1 == kind) (all_are_lem 0 (drop end c)) false) false) false

-- the record that bytes spell, if they do
abbrev pub decoded : {N R : Type 0} → ℕ → ℕ → (List ℕ → N) → (N → Result R Decline) → List ℕ → Option R
decoded kind end numbers_in made c = cond (shaped kind end c) (result_ok (made (numbers_in c))) None

-- the bytes of a record
abbrev pub encoded : {N R : Type 0} → ℕ → (N → List ℕ) → (R → N) → R → List ℕ
encoded kind fields numbers r = 1 ∷ kind ∷ fields (numbers r)

-- the bytes of a cell
abbrev pub coded : {R : Type 0} → (R → List ℕ) → Option R → List ℕ
coded E None = replicate 32 0
coded E (Some r) = E r

-- the 32 bytes of cell i
abbrev pub cell_bytes : List ℕ → ℕ → List ℕ
cell_bytes bs i = take 32 (drop (32 * i) bs)

-- cell i by a decoder D: unlawful bytes count as empty
abbrev pub cell_at_lem : {R : Type 0} → (List ℕ → Option R) → List ℕ → ℕ → Option R
cell_at_lem D bs i = D (cell_bytes bs i)

-- how many cells bytes have
abbrev pub cells_of : List ℕ → ℕ
cells_of bs = min (2 ^ 40) (length bs / 32)

-- bytes as a list of cells
abbrev pub byte_row : {R : Type 0} → (List ℕ → Option R) → List ℕ → List (Option R)
byte_row D bs = map (cell_at_lem D bs) (range_with_len 0 (cells_of bs))

-- the bytes of cell i are lawful: all 0, or those of a record
abbrev pub lawful_at : {R : Type 0} → (List ℕ → Option R) → List ℕ → ℕ → Bool
lawful_at D bs i = all_are_lem 0 (cell_bytes bs i) || is_some (D (cell_bytes bs i))

-- the bytes after a write: the 32 bytes of the named cell, and no others, are replaced
abbrev pub bytes_after : {R : Type 0} → (R → List ℕ) → Result (Option R) Decline → List ℕ → ℕ → List ℕ
bytes_after E (Err d) bs at = bs
bytes_after E (Ok v) bs at = cond (nat_lt at (cells_of bs)) (take (32 * at) bs ++ (coded E v ++ drop (32 * at + 32) bs)) bs
