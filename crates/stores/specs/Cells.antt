-- Cells, and what a read and a write of one answer and leave.
use Rattle.std.specs.Prelude.{ℕ, ◌^◌, cond, List, map, length, take, Ok, Err, Result, nat_lt, slice_index_or, slice_set, Some, None, Option}
use Rattle.records.specs.declared.declines.Decline.{Decline}
use Rattle.records.specs.Declines.{number}

-- an answer, a decline by its number
abbrev pub numbered : {X : Type 0} → Result X Decline → Result X ℕ
numbered (Ok x) = Ok x
numbered (Err d) = Err (number d)

-- a record that was made, in a cell
abbrev pub held : {R : Type 0} → Result R Decline → Result (Option R) Decline
held (Ok r) = Ok (Some r)
held (Err d) = Err d

-- the cell that a write of plain numbers asks for, or why they make no record
abbrev pub asked : {N R : Type 0} → (N → Result R Decline) → Option N → Result (Option R) Decline
asked made None = Ok None
asked made (Some n) = held (made n)

-- what plain numbers in a cell count as: empty, where they make no record
abbrev pub or_empty : {R : Type 0} → Result (Option R) Decline → Option R
or_empty (Ok v) = v
or_empty (Err d) = None

abbrev pub meaning : {N R : Type 0} → (N → Result R Decline) → Option N → Option R
meaning made c = or_empty (asked made c)

-- the cells of a list of plain cells, the first 2 ^ 40 of them
abbrev pub row : {N R : Type 0} → (N → Result R Decline) → List (Option N) → List (Option R)
row made cs = take (2 ^ 40) (map (meaning made) cs)

-- a cell's plain numbers, if its record has these
abbrev pub plain : {N R : Type 0} → (R → N) → Option R → Option N
plain numbers None = None
plain numbers (Some r) = Some (numbers r)

-- what a read answers
abbrev pub read_of : {R : Type 0} → List (Option R) → ℕ → Result (Option R) ℕ
read_of xs at = cond (nat_lt at (length xs)) (Ok (slice_index_or xs at None)) (Err 13)

-- what a write answers: first the decline of numbers that make no record
abbrev pub write_of : {R : Type 0} → Result (Option R) Decline → List (Option R) → ℕ → Result (Unit {0}) ℕ
write_of (Err d) xs at = Err (number d)
write_of (Ok v) xs at = cond (nat_lt at (length xs)) (Ok tt) (Err 13)

-- the cells after a write
abbrev pub after : {R : Type 0} → Result (Option R) Decline → List (Option R) → ℕ → List (Option R)
after (Err d) xs at = xs
after (Ok v) xs at = slice_set xs at v

-- the plain cells of a slice after a write that answered r: a decline leaves them, else the named one is replaced
abbrev pub slice_after : {N : Type 0} → Result (Unit {0}) Decline → List (Option N) → ℕ → Option N → List (Option N)
slice_after (Ok _) cs at c = slice_set cs at c
slice_after (Err d) cs at c = cs
