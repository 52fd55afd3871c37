-- The state of a table, a key's own buckets, and when a table is sound.
use Rattle.std.specs.Prelude.{◌≡◌, ℕ, ◌*◌, ◌/◌, ◌<◌, ◌≤◌, Bool, true, false, List, map, length, take, slice_index_or, Some, None, Option}
use Rattle.std.specs.List.{range_with_len}
use Rattle.records.specs.declared.numbers.Words.{Words}
use Rattle.addresses.specs.declared.sizes.Size.{Size}
use Rattle.addresses.specs.Positions.{choice_of}
use Rattle.addresses.specs.Sized.{buckets_in, place_in}
use Rattle.assignment.specs.Assign.{In, count}

-- a table: its size, with the settings in it, its count of records, and the cells of its store
pub record State (R : Type 0) : Type 0 where
  pub size : Size
  pub count : ℕ
  pub cells : List (Option R)

-- the number of cells that a table of this size uses
abbrev pub used_in : Size → ℕ
used_in z = buckets_in z * z.settings.cells

-- where choice i of a key with these words lies
abbrev pub choice_at : (Words → ℕ) → Size → Words → ℕ → ℕ
choice_at hash z w i = place_in z (choice_of (hash w) i)

-- a key's own buckets: the positions of its choices 0 to H - 1
abbrev pub own_buckets : (Words → ℕ) → Size → Words → List ℕ
own_buckets hash z w = map (choice_at hash z w) (range_with_len 0 z.settings.choices)

-- whether a cell holds a record
abbrev pub holding : {R : Type 0} → Option R → Bool
holding None = false
holding (Some r) = true

module _ {R : Type 0} where
  -- cell c is in use and holds r
  pub record HoldsAt (s : State R) (c : ℕ) (r : R) : Type 0 where
    pub used : c < used_in s.size
    pub here : slice_index_or s.cells c None ≡ Some r

  -- how many used cells hold a record
  abbrev pub records : State R → ℕ
  records s = count holding (take (used_in s.size) s.cells)

-- A sound table, by what the key of a record is, which words a key has, and what the family makes of them. Its settings and its size
-- are lawful by what they are.
pub record Sound {R K : Type 0} (key : R → K) (words : K → Words) (hash : Words → ℕ) (s : State R) : Type 0 where
  -- the store has the used cells
  pub reach : used_in s.size ≤ length s.cells
  -- every record in them lies in an own bucket
  pub home : (c : ℕ) (r : R) → HoldsAt s c r → In (c / s.size.settings.cells) (own_buckets hash s.size (words (key r)))
  -- no key stands twice
  pub once : (b c : ℕ) (q r : R) → HoldsAt s b q → HoldsAt s c r → key q ≡ key r → b ≡ c
  -- the count is right
  pub counted : records s ≡ s.count
