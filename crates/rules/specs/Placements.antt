-- Records in buckets: where the choices of a key lead, which cells are empty, and the way of a record into its bucket.
use Rattle.std.specs.Prelude.{◌≡◌, ℕ, zero, suc, ◌+◌, ◌*◌, ◌/◌, ◌<◌, ◌≤◌, List, [], ◌∷◌, map, length, get_or, ◌≢◌, slice_index, slice_index_or, slice_set, Some, None, Option}
use Rattle.std.specs.List.{range_with_len}
use Rattle.records.specs.declared.numbers.Words.{Words}
use Rattle.addresses.specs.declared.sizes.Size.{Size}
use Rattle.addresses.specs.Positions.{choice_of}
use Rattle.addresses.specs.Sized.{buckets_in, place_in}

-- What placing a record has to know of a table: how many buckets there are, the cells of each, the choices of a key, what lies in
-- the cells, a record's key words, their hash word, and where each choice of a hash word lies.
pub record Placement (R : Type 0) : Type 0 where
  pub size : ℕ
  pub cells : ℕ
  pub choices : ℕ
  pub held : List (Option R)
  pub words : R → Words
  pub hash : Words → ℕ
  pub lies : ℕ → ℕ → ℕ

-- its numbers are in their ranges, its choices lie in buckets that there are, and these have their cells
pub record Lawful {R : Type 0} (f : Placement R) : Type 0 where
  pub few : f.size ≤ 16384
  pub some_cells : 1 ≤ f.cells
  pub few_cells : f.cells ≤ 8
  pub two_choices : 2 ≤ f.choices
  pub few_choices : f.choices ≤ 4
  pub inside : (v i : ℕ) → i < f.choices → f.lies v i < f.size
  pub reach : f.size * f.cells ≤ length f.held

-- cells in the buckets of a size, by a record's key words and a family
abbrev pub placement_of : {R : Type 0} → (R → Words) → (Words → ℕ) → Size → List (Option R) → Placement R
placement_of words hash z cs = record {
  size = buckets_in z;
  cells = z.settings.cells;
  choices = z.settings.choices;
  held = cs;
  words = words;
  hash = hash;
  lies = λ v i. place_in z (choice_of v i);
}

-- 1 for an empty cell
abbrev pub blank : {R : Type 0} → Option R → ℕ
blank None = 1
blank (Some r) = 0

-- how many of the n cells from b on are empty
abbrev pub vacant_in : {R : Type 0} → List (Option R) → ℕ → ℕ → ℕ
vacant_in cs b zero = 0
vacant_in cs b (suc n) = blank (slice_index_or cs (b + n) None) + vacant_in cs b n

-- no two of the cells lie in one bucket of B cells
abbrev pub Apart : ℕ → List ℕ → Type 0
Apart B [] = Unit {0}
Apart B (c ∷ cs) = ((n : ℕ) → n < length cs → slice_index cs n / B ≢ c / B) × Apart B cs

-- the cells along a path change hands: v goes to the first, what was there to the next, and so on
abbrev pub handed : {R : Type 0} → List ℕ → Option R → List (Option R) → List (Option R)
handed [] v cs = cs
handed (c ∷ path) v cs = slice_set (handed path (slice_index_or cs c None) cs) c v

module _ {R : Type 0} (f : Placement R) where
  -- the hash word of a record's key
  abbrev pub word : R → ℕ
  word r = f.hash (f.words r)

  -- the own buckets of a hash word
  abbrev pub owns : ℕ → List ℕ
  owns v = map (f.lies v) (range_with_len 0 f.choices)

  -- p is one of them
  abbrev pub Own : ℕ → ℕ → Type 0
  Own v p = (i : ℕ) × (i < f.choices) × (f.lies v i ≡ p)

  -- how many cells of bucket p are empty
  abbrev pub vacant : ℕ → ℕ
  vacant p = vacant_in f.held (p * f.cells) f.cells

  -- c is the lowest empty cell of bucket p
  pub record LowestEmpty (p c : ℕ) : Type 0 where
    pub within : c / f.cells ≡ p
    pub empty : get_or f.held c None ≡ None
    pub lowest : (b : ℕ) → b < c → b / f.cells ≡ p → slice_index_or f.held b None ≢ None

  -- A path of cells: the record in each goes to the next, which lies in another of its own buckets; the last cell is the lowest
  -- empty one of its bucket.
  abbrev pub Path : List ℕ → Type 0
  Path [] = ⊥
  Path (c ∷ []) = LowestEmpty (c / f.cells) c
  Path (c ∷ (d ∷ path)) =
      ((r : R) × (slice_index_or f.held c None ≡ Some r) × Own (word r) (d / f.cells))
      × (d / f.cells ≢ c / f.cells)
      × Path (d ∷ path)

  -- the way of a new record with hash word v: it takes the first cell, which lies in an own bucket, and the path goes on from there
  pub record Route (v first : ℕ) (rest : List ℕ) : Type 0 where
    pub own : Own v (first / f.cells)
    pub path : Path (first ∷ rest)
    pub apart : Apart f.cells (first ∷ rest)

  -- Where an own bucket has room: the one with most empty cells, the lowest choice on a tie, and there the lowest empty cell.
  pub record Direct (v first : ℕ) (rest : List ℕ) : Type 0 where
    pub choice : ℕ
    pub below : choice < f.choices
    pub room : 0 < vacant (f.lies v choice)
    pub most : (i : ℕ) → i < f.choices → vacant (f.lies v i) ≤ vacant (f.lies v choice)
    pub earliest : (i : ℕ) → i < choice → vacant (f.lies v i) < vacant (f.lies v choice)
    pub lowest : LowestEmpty (f.lies v choice) first
    pub alone : rest ≡ []

  -- Where none has: along a path.
  pub record Displaced (v first : ℕ) (rest : List ℕ) : Type 0 where
    pub full : (i : ℕ) → i < f.choices → vacant (f.lies v i) ≡ 0
    pub route : Route v first rest
