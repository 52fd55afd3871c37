-- What holds of tables.
use Rattle.std.specs.Prelude.{◌≡◌, ℕ, ◌+◌, ◌<◌, ◌≤◌, List, ◌∷◌, length, slice_index_or, slice_set, Some, None}
use Rattle.records.specs.declared.numbers.Words.{Words}
use Rattle.addresses.specs.declared.sizes.Size.{Size}
use Rattle.addresses.specs.Sized.{buckets_in}
use Rattle.assignment.specs.Assign.{In, moves}
use Rattle.rules.specs.Placements.{Route, handed}
use Rattle.rules.specs.Reach.{Blocked, Layers}
use Rattle.rules.specs.Stored.{AssignsAt, HeldAt, Lying, StoredKey, placement_in, stored_keys}
use Rattle.rules.specs.Tables.{State, HoldsAt, Sound, own_buckets, used_in}

-- Own buckets lie below U.
abbrev pub OwnBucketsLieBelow : Type 0
OwnBucketsLieBelow = (hash : Words → ℕ) (z : Size) (w : Words) (p : ℕ) → In p (own_buckets hash z w) → p < buckets_in z

-- A table whose used cells are there and empty, with count 0, is sound.
abbrev pub AnEmptyTableIsSound : Type 0 → Type 0 → Type 0
AnEmptyTableIsSound R K =
    (key : R → K) (words : K → Words) (hash : Words → ℕ) (s : State R) →
    used_in s.size ≤ length s.cells → ((c : ℕ) → c < used_in s.size → slice_index_or s.cells c None ≡ None) → s.count ≡ 0 →
    Sound key words hash s

-- Where a set of full buckets that no record can leave has a key's own, no assignment holds it and all stored keys.
abbrev pub BlockedIsFull : Type 0 → Type 0 → Type 0
BlockedIsFull R K =
    (key : R → K) (words : K → Words) (hash : Words → ℕ) (s : State R) → used_in s.size ≤ length s.cells →
    (r : R) → Blocked (placement_in key words hash s) (hash (words (key r))) →
    HeldAt words hash s.size (key r ∷ stored_keys key s) → ⊥

-- Where all buckets in reach of fewer than m moves are full, each assignment of a key and all stored keys puts m of these at least
-- into another bucket than they lie in.
abbrev pub LayersAreFewest : Type 0 → Type 0 → Type 0
LayersAreFewest R K =
    (key : R → K) (words : K → Words) (hash : Words → ℕ) (s : State R) → used_in s.size ≤ length s.cells →
    (r : R) (m : ℕ) → Layers (placement_in key words hash s) (hash (words (key r))) m →
    (a b : K → ℕ) → Lying key s a → AssignsAt words hash s.size (key r ∷ stored_keys key s) b → m ≤ moves a b (stored_keys key s)

-- no two keys have the same words
abbrev pub ToldApart : {K : Type 0} → (K → Words) → Type 0
ToldApart {K} words = (k l : K) → words k ≡ words l → k ≡ l

-- u is what s becomes when a new record takes a route into it
pub record Enters {R K : Type 0} (key : R → K) (words : K → Words) (hash : Words → ℕ) (s : State R) (r : R) (first : ℕ) (rest : List ℕ) (u : State R) : Type 0 where
  pub fresh : StoredKey key s (key r) → ⊥
  pub route : Route (placement_in key words hash s) (hash (words (key r))) first rest
  pub size : u.size ≡ s.size
  pub count : u.count ≡ s.count + 1
  pub cells : u.cells ≡ handed (first ∷ rest) (Some r) s.cells

-- A sound table is sound afterwards,
abbrev pub AnInsertKeepsSound : Type 0 → Type 0 → Type 0
AnInsertKeepsSound R K =
    (key : R → K) (words : K → Words) (hash : Words → ℕ) (s : State R) (r : R) (first : ℕ) (rest : List ℕ) (u : State R) →
    Sound key words hash s → Enters key words hash s r first rest u → Sound key words hash u

-- the new key and all stored ones lie as an assignment gives them,
abbrev pub AnInsertIsAnAssignment : Type 0 → Type 0 → Type 0
AnInsertIsAnAssignment R K =
    (key : R → K) (words : K → Words) → ToldApart words → (hash : Words → ℕ) (s : State R) (r : R) (first : ℕ) (rest : List ℕ) (u : State R) →
    Sound key words hash s → Enters key words hash s r first rest u →
    (a : K → ℕ) × Lying key u a × AssignsAt words hash s.size (key r ∷ stored_keys key s) a

-- and as many stored keys lie in another bucket as the route has cells after the first.
abbrev pub ARouteCountsMoves : Type 0 → Type 0 → Type 0
ARouteCountsMoves R K =
    (key : R → K) (words : K → Words) (hash : Words → ℕ) (s : State R) (r : R) (first : ℕ) (rest : List ℕ) (u : State R) →
    Sound key words hash s → Enters key words hash s r first rest u →
    (a b : K → ℕ) → Lying key s a → Lying key u b → moves a b (stored_keys key s) ≡ length rest

-- The stored keys of a sound table are held as they lie.
abbrev pub ASoundTableIsHeld : Type 0 → Type 0 → Type 0
ASoundTableIsHeld R K =
    (key : R → K) (words : K → Words) → ToldApart words → (hash : Words → ℕ) (s : State R) → Sound key words hash s →
    (a : K → ℕ) × Lying key s a × AssignsAt words hash s.size (stored_keys key s) a

-- A sound table is sound after one of its records is taken out.
abbrev pub AnEraseKeepsSound : Type 0 → Type 0 → Type 0
AnEraseKeepsSound R K =
    (key : R → K) (words : K → Words) (hash : Words → ℕ) (s u : State R) (c : ℕ) (r : R) →
    Sound key words hash s → HoldsAt s c r → u.size ≡ s.size → u.count + 1 ≡ s.count → u.cells ≡ slice_set s.cells c None →
    Sound key words hash u
