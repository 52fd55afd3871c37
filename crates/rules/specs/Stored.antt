-- The records, pairs and keys of a table, and which buckets its keys lie in.
use Rattle.std.specs.Prelude.{◌≡◌, ℕ, zero, suc, ◌/◌, List, [], ◌∷◌, map, slice_index_or, Some, None, Option}
use Rattle.records.specs.declared.numbers.Words.{Words}
use Rattle.addresses.specs.declared.sizes.Size.{Size}
use Rattle.assignment.specs.Assign.{Assigns, Held}
use Rattle.rules.specs.Placements.{Placement, placement_of}
use Rattle.rules.specs.Tables.{State, HoldsAt, own_buckets, used_in}

-- a cell's number with its record, before others, if it holds one
abbrev pub joined : {R : Type 0} → ℕ → Option R → List (ℕ × R) → List (ℕ × R)
joined n None rest = rest
joined n (Some r) rest = (n, r) ∷ rest

-- the records in the cells below n, each with the number of its cell
abbrev pub located : {R : Type 0} → List (Option R) → ℕ → List (ℕ × R)
located cs zero = []
located cs (suc n) = joined n (slice_index_or cs n None) (located cs n)

-- the keys of the records in the cells below n
abbrev pub keys_below : {R K : Type 0} → (R → K) → List (Option R) → ℕ → List K
keys_below {R} key cs n = map (λ (p : ℕ × R). key p.1) (located cs n)

-- a record is stored: it lies in a used cell
abbrev pub Stored : {R : Type 0} → State R → R → Type 0
Stored s r = (c : ℕ) × HoldsAt s c r

module _ {R K : Type 0} (key : R → K) where
  -- a key is stored
  abbrev pub StoredKey : State R → K → Type 0
  StoredKey s k = (r : R) × Stored s r × (key r ≡ k)

  -- the stored keys
  abbrev pub stored_keys : State R → List K
  stored_keys s = keys_below key s.cells (used_in s.size)

  -- a gives each stored key the bucket in which it lies
  abbrev pub Lying : State R → (K → ℕ) → Type 0
  Lying s a = (c : ℕ) (r : R) → HoldsAt s c r → a (key r) ≡ c / s.size.settings.cells

module _ {K : Type 0} (words : K → Words) (hash : Words → ℕ) where
  -- a is an assignment of these keys at a size: each gets one of its own buckets, and no bucket more than B
  abbrev pub AssignsAt : Size → List K → (K → ℕ) → Type 0
  AssignsAt z ks a = Assigns (λ k. own_buckets hash z (words k)) (λ _. z.settings.cells) ks a

  -- there is one
  abbrev pub HeldAt : Size → List K → Type 0
  HeldAt z ks = Held (λ k. own_buckets hash z (words k)) (λ _. z.settings.cells) ks

-- a table as placing a record sees it
abbrev pub placement_in : {R K : Type 0} → (R → K) → (K → Words) → (Words → ℕ) → State R → Placement R
placement_in key words hash s = placement_of (λ r. words (key r)) hash s.size s.cells
