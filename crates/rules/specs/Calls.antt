-- What make, find, erase and insert may answer, and what they leave.
use Rattle.std.specs.Prelude.{◌≡◌, ℕ, ◌+◌, ◌*◌, ◌^◌, ◌<◌, ◌≤◌, ◌⊎◌, List, [], ◌∷◌, length, Some, None, Ok, Err, Option, Result, ◌≢◌, slice_index, slice_index_or, slice_set}
use Rattle.records.specs.declared.declines.Decline.{Decline}
use Rattle.records.specs.declared.numbers.Words.{Words}
use Rattle.records.specs.Declines.{number}
use Rattle.addresses.specs.declared.sizes.Size.{Size}
use Rattle.addresses.specs.Ranges.{InRange}
use Rattle.addresses.specs.Sized.{buckets_in}
use Rattle.assignment.specs.Assign.{In, moves}
use Rattle.rules.specs.Placements.{Direct, Displaced, handed}
use Rattle.rules.specs.Rows.{Row, First}
use Rattle.rules.specs.Stored.{AssignsAt, HeldAt, Lying, Stored, StoredKey, placement_in, stored_keys}
use Rattle.rules.specs.Tables.{State, HoldsAt, used_in}

-- the number of an answer: 0 where the call is taken
abbrev pub decline_of : {X : Type 0} → Result X Decline → ℕ
decline_of (Ok x) = 0
decline_of (Err d) = number d

-- An answer by rows of declines: declined by the first reason that holds, and then Left says what is left; taken where none holds,
-- and then Taken says what it gives.
pub record Answered {X : Type 0} (rows : List Row) (Left : Type 0) (Taken : X → Type 0) (answer : Result X Decline) : Type 0 where
  pub first : First rows (decline_of answer)
  pub declined : (d : Decline) → answer ≡ Err d → Left
  pub taken : (x : X) → answer ≡ Ok x → Taken x

-- a working space afterwards: as it was after decline 5, else 0 throughout
pub record Space {X : Type 0} (answer : Result X Decline) (before after : List ℕ) : Type 0 where
  pub left : decline_of answer ≡ 5 → after ≡ before
  pub zero : (decline_of answer ≢ 5) → (i : ℕ) → i < length after → slice_index after i ≡ 0

-- MAKE

-- a setting outside its range, then too few cells for the starting size
abbrev pub make_rows : {R : Type 0} → ℕ → ℕ → ℕ → ℕ → ℕ → List (Option R) → List Row
make_rows t b h x d cells = (1, (InRange t b h x d → ⊥)) ∷ (2, length cells < 2 ^ t * 2 ^ x * b) ∷ []

-- the cells from one number to before another are emptied, and no others change
pub record Emptied {R : Type 0} (from to : ℕ) (cells after : List (Option R)) : Type 0 where
  pub reach : length after ≡ length cells
  pub inside : (c : ℕ) → from ≤ c → c < to → slice_index_or after c None ≡ None
  pub below : (c : ℕ) → c < from → slice_index_or after c None ≡ slice_index_or cells c None
  pub past : (c : ℕ) → to ≤ c → slice_index_or after c None ≡ slice_index_or cells c None

-- the starting size with these settings, and its used cells emptied
pub record Made {R : Type 0} (t b h x d : ℕ) (cells after : List (Option R)) (Wrote : (ℕ → Type 0) → Type 0) (z : Size) : Type 0 where
  pub subtables : z.settings.t ≡ t
  pub bucket : z.settings.cells ≡ b
  pub choices : z.settings.choices ≡ h
  pub start : z.settings.start ≡ x
  pub load : z.settings.load ≡ d
  pub floor : z.x ≡ x
  pub none_grown : z.j ≡ 0
  pub emptied : Emptied 0 (used_in z) cells after
  pub wrote : Wrote (λ c. c < used_in z)

-- FIND, ERASE AND INSERT, on a sound table s that is u afterwards. `Wrote W` is to say that W are the cells that were written.
module _ {R K : Type 0} (key : R → K) where
  -- the stored record with the key, or nothing exactly where no stored key equals it
  pub record Finds (s : State R) (k : K) (answer : Option R) : Type 0 where
    pub found : (r : R) → answer ≡ Some r → Stored s r × (key r ≡ k)
    pub nothing : answer ≡ None → StoredKey key s k → ⊥

  abbrev pub erase_rows : State R → K → List Row
  erase_rows s k = (7, (StoredKey key s k → ⊥)) ∷ []

  -- the record's cell is emptied, and there is one record less
  pub record Erased (s : State R) (k : K) (u : State R) (Wrote : (ℕ → Type 0) → Type 0) (r : R) : Type 0 where
    pub cell : ℕ
    pub holds : HoldsAt s cell r
    pub same : key r ≡ k
    pub size : u.size ≡ s.size
    pub count : u.count + 1 ≡ s.count
    pub cells : u.cells ≡ slice_set s.cells cell None
    pub wrote : Wrote (λ c. c ≡ cell)

  -- what erase answers and leaves
  abbrev pub Erases : State R → K → State R → ((ℕ → Type 0) → Type 0) → Result R Decline → Type 0
  Erases s k u Wrote = Answered (erase_rows s k) ((u ≡ s) × Wrote (λ c. ⊥)) (Erased s k u Wrote)

  module _ (words : K → Words) (hash : Words → ℕ) where
    -- a working space is too short; the key is stored; no assignment holds it and all stored keys
    abbrev pub insert_rows : State R → R → ℕ → ℕ → List Row
    insert_rows s r v w =
        (5, ((v < buckets_in s.size) ⊎ (w < buckets_in s.size)))
        ∷ (6, StoredKey key s (key r))
        ∷ (8, (HeldAt words hash s.size (key r ∷ stored_keys key s) → ⊥))
        ∷ []

    -- The record takes the first cell, and each record that was displaced goes to the next one. The count of moves is the number
    -- of stored keys that lie in another bucket than before. The keys lie as an assignment gives them, and no assignment changes fewer.
    pub record Inserted (s : State R) (r : R) (u : State R) (Wrote : (ℕ → Type 0) → Type 0) (m : ℕ) : Type 0 where
      pub first : ℕ
      pub rest : List ℕ
      pub way : Direct (placement_in key words hash s) (hash (words (key r))) first rest ⊎ Displaced (placement_in key words hash s) (hash (words (key r))) first rest
      pub size : u.size ≡ s.size
      pub count : u.count ≡ s.count + 1
      pub cells : u.cells ≡ handed (first ∷ rest) (Some r) s.cells
      pub wrote : Wrote (λ c. In c (first ∷ rest))
      pub long : length rest ≡ m
      pub assigned : (b : K → ℕ) × Lying key u b × AssignsAt words hash s.size (key r ∷ stored_keys key s) b
      pub changed : (a b : K → ℕ) → Lying key s a → Lying key u b → moves a b (stored_keys key s) ≡ m
      pub fewest : (a b : K → ℕ) → Lying key s a → AssignsAt words hash s.size (key r ∷ stored_keys key s) b → m ≤ moves a b (stored_keys key s)

    -- what insert answers and leaves, given working spaces of these lengths
    abbrev pub Inserts : State R → R → ℕ → ℕ → State R → ((ℕ → Type 0) → Type 0) → Result ℕ Decline → Type 0
    Inserts s r v w u Wrote = Answered (insert_rows s r v w) ((u ≡ s) × Wrote (λ c. ⊥)) (Inserted s r u Wrote)
