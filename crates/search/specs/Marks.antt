-- What the search has seen: `came` is 0 at a bucket that it has not, 1 at a start, else 2 more than the cell that leads there.
use Rattle.std.specs.Prelude.{◌≡◌, ℕ, zero, suc, ◌+◌, ◌<◌, ◌≤◌, false, ◌≢◌, List, [], ◌∷◌, slice_index}
use Rattle.search.specs.Nets.{Net, Root, Back}

-- 1 at zero, 0 elsewhere
abbrev pub zeroed : ℕ → ℕ
zeroed zero = 1
zeroed (suc k) = 0

-- how many of the first n entries are zero
abbrev pub zeros : ℕ → List ℕ → ℕ
zeros zero xs = 0
zeros (suc n) [] = 0
zeros (suc n) (x ∷ xs) = zeroed x + zeros n xs

-- how q came to be seen, at its depth
pub data Mark (n : Net) (start : ℕ → ℕ) (came : List ℕ) (depth : ℕ → ℕ) (q : ℕ) : Type 0 where
  begun : Root n start q → slice_index came q ≡ 1 → depth q ≡ 0 → Mark n start came depth q
  reached : (p : ℕ) → Back n came p q → slice_index came p ≢ 0 → depth q ≡ suc (depth p) → Mark n start came depth q

abbrev pub Marks : Net → (ℕ → ℕ) → List ℕ → (ℕ → ℕ) → Type 0
Marks n start came depth = (q : ℕ) → q < n.size → slice_index came q ≢ 0 → Mark n start came depth q

-- the first `tail` entries of the queue are the buckets that are seen, in the order of their depths; all of them are full
pub record Lined (n : Net) (came queue : List ℕ) (tail : ℕ) (depth : ℕ → ℕ) : Type 0 where
  pub filled : zeros n.size came + tail ≡ n.size
  pub buckets : (i : ℕ) → i < tail → slice_index queue i < n.size
  pub seen : (i : ℕ) → i < tail → slice_index came (slice_index queue i) ≢ 0
  pub shut : (i : ℕ) → i < tail → n.room (slice_index queue i) ≡ false
  pub kept : (q : ℕ) → q < n.size → slice_index came q ≢ 0 → (i : ℕ) × (i < tail) × (slice_index queue i ≡ q)
  pub rising : (i j : ℕ) → i ≤ j → j < tail → depth (slice_index queue i) ≤ depth (slice_index queue j)
  pub low : (i : ℕ) → i < tail → depth (slice_index queue i) ≤ i

-- the first m starts are seen, at depth 0
abbrev pub Started : (ℕ → ℕ) → List ℕ → (ℕ → ℕ) → ℕ → Type 0
Started start came depth m = (i : ℕ) → i < m → (slice_index came (start i) ≢ 0) × (depth (start i) ≡ 0)

-- the first m starts are marked and queued, and nothing else is
pub record Seeded (n : Net) (start : ℕ → ℕ) (came queue : List ℕ) (m tail : ℕ) : Type 0 where
  pub marks : Marks n start came (λ _. 0)
  pub lined : Lined n came queue tail (λ _. 0)
  pub started : Started start came (λ _. 0) m
