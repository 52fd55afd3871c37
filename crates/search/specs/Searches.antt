-- What the search answers: the nearest bucket with room, or a closed set of full ones.
use Rattle.std.specs.Prelude.{◌≡◌, ℕ, suc, ◌*◌, ◌<◌, Bool, true, false, ◌≢◌, List, Some, None, Option, slice_index}
use Rattle.rules.specs.Placements.{Placement, LowestEmpty}
use Rattle.search.specs.declared.found.Found.{Found}
use Rattle.search.specs.Nets.{Net, Root, Trail, net_of}

-- nothing is found: what is seen has the starts, is closed under the edges, and has no room
pub record Closed (n : Net) (start : ℕ → ℕ) (came : List ℕ) : Type 0 where
  pub starts : (i : ℕ) → i < n.choices → slice_index came (start i) ≢ 0
  pub next : (p s i : ℕ) → p < n.size → slice_index came p ≢ 0 → s < n.cells → i < n.choices → slice_index came (n.next p s i) ≢ 0
  pub shut : (p : ℕ) → p < n.size → slice_index came p ≢ 0 → n.room p ≡ false

-- the buckets within d edges of the starts, for each d below m: all of them are full
pub record Layered (n : Net) (start : ℕ → ℕ) (m : ℕ) : Type 0 where
  pub set : ℕ → ℕ → Bool
  pub starts : (i : ℕ) → i < n.choices → set 0 (start i) ≡ true
  pub grows : (d p : ℕ) → suc d < m → set d p ≡ true → set (suc d) p ≡ true
  pub next : (d : ℕ) → suc d < m → (p s i : ℕ) → s < n.cells → i < n.choices → set d p ≡ true → set (suc d) (n.next p s i) ≡ true
  pub full : (d : ℕ) → d < m → (p : ℕ) → set d p ≡ true → (p < n.size) × (n.room p ≡ false)

-- q is found: it is no start, `came` leads from it back to one, and all buckets that are nearer to the starts are full
pub record Nearest (n : Net) (start : ℕ → ℕ) (came : List ℕ) (q : ℕ) : Type 0 where
  pub inside : q < n.size
  pub steps : ℕ
  pub short : steps < n.size
  pub trail : Trail n came steps q
  pub ones : (p : ℕ) → p < n.size → slice_index came p ≡ 1 → Root n start p
  pub layered : Layered n start steps

-- what the search for room for a key with hash word v answers, and leaves in `came`
pub record Searched {R : Type 0} (f : Placement R) (v : ℕ) (came : List ℕ) (answer : Option Found) : Type 0 where
  pub closed : answer ≡ None → Closed (net_of f) (f.lies v) came
  pub nearest : (q : Found) → answer ≡ Some q → Nearest (net_of f) (f.lies v) came q.bucket
  pub free : (q : Found) → answer ≡ Some q → LowestEmpty f q.bucket q.cell
  pub below : (q : Found) → answer ≡ Some q → q.cell < f.size * f.cells
