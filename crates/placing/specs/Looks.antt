-- What is seen in one bucket.
use Rattle.std.specs.Prelude.{◌≡◌, ℕ, ◌+◌, ◌*◌, ◌<◌, Some, None, Option, slice_index_or}
use Rattle.records.specs.declared.numbers.Words.{Words}
use Rattle.rules.specs.Placements.{Placement, LowestEmpty, vacant}
use Rattle.placing.specs.declared.looks.Gap.{Gap}

module _ {R : Type 0} (f : Placement R) where
  -- the record in cell c has the key words w
  abbrev pub HasWords : ℕ → Words → Type 0
  HasWords c w = (r : R) × (slice_index_or f.held c None ≡ Some r) × (f.words r ≡ w)

  -- no record in bucket p has them
  abbrev pub NotIn : ℕ → Words → Type 0
  NotIn p w = (s : ℕ) → s < f.cells → HasWords (p * f.cells + s) w → ⊥

  -- how many cells of bucket p are empty, and the lowest of them
  pub record Gapped (p : ℕ) (g : Gap) : Type 0 where
    pub count : g.count ≡ vacant f p
    pub lowest : 0 < g.count → LowestEmpty f p g.cell

  -- what a look for a key at bucket p answers: nothing where the key lies there
  pub record Looked (p : ℕ) (w : Words) (answer : Option Gap) : Type 0 where
    pub there : answer ≡ None → (s : ℕ) × (s < f.cells) × HasWords (p * f.cells + s) w
    pub gapped : (g : Gap) → answer ≡ Some g → Gapped p g
    pub absent : (g : Gap) → answer ≡ Some g → NotIn p w

  -- what a look for room answers: the lowest empty cell of bucket p, if it has one
  pub record Roomy (p : ℕ) (answer : Option ℕ) : Type 0 where
    pub full : answer ≡ None → vacant f p ≡ 0
    pub room : (c : ℕ) → answer ≡ Some c → LowestEmpty f p c
    pub some : (c : ℕ) → answer ≡ Some c → 0 < vacant f p
    pub below : (c : ℕ) → answer ≡ Some c → c < f.size * f.cells

  -- the own buckets of a hash word are full
  abbrev pub OwnFull : ℕ → Type 0
  OwnFull v = (i : ℕ) → i < f.choices → vacant f (f.lies v i) ≡ 0
