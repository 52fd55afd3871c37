-- What is seen in the own buckets of a key.
use Rattle.std.specs.Prelude.{◌≡◌, ℕ, ◌*◌, ◌/◌, ◌<◌, ◌≤◌, Some, None, Option}
use Rattle.records.specs.declared.numbers.Words.{Words}
use Rattle.rules.specs.Placements.{Placement, LowestEmpty, Own, vacant}
use Rattle.placing.specs.declared.looks.Gap.{Gap}
use Rattle.placing.specs.Looks.{HasWords}

module _ {R : Type 0} (f : Placement R) where
  -- the key with the words w lies in cell c, in an own bucket
  pub record FoundAt (w : Words) (c : ℕ) : Type 0 where
    pub own : Own f (f.hash w) (c / f.cells)
    pub has : HasWords f c w
    pub below : c < f.size * f.cells

  -- it lies in none of its own buckets
  abbrev pub Absent : Words → Type 0
  Absent w = (c : ℕ) → Own f (f.hash w) (c / f.cells) → HasWords f c w → ⊥

  -- of the first n own buckets of a hash word, the gap is that of the earliest with most empty cells
  pub record Chosen (v n : ℕ) (g : Gap) : Type 0 where
    pub choice : ℕ
    pub below : choice < n
    pub count : g.count ≡ vacant f (f.lies v choice)
    pub earliest : (i : ℕ) → i < choice → vacant f (f.lies v i) < g.count
    pub lowest : LowestEmpty f (f.lies v choice) g.cell

  pub record Best (v n : ℕ) (g : Gap) : Type 0 where
    pub most : (i : ℕ) → i < n → vacant f (f.lies v i) ≤ g.count
    pub chosen : 0 < g.count → Chosen v n g

  -- what a survey of the own buckets of a key answers: nothing where the key is there
  pub record Surveyed (w : Words) (answer : Option Gap) : Type 0 where
    pub there : answer ≡ None → (c : ℕ) × FoundAt w c
    pub best : (g : Gap) → answer ≡ Some g → Best (f.hash w) f.choices g
    pub absent : (g : Gap) → answer ≡ Some g → Absent w
