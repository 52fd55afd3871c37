-- The first cell that meets a test, by choice and then by cell.
use Rattle.std.specs.Prelude.{◌≡◌, ℕ, ◌+◌, ◌*◌, ◌<◌, ◌≤◌, List, slice_index_or, Some, None, Option}
use Rattle.records.specs.declared.numbers.Words.{Words}
use Rattle.addresses.specs.declared.sizes.Size.{Size}
use Rattle.rules.specs.Tables.{choice_at}
use Rattle.lookup.specs.declared.hit.Hit.{Hit}

-- cell c holds the record x, whose key has the words w
pub record Meets {R : Type 0} (words : R → Words) (cells : List (Option R)) (w : Words) (c : ℕ) (x : R) : Type 0 where
  pub here : slice_index_or cells c None ≡ Some x
  pub same : words x ≡ w

-- cell c is below a limit and holds such a record
abbrev pub Match : {R : Type 0} → (R → Words) → List (Option R) → Words → ℕ → ℕ → Type 0
Match {R} words cells w limit c = (c < limit) × ((x : R) × Meets words cells w c x)

-- no cell from a place on, before an end
abbrev pub NoneIn : (ℕ → Type 0) → ℕ → ℕ → Type 0
NoneIn M from end = (k : ℕ) → from ≤ k → k < end → M k → ⊥

-- the first cell from a place on, before an end
pub record FirstIn (M : ℕ → Type 0) (from end c : ℕ) : Type 0 where
  pub low : from ≤ c
  pub high : c < end
  pub here : M c
  pub before : NoneIn M from c

-- no cell in the buckets of the choices 0 to H - 1, where choice i lies at pos i
abbrev pub NoMatch : (ℕ → Type 0) → (ℕ → ℕ) → ℕ → ℕ → Type 0
NoMatch M pos H B = (i : ℕ) → i < H → NoneIn M (pos i * B) (pos i * B + B)

-- the first cell, by choice and then by cell
pub record FirstMatch (M : ℕ → Type 0) (pos : ℕ → ℕ) (H B c : ℕ) : Type 0 where
  pub choice : ℕ
  pub below : choice < H
  pub first : FirstIn M (pos choice * B) (pos choice * B + B) c
  pub others : NoMatch M pos choice B

-- what looking for the words w answers, in cells below a limit: the first match in the buckets of their choices, or none
abbrev pub Found : {R : Type 0} → (R → Words) → List (Option R) → (Words → ℕ) → Size → Words → ℕ → Option (Hit R) → Type 0
Found words cells hash z w limit None = NoMatch (Match words cells w limit) (choice_at hash z w) z.settings.choices z.settings.cells
Found words cells hash z w limit (Some h) =
    FirstMatch (Match words cells w limit) (choice_at hash z w) z.settings.choices z.settings.cells h.cell × Meets words cells w h.cell h.held

-- the same, of which only the cell is wanted
abbrev pub FoundCell : {R : Type 0} → (R → Words) → List (Option R) → (Words → ℕ) → Size → Words → ℕ → Option ℕ → Type 0
FoundCell words cells hash z w limit None = NoMatch (Match words cells w limit) (choice_at hash z w) z.settings.choices z.settings.cells
FoundCell words cells hash z w limit (Some c) = FirstMatch (Match words cells w limit) (choice_at hash z w) z.settings.choices z.settings.cells c

-- the same, of which only the record is wanted
abbrev pub FoundRecord : {R : Type 0} → (R → Words) → List (Option R) → (Words → ℕ) → Size → Words → ℕ → Option R → Type 0
FoundRecord words cells hash z w limit None = NoMatch (Match words cells w limit) (choice_at hash z w) z.settings.choices z.settings.cells
FoundRecord words cells hash z w limit (Some x) =
    (c : ℕ) × FirstMatch (Match words cells w limit) (choice_at hash z w) z.settings.choices z.settings.cells c × Meets words cells w c x
