-- A placement with other cells, and where a cell leads by what lies in it.
use Rattle.std.specs.Prelude.{◌≡◌, ℕ, List, Some, None, Option}
use Rattle.stores.specs.Makings.{Place, Raw}
use Rattle.rules.specs.Placements.{Placement}

-- the placement with other cells
abbrev pub with_held : {R : Type 0} → Placement R → List (Option R) → Placement R
with_held f cs = record {
  size = f.size;
  cells = f.cells;
  choices = f.choices;
  held = cs;
  words = f.words;
  hash = f.hash;
  lies = f.lies;
}

-- nothing has changed but what lies in the cells, and what these are made of
pub record OnlyCells {P R N : Type 0} (placed : P → Placement R) (at : P → Place R) (coded : P → ℕ → Option R → Raw N) (old new : P) : Type 0 where
  pub placement : placed new ≡ with_held (placed old) (placed new).held
  pub place : at new ≡ at old
  pub code : coded new ≡ coded old

-- where a cell leads by a choice: its own bucket p if nothing lies in it
abbrev pub led : {R : Type 0} → (R → ℕ) → ℕ → Option R → ℕ
led g p None = p
led g p (Some r) = g r

-- the same, by the hash word of what lies there
abbrev pub led_by : (ℕ → ℕ) → ℕ → Option ℕ → ℕ
led_by g p None = p
led_by g p (Some v) = g v
