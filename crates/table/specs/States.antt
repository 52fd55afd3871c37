-- The state that a table in memory stands for, and what no call on its store changes.
use Rattle.std.specs.Prelude.{◌≡◌, ℕ, List, Option}
use Rattle.stores.specs.Makings.{Place, Raw}
use Rattle.rules.specs.Tables.{State}
use Rattle.table.specs.declared.table.Table.{Table}

abbrev pub state_of : {R F S : Type 0} → (S → List (Option R)) → Table F S → State R
state_of cells t = record { size = t.size; count = t.count; cells = cells t.store }

-- a store's place, and what a write makes of each cell, are as they were
pub record Lasting {S R N : Type 0} (at : S → Place R) (coded : S → ℕ → Option R → Raw N) (old new : S) : Type 0 where
  pub place : at new ≡ at old
  pub code : coded new ≡ coded old
