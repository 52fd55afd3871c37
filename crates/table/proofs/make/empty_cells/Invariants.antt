use Rattle.std.proofs.Common.{◌<◌, ◌≤◌}
use Rattle.rules.specs.Calls.{Emptied}
use Rattle.rules.specs.Written.{Wrote}
use Rattle.table.specs.States.{Lasting}
use Rattle.table.proofs.make.empty_cells.Given as goal

abbrev pub invariant-loop-cell : goal.invariant-loop-cell
invariant-loop-cell g l =
    Emptied l.from l.cell (g.S.Store.cells l.initial.store) (g.S.Store.cells l.store)
    × Wrote (g.S.Store.code l.initial.store) (g.S.Store.raw l.initial.store) (g.S.Store.raw l.store) (g.S.Store.cells l.store) (λ c. (l.from ≤ c) × (c < l.cell))
    × Lasting g.S.Store.place g.S.Store.code l.initial.store l.store
