use Rattle.rules.specs.Written.{Wrote}
use Rattle.placing.specs.Held.{OnlyCells}
use Rattle.settle.proofs.Walks.{Walking, far}
use Rattle.settle.proofs.rooms.walk.Given as goal

abbrev pub invariant-loop-bucket : goal.invariant-loop-bucket
invariant-loop-bucket g l =
    OnlyCells g.P.Placing.placement g.P.Placing.place g.P.Placing.code l.initial.p l.p
    × Walking (g.P.Placing.placement l.initial.p) l.came l.initial.bucket l.bucket l.cell l.moves (g.P.Placing.placement l.p).held (Wrote (g.P.Placing.code l.initial.p) (g.P.Placing.raw l.initial.p) (g.P.Placing.raw l.p) (g.P.Placing.placement l.p).held)

abbrev pub decreases-loop-bucket : goal.decreases-loop-bucket
decreases-loop-bucket g l = far (g.P.Placing.placement l.initial.p) l.came l.bucket
