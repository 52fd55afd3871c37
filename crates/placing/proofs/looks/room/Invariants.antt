use Rattle.std.specs.Prelude.{None}
use Rattle.std.proofs.Common.{◌≡◌, ℕ, ◌+◌, ◌*◌, ◌<◌, get_or}
use Rattle.placing.proofs.looks.room.Given as goal

abbrev pub invariant-loop-slot : goal.invariant-loop-slot
invariant-loop-slot g l =
    (s : ℕ) → s < l.slot → get_or (g.P.Placing.placement l.p).held (l.bucket * (g.P.Placing.placement l.p).cells + s) None ≡ None → ⊥
