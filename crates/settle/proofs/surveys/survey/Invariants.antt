use Rattle.std.proofs.Common.{ℕ, ◌<◌}
use Rattle.placing.specs.Looks.{NotIn}
use Rattle.settle.specs.Surveys.{Best}
use Rattle.settle.proofs.surveys.survey.Given as goal

abbrev pub invariant-loop-choice : goal.invariant-loop-choice
invariant-loop-choice g l =
    Best (g.P.Placing.placement l.p) l.word l.choice l.best
    × ((i : ℕ) → i < l.choice → NotIn (g.P.Placing.placement l.p) ((g.P.Placing.placement l.p).lies l.word i) l.words)
