use Rattle.search.specs.Marks.{Seeded}
use Rattle.search.specs.Nets.{net_of}
use Rattle.search.proofs.search.seed.Given as goal

abbrev pub invariant-loop-choice : goal.invariant-loop-choice
invariant-loop-choice g l =
    Seeded (net_of (g.P.Placing.placement l.p)) ((g.P.Placing.placement l.p).lies l.word) l.came l.queue l.choice l.tail
