use Rattle.placing.proofs.Vacancies.{Looking}
use Rattle.placing.proofs.looks.look.Given as goal

abbrev pub invariant-loop-slot : goal.invariant-loop-slot
invariant-loop-slot g l = Looking (g.P.Placing.placement l.p) l.bucket l.words l.slot l.gap.count l.gap.cell
