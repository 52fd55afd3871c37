use Rattle.rules.specs.Tables.{choice_at}
use Rattle.lookup.specs.Finds.{NoMatch, Match}
use Rattle.lookup.proofs.finds.find_below.Given as goal

abbrev pub invariant-loop-i : goal.invariant-loop-i
invariant-loop-i g l = NoMatch (Match (λ x. g.R.Record.words_of (g.R.Record.key_of x)) (g.C.Row.cells l.cells) l.words l.limit) (choice_at (g.F.Family.hash_of l.family) l.size l.words) l.i l.size.settings.cells
