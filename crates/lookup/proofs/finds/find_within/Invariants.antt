use Rattle.lookup.specs.Finds.{NoneIn, Match}
use Rattle.lookup.proofs.finds.find_within.Given as goal

abbrev pub invariant-loop-cell : goal.invariant-loop-cell
invariant-loop-cell g l = NoneIn (Match (λ x. g.R.Record.words_of (g.R.Record.key_of x)) (g.C.Row.cells l.cells) l.words l.limit) l.from l.cell
