use Rattle.std.proofs.Common.{subst}
use Rattle.records.specs.declared.numbers.Words.{Words}
use Rattle.rules.specs.Tables.{used_in}
use Rattle.lookup.specs.Finds.{Found}
use Rattle.table.proofs.Searched.{sought_found}
use Rattle.table.proofs.seeks.seek.Goals as goal

pub returns : goal.returns
returns g c =
    let z = c.args.size in
    let cells = g.S.Store.cells c.args.store.now in
    let hash = g.F.Family.hash_of c.args.family.now in
    let W : g.row.R.Denot → Words = λ y. g.R.Record.words_of (g.R.Record.key_of y) in
    let o = c.find_below.result in
    sought_found g.R.Record.key_of g.R.Record.words_of hash z cells c.args.key g.met.R.Record.apart o
    (subst (λ w. Found W cells hash z w (used_in z) o) c.words.ensures (subst (λ n. Found W cells hash z c.words.result n o) c.used.ensures c.find_below.ensures))
