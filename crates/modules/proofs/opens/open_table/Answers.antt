use Rattle.std.proofs.Common.{sym, subst}
use Rattle.modules.specs.Opens.{SecondOpens}
use Rattle.modules.proofs.Opening.{second_opens}
use Rattle.modules.proofs.opens.open_table.Goals as goal

pub returns : goal.returns
returns g c =
    let hash = g.F.Family.hash_of c.args.family.now in
    let family = g.F.Family.number_of c.args.family.now in
    subst (λ o. SecondOpens g.R.Coded.record_in g.R.Coded.kind family g.R.Record.key_of g.R.Record.words_of hash c.args.bytes.now o) (sym c.unwrap_or.ensures)
    (second_opens g.R.Coded.record_in g.R.Coded.kind family g.R.Record.key_of g.R.Record.words_of hash c.args.bytes.now c.open.result c.nothing.result c.open.ensures c.nothing.ensures)
