use Rattle.table.proofs.Founds.{finds_some}
use Rattle.table.proofs.table.Table.find.Goals as goal

pub returns : goal.returns
returns g c = λ sound. finds_some _ _ _ _ _ _ c.seek.ensures c.in_ok-hit.hit c.in_ok-hit.was
