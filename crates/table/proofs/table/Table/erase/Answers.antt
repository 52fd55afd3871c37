use Rattle.std.specs.Result.{result_ok}
use Rattle.std.proofs.Common.{refl, ap, ◌∙◌}
use Rattle.table.specs.States.{state_of}
use Rattle.table.proofs.Founds.{erase_leaves}
use Rattle.table.proofs.table.Table.erase.Goals as goal

pub returns : goal.returns
returns g c =
    let p = c.put.ensures in
    let is = c.ok_or.ensures.ok_part ∙ ap result_ok c.in_ok-hit.was in
    let u = state_of g.S.Store.cells (record { size = c.args.self.now.size; count = c.saturating_sub-self.result; family = c.args.self.now.family; store = c.put.new.store }) in
    let l = erase_leaves g.R.Record.key_of g.R.Record.words_of (g.F.Family.hash_of c.args.self.now.family.now) (state_of g.S.Store.cells c.args.self.now) _ _ c.seek.ensures (g.S.Store.code c.args.self.now.store) _ _ c.in_ok-hit.hit is
    u refl c.saturating_sub-self.ensures p.cells p.others p.made in
    record {
      erased = l.0;
      sound = l.1;
      kept = l.2;
      size = refl;
      family = refl;
      lasting = p.lasting;
    }
