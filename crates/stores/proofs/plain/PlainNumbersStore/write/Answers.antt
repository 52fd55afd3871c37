use Rattle.std.specs.Prelude.{None}
use Rattle.std.proofs.Common.{get_or, sym, refl, ap, ◌∙◌}
use Rattle.stores.specs.Cells.{plain}
use Rattle.stores.specs.Makings.{of_cell}
use Rattle.stores.proofs.Rows.{slice_others, slice_made}
use Rattle.stores.proofs.plain.PlainNumbersStore.write.Goals as goal

pub returns : goal.returns
returns g c =
    let cs = c.args.self.now.cells.now in
    let at = c.args.at in
    let r = c.slice_write.result in
    let w = c.slice_write.ensures in
    record {
      answer = w.answer;
      cells = w.cells;
      place = refl;
      others = λ k h. ap of_cell (ap (λ cs. get_or cs k None) w.raw ∙ slice_others r cs at c.args.cell.now k h);
      made = λ e.
          ap of_cell
          (ap (λ cs. get_or cs at None) w.raw
          ∙ slice_made g.R.Record.made g.R.Record.numbers_of g.met.R.Record.alone r cs at c.args.cell.now w.answer e
          ∙ ap (λ xs. plain g.R.Record.numbers_of (get_or xs at None)) (sym w.cells));
      codes = λ k v. refl;
    }
