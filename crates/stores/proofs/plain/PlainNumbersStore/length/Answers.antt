use Rattle.std.proofs.Common.{sym, ◌∙◌, arith}
use Rattle.stores.proofs.Rows.{row_length}
use Rattle.stores.proofs.plain.PlainNumbersStore.length.Goals as goal

pub returns : goal.returns
returns g c =
    let e = row_length g.R.Record.made c.args.self.now.cells.now in
    record { value = c.slice_length.ensures ∙ sym e; bound = omega (arith, c.slice_length.ensures) }
