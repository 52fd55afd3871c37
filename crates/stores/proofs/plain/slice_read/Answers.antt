use Rattle.std.proofs.Common.{◌^◌, ◌<◌, ◌≤◌, min, length, sym, arith}
use Rattle.stores.specs.Cells.{row}
use Rattle.stores.proofs.Rows.{row_length, row_get, read_in, read_out}
use Rattle.stores.proofs.plain.slice_read.Goals as goal

pub returns-then-at-slice_length : goal.returns-then-at-slice_length
returns-then-at-slice_length g c =
    let e = row_length g.R.Record.made c.args.cells.now in
    let h : length (row g.R.Record.made c.args.cells.now) ≤ c.args.at = omega arith in
    sym (read_out _ c.args.at h)

pub returns : goal.returns
returns g c =
    let f = g.R.Record.made in
    let e = row_length f c.args.cells.now in
    let h : c.args.at < length (row f c.args.cells.now) = omega arith in
    let k : c.args.at < min (2 ^ 40) (length c.args.cells.now) = omega arith in
    let got = row_get f c.args.cells.now c.args.at c.index-cells-at.result k in
    let there = read_in (row f c.args.cells.now) c.args.at h in
    cc (c.meant_cell.ensures, c.index-cells-at.is)
