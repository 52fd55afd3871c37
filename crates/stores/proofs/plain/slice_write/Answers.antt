use Rattle.std.proofs.Common.{◌≡◌, ◌<◌, ◌≤◌, length, set, Ok, sym, refl, ap, ◌∙◌, arith, rules}
use Rattle.std.proofs.lemmas.List.{set_past}
use Rattle.stores.specs.Cells.{after, asked, or_empty, row, write_of}
use Rattle.stores.proofs.Rows.{row_length, row_set, write_in, write_out}
use Rattle.stores.proofs.plain.slice_write.Goals as goal

pub returns-then-at-slice_length : goal.returns-then-at-slice_length
returns-then-at-slice_length g c =
    let f = g.R.Record.made in
    let xs = row f c.args.cells.now in
    let v = c.in_ok-asked_cell.field-0 in
    let o : asked f c.args.cell.now ≡ Ok v = sym c.asked_cell.ensures ∙ c.in_ok-asked_cell.was in
    let e = row_length f c.args.cells.now in
    let h : length xs ≤ c.args.at = omega arith in
    record {
      answer = sym (ap (λ o. write_of o xs c.args.at) o ∙ write_out v xs c.args.at h);
      cells = sym (ap (λ o. after o xs c.args.at) o ∙ set_past xs c.args.at v h);
      raw = refl;
    }

pub offset_bounds-cells-at : goal.offset_bounds-cells-at
offset_bounds-cells-at g c = let h : c.args.at < length c.args.cells.now = omega arith in search rules

pub returns : goal.returns
returns g c =
    let f = g.R.Record.made in
    let xs = row f c.args.cells.now in
    let v = c.in_ok-asked_cell.field-0 in
    let o : asked f c.args.cell.now ≡ Ok v = sym c.asked_cell.ensures ∙ c.in_ok-asked_cell.was in
    let e = row_length f c.args.cells.now in
    let h : c.args.at < length xs = omega arith in
    record {
      answer = sym (ap (λ o. write_of o xs c.args.at) o ∙ write_in v xs c.args.at h);
      cells =
          row_set f c.args.cells.now c.args.at c.args.cell.now
          ∙ ap (λ o. set xs c.args.at (or_empty o)) o
          ∙ sym (ap (λ o. after o xs c.args.at) o);
      raw = refl;
    }
