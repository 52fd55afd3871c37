use Rattle.std.proofs.Common.{rules, ◌≡◌, ap, ◌∙◌}
use Rattle.stores.specs.Cells.{after, asked, plain, write_of}
use Rattle.stores.proofs.Rows.{write_in}
use Rattle.table.proofs.Puts.{asked_again, made_of, taken}
use Rattle.table.proofs.cells.put.Goals as goal

pub returns : goal.returns
returns g c =
    let cs = g.S.Store.cells c.args.store.now in
    let n : c.map-numbers.result ≡ plain g.R.Record.numbers_of c.args.held = search rules in
    let a = ap (asked g.R.Record.made) n ∙ asked_again g.R.Record.made g.R.Record.numbers_of g.met.R.Record.again c.args.held in
    let e = c.write.ensures.cells ∙ ap (λ o. after {R = g.row.R.Denot} o cs c.args.cell) a in
    record {
      cells = e;
      others = λ k ne. c.write.ensures.others k (λ z. absurd (ne z));
      made = λ l.
          let t = taken _ (c.write.ensures.answer ∙ ap (λ o. write_of {R = g.row.R.Denot} o cs c.args.cell) a ∙ write_in c.args.held cs c.args.cell l) in
          made_of (g.S.Store.code c.args.store.now) _ cs (g.S.Store.cells c.write.new.self) c.args.cell c.args.held (c.write.ensures.made t) e l;
      lasting = record { place = c.write.ensures.place; code = λ i k v. c.write.ensures.codes k v i };
    }
