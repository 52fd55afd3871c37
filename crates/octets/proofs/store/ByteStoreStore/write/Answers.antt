use Rattle.std.specs.Prelude.{None}
use Rattle.std.proofs.Common.{◌≡◌, suc, length, get_or, sym, refl, ap, ◌∙◌}
use Rattle.stores.specs.Cells.{asked}
use Rattle.stores.specs.Makings.{of_bytes}
use Rattle.octets.specs.Codec.{cell_bytes, coded}
use Rattle.octets.proofs.Frames.{bytes_others, bytes_made}
use Rattle.octets.proofs.store.ByteStoreStore.write.Goals as goal

pub returns : goal.returns
returns g c =
    let bs = c.args.self.now.bytes.now in
    let at = c.args.at in
    let r = c.bytes_write.result in
    let w = c.bytes_write.ensures in
    let o = asked g.R.Record.made c.args.cell.now in
    let D = g.R.Coded.record_in in
    let E = g.R.Coded.bytes_of in
    let sized : (x : g.row.R.Denot) → length (E x) ≡ 32 = λ x. ap length (g.met.R.Coded.writes x) ∙ ap (λ n. suc (suc n)) (g.met.R.Coded.thirty (g.R.Record.numbers_of x)) in
    record {
      answer = w.answer;
      cells = w.cells;
      place = refl;
      others = λ k h. ap of_bytes (ap (λ zs. cell_bytes zs k) w.raw ∙ bytes_others E sized D o r bs at k w.answer h);
      made = λ e.
          ap of_bytes
          (ap (λ zs. cell_bytes zs at) w.raw
          ∙ bytes_made E sized D o r bs at w.answer e
          ∙ ap (λ xs. coded E (get_or xs at None)) (sym w.cells));
      codes = λ k v. refl;
    }
