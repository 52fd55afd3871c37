use Rattle.std.proofs.Common.{◌≡◌, ℕ, ◌*◌, ◌^◌, ◌≤◌, length, sym, ap, ◌∙◌, subst, arith, pow_mono}
use Rattle.trailers.specs.Trailers.{Lawful, LawfulTrailer, Numbers, Placed, numbers_in}
use Rattle.trailers.specs.Closing.{closing, closed_bytes}
use Rattle.trailers.specs.Layouts.{numbers_of}
use Rattle.trailers.proofs.Ends.{closed_lawful}
use Rattle.trailers.proofs.closing.close.Goals as goal

pub returns : goal.returns
returns c =
    let bs = c.args.bytes.now in
    let n = c.args.table in
    let m = closing n in
    let z = n.size in
    let at : ℕ → Numbers = λ d. numbers_of (record { kind = n.kind; family = n.family; size = z; distance = d; count = n.count }) in
    let d : c.in-Ok.distance ≡ 32 * n.cells = omega arith in
    let l : Lawful (length bs) m = record {
      size = record { range = (z.settings.few_subtables, z.settings.some_cells, z.settings.few_cells, z.settings.two_choices, z.settings.few_choices, z.settings.small_start, z.settings.load_below); floor = z.floor; below = z.below; room = z.room };
      placed = subst (λ d. Placed (length bs) (at d)) d c.if-not-fits.ensures;
    } in
    let e = c.write_trailer.ensures ∙ ap (λ d. closed_bytes bs (at d)) d in
    let few : 2 ^ z.settings.t ≤ 2 ^ 6 = pow_mono z.settings.few_subtables in
    let below = z.below in
    let k = closed_lawful bs m (omega arith) (omega arith) (omega arith) l in
    let both = subst (λ cs. LawfulTrailer cs × (numbers_in cs ≡ m)) (sym e) k in
    record {
      answer = (l, tt);
      bytes = (e, both.0, both.1);
    }
