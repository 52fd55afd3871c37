use Rattle.std.proofs.Common.{◌≡◌, ◌+◌, ◌-◌, ◌≤◌, ◌++◌, length, take, drop, ap, ◌∙◌, arith}
use Rattle.std.proofs.lemmas.List.{drop-drop}
use Rattle.stores.specs.Cells.{asked, write_of}
use Rattle.octets.specs.Codec.{byte_row, bytes_after}
use Rattle.modules.specs.Parts.{part_of}
use Rattle.modules.proofs.Opening.{part_is}
use Rattle.modules.proofs.parts.write_cell.Goals as goal

pub returns : goal.returns
returns g c =
    let bs = c.args.bytes.now in
    let p = c.args.part in
    let at = c.args.at in
    let o = asked g.R.Record.made c.args.cell.now in
    let D = g.R.Coded.record_in in
    let E = g.R.Coded.bytes_of in
    let a : p.start ≤ p.end = omega arith in
    let b : p.end ≤ length bs = omega arith in
    let part = part_is bs p a b in
    let n : p.start + (p.end - p.start) ≡ p.end = omega arith in
    let rest : drop (p.end - p.start) (drop p.start bs) ≡ drop p.end bs = drop-drop (p.end - p.start) p.start bs ∙ ap (λ k. drop k bs) n in
    record {
      answer = c.bytes_write.ensures.answer ∙ ap (λ ys. write_of o (byte_row D ys) at) part;
      inside = λ _ _.
          ap (λ ys. take p.start bs ++ (ys ++ drop (p.end - p.start) (drop p.start bs))) (c.bytes_write.ensures.raw ∙ ap (λ ys. bytes_after E o ys at) part)
          ∙ ap (λ zs. take p.start bs ++ (bytes_after E o (part_of bs p) at ++ zs)) rest;
      outside = λ no_part. absurd (no_part (a, b));
    }
