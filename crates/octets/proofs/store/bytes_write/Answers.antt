use Rattle.std.proofs.Common.{◌≡◌, ◌+◌, ◌-◌, ◌*◌, ◌<◌, ◌≤◌, length, take, drop, set, Ok, sym, ap, ◌∙◌, arith}
use borrow.Rule.Slice.PartMut.{put_mid, same_len_mid}
use Rattle.std.proofs.lemmas.List.{length-take, length-drop, set_past}
use Rattle.stores.specs.Cells.{after, asked, write_of}
use Rattle.stores.proofs.Rows.{write_in, write_out}
use Rattle.octets.specs.Codec.{byte_row, bytes_after, cells_of}
use Rattle.octets.proofs.Frames.{row_length, written, raw_in, raw_out}
use Rattle.octets.proofs.store.bytes_write.Goals as goal

pub returns-then-at-bytes_length : goal.returns-then-at-bytes_length
returns-then-at-bytes_length g c =
    let bs = c.args.bytes.now in
    let at = c.args.at in
    let v = c.in_ok-wanted.wanted in
    let D = g.R.Coded.record_in in
    let E = g.R.Coded.bytes_of in
    let xs = byte_row D bs in
    let o : asked g.R.Record.made c.args.cell.now ≡ Ok v = sym c.asked_cell.ensures ∙ c.in_ok-wanted.was in
    let e = row_length D bs in
    let h : length xs ≤ at = omega arith in
    let k : cells_of bs ≤ at = omega arith in
    record {
      answer = sym (ap (λ o. write_of o xs at) o ∙ write_out v xs at h);
      cells = sym (ap (λ o. after o xs at) o ∙ set_past xs at v h);
      raw = raw_out E v bs at k ∙ sym (ap (λ o. bytes_after E o bs at) o);
    }

pub returns : goal.returns
returns g c =
    let bs = c.args.bytes.now in
    let at = c.args.at in
    let v = c.in_ok-wanted.wanted in
    let D = g.R.Coded.record_in in
    let E = g.R.Coded.bytes_of in
    let xs = byte_row D bs in
    let ys = c.copy_from_slice.new.self in
    let o : asked g.R.Record.made c.args.cell.now ≡ Ok v = sym c.asked_cell.ensures ∙ c.in_ok-wanted.was in
    let e = row_length D bs in
    let h : at < length xs = omega arith in
    let lt : at < cells_of bs = omega arith in
    let fits : 32 * at + 32 ≤ length bs = omega arith in
    let w : (32 * at + 32) - (32 * at) ≡ 32 = omega arith in
    let mid : length (take 32 (drop (32 * at) bs)) ≡ 32 = simp (length-take, length-drop) (omega arith) in
    let full : length ys ≡ 32 = c.copy_from_slice.ensures.len ∙ ap (λ n. length (take n (drop (32 * at) bs))) w ∙ mid in
    let same = same_len_mid (32 * at) 32 bs ys (full ∙ sym mid) in
    record {
      answer = sym (ap (λ o. write_of o xs at) o ∙ write_in v xs at h);
      cells =
          ap (λ n. byte_row D (put_mid (32 * at) n bs ys)) w
          ∙ written bs ys at fits full D same lt
          ∙ ap (λ v. set xs at v) (ap (λ c. D c) c.copy_from_slice.ensures.after ∙ c.encode-code.ensures.back)
          ∙ sym (ap (λ o. after o xs at) o);
      raw =
          ap (λ n. put_mid (32 * at) n bs ys) w
          ∙ ap (put_mid (32 * at) 32 bs) (c.copy_from_slice.ensures.after ∙ c.encode-code.ensures.bytes)
          ∙ raw_in E v bs at lt
          ∙ sym (ap (λ o. bytes_after E o bs at) o);
    }
