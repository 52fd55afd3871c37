use Rattle.std.proofs.Common.{◌<◌, ◌≤◌, length, Ok, sym, ap, ◌∙◌, arith}
use Rattle.stores.proofs.Rows.{read_in, read_out}
use Rattle.octets.specs.Codec.{byte_row}
use Rattle.octets.proofs.Frames.{row_length}
use Rattle.octets.proofs.store.bytes_read.Goals as goal

pub returns-then-at-bytes_length : goal.returns-then-at-bytes_length
returns-then-at-bytes_length g c =
    let D = g.R.Coded.record_in in
    let xs = byte_row D c.args.bytes.now in
    let e = row_length D c.args.bytes.now in
    let h : length xs ≤ c.args.at = omega arith in
    sym (read_out xs c.args.at h)

pub returns : goal.returns
returns g c =
    let D = g.R.Coded.record_in in
    let xs = byte_row D c.args.bytes.now in
    let e = row_length D c.args.bytes.now in
    let h : c.args.at < length xs = omega arith in
    ap (λ o. Ok o) c.cell_or_empty.ensures ∙ sym (read_in xs c.args.at h)
