use Rattle.std.specs.Prelude.{None}
use Rattle.std.proofs.Common.{◌<◌, ◌≤◌, length, sym, ◌∙◌, arith}
use Rattle.std.proofs.lemmas.List.{get_or_past}
use Rattle.octets.specs.Codec.{byte_row, cells_of}
use Rattle.octets.proofs.Frames.{row_length, row_get}
use Rattle.octets.proofs.store.cell_or_empty.Goals as goal

pub returns-then-at-bytes_length : goal.returns-then-at-bytes_length
returns-then-at-bytes_length g c =
    let D = g.R.Coded.record_in in
    let bs = c.args.bytes.now in
    let e = row_length D bs in
    let h : length (byte_row D bs) ≤ c.args.at = omega arith in
    sym (get_or_past (byte_row D bs) c.args.at None h)

pub returns : goal.returns
returns g c =
    let D = g.R.Coded.record_in in
    let bs = c.args.bytes.now in
    let k : c.args.at < cells_of bs = omega arith in
    c.cell_at.ensures ∙ sym (row_get D bs c.args.at None k)
