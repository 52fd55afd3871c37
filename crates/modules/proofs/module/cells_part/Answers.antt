use Rattle.std.proofs.Common.{◌≡◌, ◌-◌, length, arith}
use Rattle.octets.proofs.Frames.{part_cut}
use Rattle.trailers.specs.Trailers.{numbers_in}
use Rattle.modules.proofs.module.cells_part.Goals as goal

pub returns : goal.returns
returns c =
    let bs = c.args.bytes.now in
    let d = (numbers_in bs).distance in
    let s = c.saturating_sub-start.result in
    let f : c.distance-distance.result ≡ d = c.distance-distance.ensures in
    part_cut bs (length bs - 32 - d) d s (c.min.result - s) (omega arith) (omega arith)
