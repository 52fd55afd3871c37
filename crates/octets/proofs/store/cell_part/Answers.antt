use Rattle.std.proofs.Common.{◌-◌, ◌*◌, arith}
use Rattle.octets.proofs.Frames.{part_cut}
use Rattle.octets.proofs.store.cell_part.Goals as goal

pub returns : goal.returns
returns c =
    part_cut c.args.bytes.now (32 * c.args.at) 32 c.min-from.result (c.min.result - c.min-from.result) (omega arith) (omega arith)
