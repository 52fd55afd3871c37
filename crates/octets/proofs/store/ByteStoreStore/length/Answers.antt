use Rattle.std.proofs.Common.{sym, ◌∙◌, arith}
use Rattle.octets.proofs.Frames.{row_length}
use Rattle.octets.proofs.store.ByteStoreStore.length.Goals as goal

pub returns : goal.returns
returns g c =
    let e = row_length g.R.Coded.record_in c.args.self.now.bytes.now in
    record { value = c.bytes_length.ensures ∙ sym e; bound = omega (arith, c.bytes_length.ensures) }
