use Rattle.std.proofs.Common.{subst}
use Rattle.records.specs.declared.numbers.Words.{Words}
use Rattle.addresses.specs.Hashes.{family_hash}
use Rattle.octets.specs.Codec.{byte_row}
use Rattle.lookup.specs.Finds.{Found}
use Rattle.modules.proofs.module.Module.first.Goals as goal

pub returns : goal.returns
returns g c =
    let m = c.args.self.now in
    let W : g.row.R.Denot → Words = λ y. g.R.Record.words_of (g.R.Record.key_of y) in
    subst (λ n. Found W (byte_row g.R.Coded.record_in m.cells.bytes.now) (family_hash m.family) m.layout.size c.args.words n c.find_below.result) c.used.ensures c.find_below.ensures
