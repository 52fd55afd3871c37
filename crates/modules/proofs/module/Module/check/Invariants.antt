use Rattle.octets.specs.Codec.{byte_row, lawful_at}
use Rattle.modules.specs.Checks.{AllFine, table_of}
use Rattle.modules.proofs.module.Module.check.Given as goal

abbrev pub invariant-loop-k : goal.invariant-loop-k
invariant-loop-k g l =
    AllFine (lawful_at g.R.Coded.record_in l.self.cells.bytes.now) g.R.Record.key_of g.R.Record.words_of (g.F.Family.hash_of l.family)
    (table_of l.self.layout.size l.self.layout.count (byte_row g.R.Coded.record_in l.self.cells.bytes.now)) l.k
