use Rattle.std.proofs.Common.{◌≡◌, ◌≤◌, take}
use Rattle.assignment.specs.Assign.{count}
use Rattle.octets.specs.Codec.{byte_row}
use Rattle.rules.specs.Tables.{holding}
use Rattle.modules.proofs.module.Module.count_held.Given as goal

abbrev pub invariant-loop-k : goal.invariant-loop-k
invariant-loop-k g l =
    (l.held ≤ l.k) × (l.held ≡ count holding (take l.k (byte_row g.R.Coded.record_in l.self.cells.bytes.now)))
