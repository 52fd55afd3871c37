use Rattle.std.proofs.Common.{◌^◌, arith}
use Rattle.stores.proofs.Spans.{joined_length}
use Rattle.stores.proofs.joined.JoinedStore.length.Goals as goal

pub returns-clause-value : goal.returns-clause-value
returns-clause-value g c =
    let e = joined_length (2 ^ 40) (g.A.Store.cells c.args.self.now.first) (g.B.Store.cells c.args.self.now.second) in
    omega arith
