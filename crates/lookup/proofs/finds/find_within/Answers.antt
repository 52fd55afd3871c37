use Rattle.std.proofs.Common.{arith}
use Rattle.lookup.proofs.Seeks.{none_start, none_more, none_cut}
use Rattle.lookup.proofs.finds.find_within.Goals as goal

pub loop-cell-init : goal.loop-cell-init
loop-cell-init g c = none_start _ c.args.from

pub returns-in-Some : goal.returns-in-Some
returns-in-Some g c =
    let m = c.in-Some.ensures in
    (record { low = omega arith; high = omega arith; here = (omega arith, (c.in-Some.held, m)); before = c.loop-cell.invariant }, m)

pub loop-cell-preserved : goal.loop-cell-preserved
loop-cell-preserved g c = none_more _ c.args.from c.loop-cell.cell c.loop-cell.invariant (λ m. c.in_default.ensures m.1.0 m.1.1)

pub returns : goal.returns
returns g c = none_cut _ c.args.from c.args.end c.loop-cell.cell c.args.limit (λ k m. m.0) c.loop-cell.invariant (omega arith)
