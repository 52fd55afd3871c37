use Rattle.std.proofs.lemmas.Result.{err_from_is_err_and}
use Rattle.records.specs.Made.{tare_made, no_tare}
use Rattle.records.proofs.kinds.TareRecordRecord.from_numbers.Goals as goal

pub returns-in_err-plate : goal.returns-in_err-plate
returns-in_err-plate c =
    let p = err_from_is_err_and c.from_residual.result c.from_residual.ensures.1 in
    let q = c.in_err-plate.ensures in
    rw (p.1, p.2) (no_tare c.args.numbers _ q.0 q.1)

pub returns : goal.returns
returns c =
    let q = c.in_ok-plate.ensures in
    tare_made c.args.numbers c.in_ok-plate.plate q.1.0 q.1.1 c.new.result c.new.ensures
