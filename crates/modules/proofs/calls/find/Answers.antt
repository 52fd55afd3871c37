use Rattle.std.proofs.Common.{Ok, subst}
use Rattle.records.specs.declared.numbers.Words.{Words}
use Rattle.modules.specs.Modules.{FindsRecord}
use Rattle.modules.proofs.Whole.{record_found}
use Rattle.modules.proofs.calls.find.Goals as goal

pub returns : goal.returns
returns g c =
    let m = c.in_ok-read.field-0 in
    let is = c.in_ok-read.ensures in
    let D = g.R.Coded.record_in in
    let W : g.row.R.Denot → Words = λ y. g.R.Record.words_of (g.R.Record.key_of y) in
    let o = c.first_record.result in
    subst (λ w. FindsRecord D W c.args.bytes.now w (Ok o)) c.words.ensures
    (record_found c.args.bytes.now m.kind m.family m.layout m.cells.bytes.now is.0 is.1 c.words.result D W o c.first_record.ensures)
