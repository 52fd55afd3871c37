use Rattle.modules.proofs.Whole.{tare_found, tag_found}
use Rattle.modules.proofs.calls.find_cell.Goals as goal

pub returns-in-Tare : goal.returns-in-Tare
returns-in-Tare c =
    let m = c.in_ok-module.module in
    let is = c.in_ok-module.ensures in
    tare_found c.args.bytes.now m.kind m.family m.layout m.cells.bytes.now is.0 is.1 c.args.words c.first_cell.result c.in-Tare.is c.first_cell.ensures

pub returns-in-Tag : goal.returns-in-Tag
returns-in-Tag c =
    let m = c.in_ok-module.module in
    let is = c.in_ok-module.ensures in
    tag_found c.args.bytes.now m.kind m.family m.layout m.cells.bytes.now is.0 is.1 c.args.words c.first_cell-in-Tag.result c.in-Tag.is c.first_cell-in-Tag.ensures
