use Rattle.modules.proofs.Whole.{tares_checked, tares_sound, tags_checked, tags_sound}
use Rattle.modules.proofs.calls.check.Goals as goal

pub returns-in-Tare : goal.returns-in-Tare
returns-in-Tare c =
    let m = c.in_ok-module.module in
    let is = c.in_ok-module.ensures in
    record {
      answer = tares_checked c.args.bytes.now m.kind m.family m.layout m.cells.bytes.now is.0 is.1 c.check.result c.in-Tare.is c.check.ensures;
      sound = tares_sound c.args.bytes.now m.kind m.family m.layout m.cells.bytes.now is.0 is.1 c.check.result c.in-Tare.is c.check.ensures;
    }

pub returns-in-Tag : goal.returns-in-Tag
returns-in-Tag c =
    let m = c.in_ok-module.module in
    let is = c.in_ok-module.ensures in
    record {
      answer = tags_checked c.args.bytes.now m.kind m.family m.layout m.cells.bytes.now is.0 is.1 c.check-in-Tag.result c.in-Tag.is c.check-in-Tag.ensures;
      sound = tags_sound c.args.bytes.now m.kind m.family m.layout m.cells.bytes.now is.0 is.1 c.check-in-Tag.result c.in-Tag.is c.check-in-Tag.ensures;
    }
