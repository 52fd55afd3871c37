use Rattle.std.proofs.Common.{arith}
use Rattle.addresses.proofs.Computed.{coded}
use Rattle.addresses.proofs.Extents.{below}
use Rattle.addresses.proofs.Steps.{lawful}
use Rattle.addresses.proofs.sizes.Size.at.Goals as goal

pub returns-then-b-eq0 : goal.returns-then-b-eq0
returns-then-b-eq0 c =
    let z = c.args.self in
    let b = below z.settings.t z.x z.j c.args.g c.args.b (lawful z) c.requires.subtable c.requires.bucket in
    record { number = grind arith; below = grind arith }

pub overflow_add-result-2 : goal.overflow_add-result-2
overflow_add-result-2 c =
    let z = c.args.self in
    let room = z.room in
    let b = below z.settings.t z.x z.j c.args.g c.args.b (lawful z) c.requires.subtable c.requires.bucket in
    let v = coded z.settings.t c.args.g c.args.b c.subtables.result c.subtables.ensures c.if-b-eq0.false (omega arith) in
    omega arith

pub returns : goal.returns
returns c =
    let z = c.args.self in
    let room = z.room in
    let b = below z.settings.t z.x z.j c.args.g c.args.b (lawful z) c.requires.subtable c.requires.bucket in
    let v = coded z.settings.t c.args.g c.args.b c.subtables.result c.subtables.ensures c.if-b-eq0.false (omega arith) in
    record { number = v; below = omega arith }
