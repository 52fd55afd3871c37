use Rattle.std.specs.Prelude.{Some, None}
use Rattle.std.proofs.Common.{◌≡◌, ◌<◌, get_or, sym, ap, ◌∙◌}
use Rattle.octets.specs.Codec.{byte_row, lawful_at}
use Rattle.rules.specs.Tables.{HoldsAt}
use Rattle.modules.specs.Checks.{table_of}
use Rattle.modules.proofs.Faulty.{again, never}
use Rattle.modules.proofs.module.Module.check_cell.Goals as goal

pub returns-in-Some-find_below : goal.returns-in-Some-find_below
returns-in-Some-find_below g c =
    let D = g.R.Coded.record_in in
    let bs = c.args.self.now.cells.bytes.now in
    let s = table_of c.args.self.now.layout.size c.args.self.now.layout.count (byte_row D bs) in
    let r = c.in-Some.held in
    let at : get_or (byte_row D bs) c.args.k None ≡ Some r = ap (λ n. get_or (byte_row D bs) n None) (sym c.from.ensures) ∙ sym c.in-Some.ensures in
    let h : HoldsAt s c.args.k r = record { used = c.requires.used; here = at } in
    let found = c.in-Some-find_below.ensures in
    again (lawful_at D bs) g.R.Record.key_of g.R.Record.words_of (g.F.Family.hash_of c.args.family.now) s c.args.k r h
    c.words-words.result (c.words-words.ensures ∙ ap g.R.Record.words_of c.key.ensures)
    (sym c.is_lawful.ensures ∙ c.if-not-is_lawful.false) c.if-not-is_own.ensures
    g.met.R.Record.apart c.in-Some-find_below.field-0.cell c.in-Some-find_below.field-0.held found.0.first.here.0 found.1

pub returns-in-None : goal.returns-in-None
returns-in-None g c =
    let D = g.R.Coded.record_in in
    let bs = c.args.self.now.cells.bytes.now in
    let z = c.args.self.now.layout.size in
    let s = table_of z c.args.self.now.layout.count (byte_row D bs) in
    let r = c.in-Some.held in
    let at : get_or (byte_row D bs) c.args.k None ≡ Some r = ap (λ n. get_or (byte_row D bs) n None) (sym c.from.ensures) ∙ sym c.in-Some.ensures in
    let h : HoldsAt s c.args.k r = record { used = c.requires.used; here = at } in
    let some : 0 < z.settings.cells = z.settings.some_cells in
    never (lawful_at D bs) g.R.Record.key_of g.R.Record.words_of (g.F.Family.hash_of c.args.family.now) s c.args.k r h
    c.words-words.result (c.words-words.ensures ∙ ap g.R.Record.words_of c.key.ensures)
    (sym c.is_lawful.ensures ∙ c.if-not-is_lawful.false) c.if-not-is_own.ensures
    some c.requires.before c.in-None.ensures
