use Rattle.std.proofs.Common.{Ok, Err, sym, refl, ap, ◌∙◌}
use Rattle.std.proofs.lemmas.Result.{err_from_is_err_and}
use Rattle.modules.specs.Opens.{Names}
use Rattle.modules.proofs.Opening.{first_opens, is_opened}
use Rattle.modules.proofs.opens.open.Goals as goal

pub returns-in_err-check : goal.returns-in_err-check
returns-in_err-check g c =
    let m = c.in_ok-module.module in
    let is = c.in_ok-module.ensures in
    let hash = g.F.Family.hash_of c.args.family.now in
    let family = g.F.Family.number_of c.args.family.now in
    let bs = c.args.bytes.now in
    let names : Names g.R.Coded.kind family bs = record {
      lawful = is.0;
      kind = sym (ap (λ n. n.kind) is.1.numbers) ∙ c.if-layout-kind.false ∙ c.kind.ensures;
      family = sym (ap (λ n. n.family) is.1.numbers) ∙ c.if-layout-number.false ∙ c.number.ensures;
    } in
    let p = err_from_is_err_and c.from_residual-in_err-check.result c.from_residual-in_err-check.ensures.1 in
    rw (p.1, p.2)
    (first_opens g.R.Coded.record_in g.R.Coded.kind family g.R.Record.key_of g.R.Record.words_of hash bs m.cells.bytes.now m.layout (Err c.in_err-check.field-0.0) names is.1.numbers is.1.cells c.in_err-check.ensures).0

pub returns : goal.returns
returns g c =
    let m = c.in_ok-module.module in
    let is = c.in_ok-module.ensures in
    let hash = g.F.Family.hash_of c.args.family.now in
    let family = g.F.Family.number_of c.args.family.now in
    let bs = c.args.bytes.now in
    let names : Names g.R.Coded.kind family bs = record {
      lawful = is.0;
      kind = sym (ap (λ n. n.kind) is.1.numbers) ∙ c.if-layout-kind.false ∙ c.kind.ensures;
      family = sym (ap (λ n. n.family) is.1.numbers) ∙ c.if-layout-number.false ∙ c.number.ensures;
    } in
    let first = first_opens g.R.Coded.record_in g.R.Coded.kind family g.R.Record.key_of g.R.Record.words_of hash bs m.cells.bytes.now m.layout (Ok tt) names is.1.numbers is.1.cells c.in_ok-check.ensures in
    (first.0, first.1 refl, λ l e. is_opened bs _ m.layout is.0 is.1.numbers refl refl refl refl l e)
