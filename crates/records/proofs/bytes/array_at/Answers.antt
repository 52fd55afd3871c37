use Rattle.std.proofs.Common.{rules, ◌≡◌, ◌+◌, get_or, ◌∙◌, arith}
use Rattle.std.proofs.lemmas.Grind.{common_steps}
use Rattle.records.proofs.Arrays.{made_at}
use Rattle.records.proofs.bytes.array_at.Goals as goal

pub returns-in-None : goal.returns-in-None
returns-in-None g c k h =
    let rest = c.unwrap_or-rest.result.now in
    let e : get_or rest k 0 ≡ get_or c.args.bytes.now (c.args.at + k) 0 = grind (arith, common_steps) in
    made_at _ (λ k. get_or rest k 0) _ c.from_fn.result 0 g.row.N (λ k y q call. search rules) c.from_fn.ensures.items.each k (omega arith) (omega arith) ∙ e
