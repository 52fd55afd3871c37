use Rattle.std.proofs.Common.{take, sym, ap, ◌∙◌, arith}
use Rattle.assignment.specs.Assign.{count}
use Rattle.octets.specs.Codec.{byte_row, lawful_at}
use Rattle.rules.specs.Tables.{holding, used_in}
use Rattle.modules.specs.Checks.{table_over}
use Rattle.modules.proofs.Faulty.{all_more, all_end, wrong_count}
use Rattle.modules.proofs.module.Module.check.Goals as goal

pub loop-k-preserved : goal.loop-k-preserved
loop-k-preserved g c =
    let D = g.R.Coded.record_in in
    let bs = c.args.self.now.cells.bytes.now in
    let s = table_over D c.args.self.now.layout bs in
    all_more (lawful_at D bs) g.R.Record.key_of g.R.Record.words_of (g.F.Family.hash_of c.args.family.now) s c.loop-k.k c.loop-k.invariant c.in_default.ensures

pub returns-then-count_held-self : goal.returns-then-count_held-self
returns-then-count_held-self g c =
    let D = g.R.Coded.record_in in
    let bs = c.args.self.now.cells.bytes.now in
    let s = table_over D c.args.self.now.layout bs in
    let law = lawful_at D bs in
    let u = c.used-used.ensures in
    let e = c.into.ensures in
    wrong_count law g.R.Record.key_of g.R.Record.words_of (g.F.Family.hash_of c.args.family.now) s c.into.result e.0 e.1
    (all_end law g.R.Record.key_of g.R.Record.words_of (g.F.Family.hash_of c.args.family.now) s c.loop-k.k (used_in s.size) c.loop-k.invariant (omega arith))
    (λ e. c.if-count_held-self.true (c.count_held.ensures ∙ ap (λ n. count holding (take n s.cells)) u ∙ e))

pub returns : goal.returns
returns g c =
    let D = g.R.Coded.record_in in
    let bs = c.args.self.now.cells.bytes.now in
    let z = c.args.self.now.layout.size in
    let s = table_over D c.args.self.now.layout bs in
    let u = c.used-used.ensures in (
      all_end (lawful_at D bs) g.R.Record.key_of g.R.Record.words_of (g.F.Family.hash_of c.args.family.now) s c.loop-k.k (used_in z) c.loop-k.invariant (omega arith),
      ap (λ n. count holding (take n (byte_row D bs))) (sym u) ∙ sym c.count_held.ensures ∙ c.if-count_held-self.false,
    )
