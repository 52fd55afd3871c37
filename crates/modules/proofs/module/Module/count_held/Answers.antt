use Rattle.std.specs.Prelude.{None}
use Rattle.std.proofs.Common.{◌≡◌, ℕ, cond, get_or, sym, refl, ap, ◌∙◌, arith}
use Rattle.octets.specs.Codec.{byte_row}
use Rattle.rules.specs.Tables.{holding}
use Rattle.rules.proofs.Counted.{count_step}
use Rattle.modules.proofs.Faulty.{holding_some}
use Rattle.modules.proofs.module.Module.count_held.Goals as goal
use Rattle.modules.proofs.module.Module.count_held.Goals.{then-is_some, else-is_some}

pub loop-k-preserved : goal.loop-k-preserved
loop-k-preserved g c =
    let row = byte_row g.R.Coded.record_in c.args.self.now.cells.bytes.now in
    let k = c.loop-k.k in
    let at : c.cell_or_empty.result ≡ get_or row k None = c.cell_or_empty.ensures ∙ ap (λ n. get_or row n None) c.from.ensures in
    let step = count_step holding row k None refl in
    let low = c.loop-k.invariant.0 in
    let so = c.loop-k.invariant.1 in
    let some : holding (get_or row k None) ≡ c.is_some.result = ap holding (sym at) ∙ holding_some c.cell_or_empty.result ∙ sym c.is_some.ensures in
    elim c.if-is_some.branch [
      | then-is_some w ↦
          let b : ◌≡◌ {A = ℕ} (cond (holding (get_or row k None)) 1 0) 1 = ap (λ b. cond {A = ℕ} b 1 0) (some ∙ w.if-is_some.true) in
          let e = w.held-is in
          (omega arith, omega arith)
      | else-is_some w ↦
          let b : ◌≡◌ {A = ℕ} (cond (holding (get_or row k None)) 1 0) 0 = ap (λ b. cond {A = ℕ} b 1 0) (some ∙ w.if-is_some.false) in
          let e = w.held-is in
          (omega arith, omega arith)
    ]
