use Rattle.std.proofs.Common.{◌≡◌, ℕ, ◌<◌, get_or, ap, ◌∙◌, arith}
use Rattle.octets.specs.Kinds.{tare_in, tare_fields}
use Rattle.octets.proofs.Spelled.{tare_back}
use Rattle.octets.proofs.kinds.TareRecordCoded.numbers_in.Goals as goal

pub returns : goal.returns
returns c =
    let xs = c.args.bytes.now in
    let f : (i : ℕ) → get_or xs i 0 < 256 = λ i. omega (arith, c.type_inv.bytes i) in
    let p = c.u64_at.ensures in
    let s = c.u32_at.ensures in
    let t = c.u32_at-2.ensures in
    let d = c.u16_at.ensures in
    let e : record { first = c.u64_at.result; second = c.u32_at.result; tare = c.u32_at-2.result; day = c.u16_at.result } ≡ tare_in xs = λ i. record { first = p i; second = s i; tare = t i; day = d i } in
    record { value = e; back = λ l h. ap tare_fields e ∙ tare_back xs l f h }
