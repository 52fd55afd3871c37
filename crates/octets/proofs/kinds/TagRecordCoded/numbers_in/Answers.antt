use Rattle.std.proofs.Common.{◌≡◌, ℕ, ◌<◌, get_or, ap, ◌∙◌, arith}
use Rattle.octets.specs.Kinds.{tag_in, tag_fields}
use Rattle.octets.proofs.Spelled.{tag_back}
use Rattle.octets.proofs.kinds.TagRecordCoded.numbers_in.Goals as goal

pub returns : goal.returns
returns c =
    let xs = c.args.bytes.now in
    let f : (i : ℕ) → get_or xs i 0 < 256 = λ i. omega (arith, c.type_inv.bytes i) in
    let t = c.u64_at.ensures in
    let g = c.u32_at.ensures in
    let k = c.byte_at.ensures in
    let e : record { tag = c.u64_at.result; grower = c.u32_at.result; grain = c.byte_at.result } ≡ tag_in xs = λ i. record { tag = t i; grower = g i; grain = k i } in
    record { value = e; back = λ l h. ap tag_fields e ∙ tag_back xs l f h }
