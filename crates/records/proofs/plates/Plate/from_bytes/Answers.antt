use Rattle.std.proofs.Common.{◌≡◌, ℕ, ◌<◌, length, get_or, sym, ap, ◌∙◌, ap₂, arith}
use Rattle.records.specs.Plates.{is_plate, plate_in, plate_bytes}
use Rattle.records.proofs.Words.{plate_words_lem}
use Rattle.records.specs.Taken.{taken_as}
use Rattle.records.proofs.plates.Plate.from_bytes.Goals as goal

pub returns : goal.returns
unfolding is_plate
returns c =
    let xs = c.args.bytes.now in
    let n : length xs ≡ 12 = omega arith in
    let f : (i : ℕ) → get_or xs i 0 < 256 = λ i. omega (arith, c.type_inv.bytes i) in
    let e : plate_bytes c.u64_at.result c.u32_at.result ≡ xs = ap₂ plate_bytes c.u64_at.ensures c.u32_at.ensures ∙ plate_words_lem xs n f in
    taken_as 3 c.from_parts.result c.from_parts.ensures
    (λ p. (n, sym (ap plate_in e) ∙ p))
    (λ p. ap plate_in e ∙ p.1)
    (λ x p q. (q.0 ∙ c.u64_at.ensures, q.1 ∙ c.u32_at.ensures))
