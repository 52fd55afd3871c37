-- The count of a sound table is small.
use Rattle.std.proofs.Common.{◌≡◌, ℕ, ◌+◌, ◌-◌, ◌^◌, ◌≤◌, min, true, take, refl, arith}
use Rattle.std.proofs.lemmas.Nat.{mul-le}
use Rattle.std.proofs.lemmas.List.{length-take}
use Rattle.records.specs.declared.numbers.Words.{Words}
use Rattle.addresses.specs.declared.sizes.Size.{Size}
use Rattle.addresses.specs.Sized.{buckets_in}
use Rattle.assignment.proofs.Counts.{count_all, count_le}
use Rattle.rules.specs.Tables.{State, Sound, holding, used_in}

pub few_used : (z : Size) → used_in z ≤ 131072
few_used z = mul-le (buckets_in z) z.settings.cells 16384 8 z.room z.settings.few_cells

pub few_records : {R K : Type 0} (key : R → K) (words : K → Words) (hash : Words → ℕ) (s : State R) → Sound key words hash s → s.count ≤ 131072
few_records key words hash s sound =
    let n = used_in s.size in
    let a = count_le holding (λ _. true) (take n s.cells) (λ _ _ _. refl) in
    let b = count_all (take n s.cells) in
    let d = length-take n s.cells in
    let e = sound.counted in
    let l = few_used s.size in
    omega arith

-- one more record is counted
pub one_more :
    {R K : Type 0} (key : R → K) (words : K → Words) (hash : Words → ℕ) (s : State R) → Sound key words hash s →
    (n : ℕ) → n ≡ min (s.count + 1) (2 ^ 32 - 1) → n ≡ s.count + 1
one_more key words hash s sound n e = let l = few_records key words hash s sound in omega arith
