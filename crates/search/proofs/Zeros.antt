-- Counting the entries that are zero.
use Rattle.std.proofs.Common.{◌≡◌, ℕ, zero, suc, ◌+◌, ◌<◌, ◌≤◌, ◌≢◌, List, [], ◌∷◌, length, get_or, set, refl, ap, arith}
use Rattle.search.specs.Marks.{zeroed, zeros}

zeroed_ne : (v : ℕ) → v ≢ 0 → zeroed v ≡ 0
zeroed_ne zero h = absurd (h refl)
zeroed_ne (suc v) h = refl

pub zeros_set : (n : ℕ) (xs : List ℕ) (q v : ℕ) → q < n → q < length xs → get_or xs q 0 ≡ 0 → v ≢ 0 → zeros n (set xs q v) + 1 ≡ zeros n xs
zeros_set zero xs q v qn ql z h = absurd (omega arith)
zeros_set (suc n) [] q v qn ql z h = absurd (omega arith)
zeros_set (suc n) (x ∷ xs) zero v qn ql z h = let a = ap zeroed z in let b = zeroed_ne v h in omega arith
zeros_set (suc n) (x ∷ xs) (suc q) v qn ql z h =
    let r = zeros_set n xs q v (omega arith) (omega arith) z h in omega arith

pub zeros_all : (n : ℕ) (xs : List ℕ) → n ≤ length xs → ((q : ℕ) → q < n → get_or xs q 0 ≡ 0) → zeros n xs ≡ n
zeros_all zero xs l h = refl
zeros_all (suc n) [] l h = absurd (omega arith)
zeros_all (suc n) (x ∷ xs) l h =
    let a = ap zeroed (h 0 (omega arith)) in
    let r = zeros_all n xs (omega arith) (λ q k. h (suc q) (omega arith)) in omega arith
