-- Depths of buckets, and the buckets that are seen no deeper than some depth.
use Rattle.std.proofs.Common.{◌≡◌, ℕ, suc, ◌<◌, ◌≤◌, Bool, true, false, cond, eqb, ltb, ◌≢◌, List, get_or, refl, ◌∙◌, arith}
use Rattle.std.proofs.lemmas.Bool.{both_ways, eq-eqb, ne_eqb, lt-ltb, ltb-true, eqb-false, cond-true, cond-false}

-- a depth put at one bucket
abbrev pub put : (ℕ → ℕ) → ℕ → ℕ → ℕ → ℕ
put depth q v x = cond (eqb x q) v (depth x)

pub put_same : (depth : ℕ → ℕ) (q v : ℕ) → put depth q v q ≡ v
put_same depth q v = cond-true (eqb q q) v (depth q) (eq-eqb q q refl)

pub put_other : (depth : ℕ → ℕ) (q v x : ℕ) → x ≢ q → put depth q v x ≡ depth x
put_other depth q v x ne = cond-false (eqb x q) v (depth x) (ne_eqb x q ne)

-- the buckets that are seen, no deeper than d
abbrev pub member : ℕ → List ℕ → (ℕ → ℕ) → ℕ → ℕ → Bool
member size came depth d p = cond (ltb p size) (cond (eqb (get_or came p 0) 0) false (ltb (depth p) (suc d))) false

both : (b x : Bool) → cond b x false ≡ true → (b ≡ true) × (x ≡ true)
both true x e = (refl, e)
both false x e = absurd (both_ways false refl e)

but : (b x : Bool) → cond b false x ≡ true → (b ≡ false) × (x ≡ true)
but true x e = absurd (both_ways false refl e)
but false x e = (refl, e)

pub member_in : (size : ℕ) (came : List ℕ) (depth : ℕ → ℕ) (d p : ℕ) → p < size → get_or came p 0 ≢ 0 → depth p ≤ d → member size came depth d p ≡ true
member_in size came depth d p a b c =
    cond-true _ _ _ (lt-ltb p size a) ∙ cond-false _ _ _ (ne_eqb (get_or came p 0) 0 b) ∙ lt-ltb (depth p) (suc d) (omega arith)

pub member_out : (size : ℕ) (came : List ℕ) (depth : ℕ → ℕ) (d p : ℕ) → member size came depth d p ≡ true → (p < size) × (get_or came p 0 ≢ 0) × (depth p ≤ d)
member_out size came depth d p e =
    let x = both _ _ e in
    let y = but _ _ x.1 in
    let z = ltb-true (depth p) (suc d) y.1 in
    (ltb-true p size x.0, eqb-false (get_or came p 0) 0 y.0, omega arith)
