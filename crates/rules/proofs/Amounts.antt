-- How many of some cells hold a record.
use Rattle.std.specs.Prelude.{Some, None, Option}
use Rattle.std.proofs.Common.{◌≡◌, ℕ, zero, suc, ◌+◌, ◌<◌, ◌≤◌, Bool, true, false, cond, ◌||◌, eqb, List, [], ◌∷◌, get_or, refl, ap, subst, inl, inr, arith}
use Rattle.std.proofs.lemmas.Bool.{cases_eq, eq-eqb, eqb-true, ne_eqb, or_from, or_left, or_right}
use Rattle.assignment.specs.Assign.{In, count}
use Rattle.assignment.proofs.Counts.{count_none}
use Rattle.rules.specs.Placements.{Apart}
use Rattle.rules.specs.Stored.{located}
use Rattle.rules.proofs.Handings.{not_again}
use Rattle.rules.proofs.Locations.{count_located, weight}
use Rattle.rules.proofs.Tallies.{each}

-- two tests that agree count the same
pub count_same : {A : Type 0} (p q : A → Bool) (xs : List A) → ((x : A) → In x xs → p x ≡ q x) → count p xs ≡ count q xs
count_same p q [] h = refl
count_same p q (x ∷ xs) h =
    let here = ap (λ t. cond {A = ℕ} t 1 0) (h x (inl refl)) in
    let rest = count_same p q xs (λ y i. h y (inr i)) in
    omega arith

-- one of two tests that never pass together
count_or :
    {A : Type 0} (p q : A → Bool) (xs : List A) → ((x : A) → p x ≡ true → q x ≡ false) →
    count (λ x. p x || q x) xs ≡ count p xs + count q xs
count_or p q [] h = refl
count_or p q (x ∷ xs) h =
    let here = h x in
    let rest = count_or p q xs h in
    grind arith

-- whether a number is in a list
abbrev pub among : List ℕ → ℕ → Bool
among [] x = false
among (c ∷ cs) x = eqb x c || among cs x

pub among_in : (cs : List ℕ) (x : ℕ) → In x cs → among cs x ≡ true
among_in [] x i = absurd i
among_in (c ∷ cs) x (inl e) = or_left (eqb x c) (among cs x) (eq-eqb x c e)
among_in (c ∷ cs) x (inr i) = or_right (eqb x c) (among cs x) (among_in cs x i)

pub among_out : (cs : List ℕ) (x : ℕ) → (In x cs → ⊥) → among cs x ≡ false
among_out [] x n = refl
among_out (c ∷ cs) x n = or_from (eqb x c) (among cs x) (ne_eqb x c (λ e. n (inl e))) (among_out cs x (λ i. n (inr i)))

-- how many of some cells hold a record
abbrev pub filled : {R : Type 0} → List (Option R) → List ℕ → ℕ
filled cs [] = 0
filled cs (c ∷ path) = weight each c (get_or cs c None) + filled cs path

module _ {R : Type 0} (cs : List (Option R)) where
  here_only : (c n : ℕ) (o : Option R) → n ≡ c → weight (λ (p : ℕ × R). eqb p.0 c) n o ≡ weight each c o
  here_only c n None e = refl
  here_only c n (Some r) e = ap (λ t. cond {A = ℕ} t 1 0) (eq-eqb n c e)

  not_here : (c n : ℕ) (o : Option R) → (n ≡ c → ⊥) → weight (λ (p : ℕ × R). eqb p.0 c) n o ≡ 0
  not_here c n None e = refl
  not_here c n (Some r) e = ap (λ t. cond {A = ℕ} t 1 0) (ne_eqb n c e)

  none_at : (c n : ℕ) → n ≤ c → count (λ (p : ℕ × R). eqb p.0 c) (located cs n) ≡ 0
  none_at c zero h = refl
  none_at c (suc n) h =
      let a = count_located cs (λ (p : ℕ × R). eqb p.0 c) n in
      let b = not_here c n (get_or cs n None) (λ e. omega arith) in
      let r = none_at c n (omega arith) in
      omega arith

  one_at : (c n : ℕ) → c < n → count (λ (p : ℕ × R). eqb p.0 c) (located cs n) ≡ weight each c (get_or cs c None)
  one_at c zero h = absurd (omega arith)
  one_at c (suc n) h =
      let a = count_located cs (λ (p : ℕ × R). eqb p.0 c) n in
      elim (cases_eq n c) [
        | inl e ↦
            let b = here_only c n (get_or cs n None) e in
            let x = ap (λ y. weight {R = R} each c (get_or cs y None)) e in
            let r = none_at c n (omega arith) in
            omega arith
        | inr ne ↦
            let b = not_here c n (get_or cs n None) ne in
            let r = one_at c n (omega arith) in
            omega arith
      ]

  -- the records of some cells that lie apart
  pub count_among :
      (B n : ℕ) (path : List ℕ) → Apart B path → ((x : ℕ) → In x path → x < n) →
      count (λ (p : ℕ × R). among path p.0) (located cs n) ≡ filled cs path
  count_among B n [] apart below = count_none (λ (p : ℕ × R). false) (located cs n) (λ p i. refl)
  count_among B n (c ∷ path) apart below =
      let a =
      count_or (λ (p : ℕ × R). eqb p.0 c) (λ (p : ℕ × R). among path p.0) (located cs n)
      (λ p e. among_out path p.0 (λ i. not_again B c path apart (subst (λ y. In y path) (eqb-true p.0 c e) i))) in
      let b = one_at c n (below c (inl refl)) in
      let r = count_among B n path apart.1 (λ x i. below x (inr i)) in
      omega arith
