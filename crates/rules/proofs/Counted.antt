-- Counting the cells that hold a record, one cell at a time.
use Rattle.std.proofs.Common.{◌≡◌, ℕ, zero, suc, ◌+◌, ◌<◌, ◌≤◌, Bool, false, cond, List, [], ◌∷◌, length, get_or, take, refl, ap, ◌∙◌, inl, inr, add-one, arith}
use Rattle.std.proofs.lemmas.List.{get_or_past, take_all}
use Rattle.std.proofs.lemmas.Bool.{cases_lt}
use Rattle.assignment.specs.Assign.{count}

-- one element more of a list's front
pub count_more : {A : Type 0} (p : A → Bool) (xs : List A) (i : ℕ) (d : A) → i < length xs → count p (take (i + 1) xs) ≡ count p (take i xs) + cond (p (get_or xs i d)) 1 0
count_more p xs i d h = rw (add-one i) (go xs i h)
  where
    go : (xs : List _) (i : ℕ) → i < length xs → count p (take (suc i) xs) ≡ count p (take i xs) + cond (p (get_or xs i d)) 1 0
    go [] i h = absurd (omega arith)
    go (x ∷ xs) zero h = omega arith
    go (x ∷ xs) (suc i) h = let r = go xs i (omega arith) in omega arith

-- none that passes in the front
pub count_none : {A : Type 0} (p : A → Bool) (xs : List A) (n : ℕ) (d : A) → n ≤ length xs → ((i : ℕ) → i < n → p (get_or xs i d) ≡ false) → count p (take n xs) ≡ 0
count_none p xs zero d h f = refl
count_none p [] (suc n) d h f = refl
count_none p (x ∷ xs) (suc n) d h f =
    let a : ◌≡◌ {A = ℕ} (cond (p x) 1 0) 0 = ap (λ b. cond {A = ℕ} b 1 0) (f 0 (omega arith)) in
    let b = count_none p xs n d (omega arith) (λ i k. f (suc i) (omega arith)) in
    omega arith

-- one element more, also past the end, where the default does not pass
pub count_step : {A : Type 0} (p : A → Bool) (xs : List A) (i : ℕ) (d : A) → p d ≡ false → count p (take (i + 1) xs) ≡ count p (take i xs) + cond (p (get_or xs i d)) 1 0
count_step p xs i d n =
    elim (cases_lt i (length xs)) [
      | inl h ↦ count_more p xs i d h
      | inr h ↦
          let e : get_or xs i d ≡ d = get_or_past xs i d h in
          let z : ◌≡◌ {A = ℕ} (cond (p (get_or xs i d)) 1 0) 0 = ap (λ x. cond {A = ℕ} (p x) 1 0) e ∙ ap (λ b. cond {A = ℕ} b 1 0) n in
          let a = ap (count p) (take_all (i + 1) xs (omega arith)) in
          let b = ap (count p) (take_all i xs h) in
          omega arith
    ]
