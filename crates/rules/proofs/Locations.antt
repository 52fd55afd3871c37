-- The records with the numbers of their cells: which there are, and how many in a bucket.
use Rattle.std.specs.Prelude.{Some, None, Option}
use Rattle.std.proofs.Common.{◌≡◌, ℕ, zero, suc, ◌+◌, ◌-◌, ◌*◌, ◌/◌, ◌<◌, ◌≤◌, Bool, true, false, cond, eqb, ◌⊎◌, List, get_or, sym, refl, ap, ◌∙◌, subst, inl, inr, add-mul, arith}
use Rattle.std.proofs.lemmas.Nat.{div-mul-add, div-add-mod', mod_below, mul-le}
use Rattle.std.proofs.lemmas.Bool.{cases_eq, cases_lt, eq-eqb, ne_eqb}
use Rattle.assignment.specs.Assign.{In, count, load}
use Rattle.rules.specs.Placements.{blank, vacant_in}
use Rattle.rules.specs.Stored.{joined, located}
use Rattle.rules.proofs.Sounds.{not_both, same_held}

-- what a cell adds to a count
abbrev pub weight : {R : Type 0} → (ℕ × R → Bool) → ℕ → Option R → ℕ
weight p n None = 0
weight p n (Some r) = cond (p (n, r)) 1 0

module _ {R : Type 0} where
  pub count_joined : (p : ℕ × R → Bool) (n : ℕ) (o : Option R) (rest : List (ℕ × R)) → count p (joined n o rest) ≡ weight p n o + count p rest
  count_joined p n None rest = omega arith
  count_joined p n (Some r) rest = refl

  from_joined :
      (n : ℕ) (o : Option R) (rest : List (ℕ × R)) (p : ℕ × R) → In p (joined n o rest) →
      ((p.0 ≡ n) × (o ≡ Some p.1)) ⊎ In p rest
  from_joined n None rest p i = inr i
  from_joined n (Some r) rest p (inl e) = inl (ap (λ (q : ℕ × R). q.0) e, ap (λ (q : ℕ × R). Some q.1) (sym e))
  from_joined n (Some r) rest p (inr i) = inr i

  joined_here : (n : ℕ) (o : Option R) (rest : List (ℕ × R)) (x : R) → o ≡ Some x → In (n, x) (joined n o rest)
  joined_here n None rest x e = absurd (not_both None x refl e)
  joined_here n (Some r) rest x e = inl (ap (λ (y : R). (n, y)) (same_held (Some r) x r e refl))

  joined_there : (n : ℕ) (o : Option R) (rest : List (ℕ × R)) (p : ℕ × R) → In p rest → In p (joined n o rest)
  joined_there n None rest p i = i
  joined_there n (Some r) rest p i = inr i

module _ {R : Type 0} (cs : List (Option R)) where
  -- a pair in the list is a cell below n with its record
  pub from_located : (n : ℕ) (p : ℕ × R) → In p (located cs n) → (p.0 < n) × (get_or cs p.0 None ≡ Some p.1)
  from_located zero p i = absurd i
  from_located (suc n) p i =
      elim (from_joined n (get_or cs n None) (located cs n) p i) [
        | inl e ↦ let z = e.0 in (omega arith, ap (λ y. get_or cs y None) e.0 ∙ e.1)
        | inr j ↦ let r = from_located n p j in let l = r.0 in (omega arith, r.1)
      ]

  pub to_located : (n i : ℕ) (x : R) → i < n → get_or cs i None ≡ Some x → In (i, x) (located cs n)
  to_located zero i x l e = absurd (omega arith)
  to_located (suc n) i x l e =
      elim (cases_eq i n) [
        | inl z ↦
            subst (λ y. In (y, x) (located cs (suc n))) (sym z)
            (joined_here n (get_or cs n None) (located cs n) x (ap (λ y. get_or cs y None) (sym z) ∙ e))
        | inr ne ↦ joined_there n (get_or cs n None) (located cs n) (i, x) (to_located n i x (omega arith) e)
      ]

  -- one cell more
  pub count_located : (p : ℕ × R → Bool) (n : ℕ) → count p (located cs (suc n)) ≡ weight p n (get_or cs n None) + count p (located cs n)
  count_located p n = count_joined p n (get_or cs n None) (located cs n)

-- how many of the cells below n lie in bucket b of B cells and hold a record
abbrev pub lodged : {R : Type 0} → List (Option R) → ℕ → ℕ → ℕ → ℕ
lodged {R} cs B b n = load (λ (p : ℕ × R). p.0 / B) (located cs n) b

module _ {R : Type 0} (cs : List (Option R)) (B : ℕ) (some : 1 ≤ B) where
  other : (b n : ℕ) (o : Option R) → eqb (n / B) b ≡ false → weight (λ (p : ℕ × R). eqb (p.0 / B) b) n o ≡ 0
  other b n None e = refl
  other b n (Some r) e = ap (λ t. cond {A = ℕ} t 1 0) e

  same : (b n : ℕ) (o : Option R) → eqb (n / B) b ≡ true → weight (λ (p : ℕ × R). eqb (p.0 / B) b) n o + blank o ≡ 1
  same b n None e = refl
  same b n (Some r) e = ap (λ t. cond {A = ℕ} t 1 0 + 0) e

  below : (b n : ℕ) → n < b * B → eqb (n / B) b ≡ false
  below b n h = ne_eqb (n / B) b (λ e. let d = div-add-mod' n B in let k = ap (λ y. y * B) e in omega arith)

  above : (b n : ℕ) → b * B + B ≤ n → eqb (n / B) b ≡ false
  above b n h =
      ne_eqb (n / B) b (λ e. let d = div-add-mod' n B in let k = ap (λ y. y * B) e in let m = mod_below n B (omega arith) in omega arith)

  step : (b n : ℕ) → lodged cs B b (suc n) ≡ weight (λ (p : ℕ × R). eqb (p.0 / B) b) n (get_or cs n None) + lodged cs B b n
  step b n = count_located cs (λ (p : ℕ × R). eqb (p.0 / B) b) n

  before : (b n : ℕ) → n ≤ b * B → lodged cs B b n ≡ 0
  before b zero h = refl
  before b (suc n) h =
      let s = step b n in
      let o = other b n (get_or cs n None) (below b n (omega arith)) in
      let x = before b n (omega arith) in
      omega arith

  within : (b j : ℕ) → j ≤ B → lodged cs B b (b * B + j) + vacant_in cs (b * B) j ≡ j
  within b zero h =
      let z : b * B + 0 ≡ b * B = omega arith in
      let y = ap (lodged cs B b) z in
      let x = before b (b * B) (omega arith) in
      omega arith
  within b (suc j) h =
      let z : b * B + suc j ≡ suc (b * B + j) = omega arith in
      let y = ap (lodged cs B b) z in
      let x = within b j (omega arith) in
      let e = eq-eqb ((b * B + j) / B) b (div-mul-add b B j (omega arith)) in
      let s = same b (b * B + j) (get_or cs (b * B + j) None) e in
      let t = step b (b * B + j) in
      omega arith

  behind : (b m : ℕ) → lodged cs B b (b * B + B + m) + vacant_in cs (b * B) B ≡ B
  behind b zero =
      let z : b * B + B + 0 ≡ b * B + B = omega arith in
      let y = ap (lodged cs B b) z in
      let x = within b B (omega arith) in
      omega arith
  behind b (suc m) =
      let z : b * B + B + suc m ≡ suc (b * B + B + m) = omega arith in
      let y = ap (lodged cs B b) z in
      let s = other b (b * B + B + m) (get_or cs (b * B + B + m) None) (above b (b * B + B + m) (omega arith)) in
      let t = step b (b * B + B + m) in
      let x = behind b m in
      omega arith

  -- in a bucket that there is, the cells that hold a record and those that do not are B
  pub lodged_vacant : (U b : ℕ) → b < U → lodged cs B b (U * B) + vacant_in cs (b * B) B ≡ B
  lodged_vacant U b l =
      let m = mul-le (b + 1) B U B (omega arith) (omega arith) in
      let d : (b + 1) * B ≡ b * B + B = omega (arith, add-mul b 1 B) in
      let z : U * B ≡ b * B + B + (U * B - (b * B + B)) = omega arith in
      let x = behind b (U * B - (b * B + B)) in
      let y = ap (lodged cs B b) z in
      omega arith

  -- no bucket holds more
  pub lodged_most : (U b : ℕ) → lodged cs B b (U * B) ≤ B
  lodged_most U b =
      elim (cases_lt b U) [
        | inl l ↦ let x = lodged_vacant U b l in omega arith
        | inr l ↦ let m = mul-le U B b B l (omega arith) in let x = before b (U * B) m in omega arith
      ]
