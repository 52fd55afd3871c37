-- What lies in a cell, by its key words, and which cells a bucket has.
use Rattle.std.specs.Prelude.{option_map}
use Rattle.std.proofs.Common.{◌≡◌, ℕ, ◌+◌, ◌*◌, ◌<◌, ◌≤◌, false, length, get_or, is_some, Some, None, Option, refl, ap, ◌∙◌, arith}
use Rattle.std.proofs.lemmas.Nat.{mul-add-lt, mul-le}
use Rattle.records.specs.declared.numbers.Words.{Words}
use Rattle.rules.specs.Placements.{Placement, Lawful}
use Rattle.rules.proofs.Sounds.{not_both, same_held}
use Rattle.placing.specs.Held.{led, led_by}
use Rattle.placing.specs.Looks.{HasWords}

pub none_of : {X : Type 0} (o : Option X) → is_some o ≡ false → o ≡ None
none_of None e = refl
none_of (Some x) e = let z : ◌≡◌ {A = ℕ} 0 1 = cc in absurd (omega arith)

pub none_rest : {X : Type 0} (o : Option X) → ((x : X) → o ≡ Some x → ⊥) → o ≡ None
none_rest None h = refl
none_rest (Some x) h = absurd (h x refl)

pub unmapped_none : {R X : Type 0} (g : R → X) (c : Option R) → option_map g c ≡ None → c ≡ None
unmapped_none g None e = refl
unmapped_none g (Some r) e = cc

pub unmapped_some : {R X : Type 0} (g : R → X) (c : Option R) (x : X) → option_map g c ≡ Some x → (r : R) × (c ≡ Some r) × (g r ≡ x)
unmapped_some g None x e = cc
unmapped_some g (Some r) x e = (r, refl, cc)

-- a cell leads where the hash word of what lies in it does
pub led_by_lem : {R : Type 0} (word : R → ℕ) (g : ℕ → ℕ) (p : ℕ) (c : Option R) → led_by g p (option_map word c) ≡ led (λ r. g (word r)) p c
led_by_lem word g p None = refl
led_by_lem word g p (Some r) = refl

pub led_holds : {R : Type 0} (g : R → ℕ) (p : ℕ) (c : Option R) (r : R) → c ≡ Some r → led g p c ≡ g r
led_holds g p c r e = ap (led g p) e

pub led_below : {R : Type 0} (g : R → ℕ) (p n : ℕ) (c : Option R) → p < n → ((r : R) → g r < n) → led g p c < n
led_below g p n None h k = h
led_below g p n (Some r) h k = k r

-- what leads elsewhere is there
pub led_away : {R : Type 0} (g : R → ℕ) (p q : ℕ) (c : Option R) → led g p c ≡ q → (p ≡ q → ⊥) → (r : R) × (c ≡ Some r) × (g r ≡ q)
led_away g p q None e ne = absurd (ne e)
led_away g p q (Some r) e ne = (r, refl, e)

-- the cells of a bucket are there
pub cell_in :
    {R : Type 0} (f : Placement R) → Lawful f → (p s : ℕ) → p < f.size → s < f.cells →
    (p * f.cells + s < length f.held) × (p * f.cells + s < f.size * f.cells) × (f.size * f.cells ≤ 131072)
cell_in f law p s pl sl =
    let a = mul-add-lt p f.cells s f.size pl sl in
    let b = law.reach in
    let d = mul-le f.size f.cells 16384 8 law.few law.few_cells in
    (omega arith, omega arith, omega arith)

module _ {R : Type 0} (f : Placement R) (w : Words) (c : ℕ) where
  pub empty_has : get_or f.held c None ≡ None → HasWords f c w → ⊥
  empty_has e h = not_both (get_or f.held c None) h.0 e h.1

  pub other_has : (r : R) → get_or f.held c None ≡ Some r → (f.words r ≡ w → ⊥) → HasWords f c w → ⊥
  other_has r e ne h = ne (ap f.words (same_held (get_or f.held c None) r h.0 e h.1) ∙ h.2)
