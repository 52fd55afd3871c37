-- How many records pass a test when cells change.
use Rattle.std.specs.Prelude.{Some, None, Option}
use Rattle.std.proofs.Common.{◌≡◌, ℕ, zero, suc, ◌+◌, ◌<◌, ◌≤◌, Bool, true, cond, List, length, get_or, take, set, refl, ap, inl, inr, add-one, arith}
use Rattle.std.proofs.lemmas.List.{get_or-set_same, get_or-set_other}
use Rattle.std.proofs.lemmas.Bool.{cases_eq}
use Rattle.assignment.specs.Assign.{count}
use Rattle.rules.specs.Stored.{located}
use Rattle.rules.specs.Tables.{holding}
use Rattle.rules.proofs.Counted.{count_step}
use Rattle.rules.proofs.Locations.{count_located, weight}

module _ {R : Type 0} (p : ℕ × R → Bool) (cs : List (Option R)) (c : ℕ) (v : Option R) where
  -- a cell that is set counts from the next on
  set_past : (n : ℕ) → n ≤ c → count p (located (set cs c v) n) ≡ count p (located cs n)
  set_past zero h = refl
  set_past (suc n) h =
      let a = count_located (set cs c v) p n in
      let b = count_located cs p n in
      let e = ap (weight p n) (get_or-set_other cs c n v None (λ e. omega arith)) in
      let r = set_past n (omega arith) in
      omega arith

  -- there the new content counts in place of the old
  pub count_set :
      (n : ℕ) → c < n → c < length cs →
      count p (located (set cs c v) n) + weight p c (get_or cs c None) ≡ count p (located cs n) + weight p c v
  count_set zero h l = absurd (omega arith)
  count_set (suc n) h l =
      let a = count_located (set cs c v) p n in
      let b = count_located cs p n in
      elim (cases_eq n c) [
        | inl e ↦
            let x = ap (λ y. weight p y (get_or (set cs c v) y None)) e in
            let y = ap (weight p c) (get_or-set_same cs c v None l) in
            let z = ap (λ y. weight p y (get_or cs y None)) e in
            let r = set_past n (omega arith) in
            omega arith
        | inr ne ↦
            let x = ap (weight p n) (get_or-set_other cs c n v None ne) in
            let r = count_set n (omega arith) l in
            omega arith
      ]

-- a test of records, with no question for their cells
abbrev pub of_record : {R : Type 0} → (R → Bool) → ℕ × R → Bool
of_record p q = p q.1

-- every record counts
abbrev pub each : {R : Type 0} → ℕ × R → Bool
each q = true

weight_each : {R : Type 0} (n : ℕ) (o : Option R) → weight each n o ≡ cond (holding o) 1 0
weight_each n None = refl
weight_each n (Some r) = refl

-- the cells that hold a record are as many as the records
pub count_holding : {R : Type 0} (cs : List (Option R)) (n : ℕ) → count holding (take n cs) ≡ count each (located cs n)
count_holding cs zero = refl
count_holding cs (suc n) =
    let a = count_step holding cs n None refl in
    let b = ap (λ m. count holding (take m cs)) (add-one n) in
    let d = count_located cs each n in
    let w = weight_each n (get_or cs n None) in
    let r = count_holding cs n in
    omega arith
