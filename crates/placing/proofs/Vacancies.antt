-- Counting the empty cells of a bucket, one cell at a time, while looking for a key.
use Rattle.std.specs.Prelude.{Option}
use Rattle.std.proofs.Common.{◌≡◌, ℕ, zero, suc, ◌+◌, ◌*◌, ◌%◌, ◌<◌, ◌≤◌, cond, eqb, List, get_or, Some, None, sym, refl, ap, ◌∙◌, subst, inl, inr, ⊎_elim, add-one, arith, below_more}
use Rattle.std.proofs.lemmas.Option.{same_Some}
use Rattle.std.proofs.lemmas.Nat.{div-mul-add, div-add-mod'}
use Rattle.std.proofs.lemmas.Bool.{cases_eq, cases_lt, cond-false, cond-true, eq-eqb, ne_eqb}
use Rattle.records.specs.declared.numbers.Words.{Words}
use Rattle.rules.specs.Placements.{Placement, Lawful, LowestEmpty, blank, vacant_in}
use Rattle.rules.proofs.Sounds.{not_both}
use Rattle.placing.specs.declared.looks.Gap.{Gap}
use Rattle.placing.specs.Looks.{Gapped, HasWords, Looked, Roomy}
use Rattle.placing.proofs.Contents.{cell_in, empty_has, other_has}

module _ {R : Type 0} (cs : List (Option R)) (b : ℕ) where
  pub vacant_empty : (n v : ℕ) → v ≡ vacant_in cs b n → get_or cs (b + n) None ≡ None → v + 1 ≡ vacant_in cs b (n + 1)
  vacant_empty n v e h = let k = ap blank h in let m = ap (vacant_in cs b) (add-one n) in omega arith

  pub vacant_holds : (n v : ℕ) (r : R) → v ≡ vacant_in cs b n → get_or cs (b + n) None ≡ Some r → v ≡ vacant_in cs b (n + 1)
  vacant_holds n v r e h = let k = ap blank h in let m = ap (vacant_in cs b) (add-one n) in omega arith

  -- where no cell is empty, none is counted
  pub vacant_none : (n : ℕ) → ((s : ℕ) → s < n → get_or cs (b + s) None ≡ None → ⊥) → vacant_in cs b n ≡ 0
  vacant_none zero h = refl
  vacant_none (suc n) h =
      let r = vacant_none n (λ s sl. h s (omega arith)) in
      let k : blank (get_or cs (b + n) None) ≡ 0 = full (get_or cs (b + n) None) (h n (omega arith)) in
      omega arith
    where
      full : (c : Option R) → (c ≡ None → ⊥) → blank c ≡ 0
      full None h = absurd (h refl)
      full (Some r) h = refl

  -- where one is, some are
  pub vacant_some : (n s : ℕ) → s < n → get_or cs (b + s) None ≡ None → 0 < vacant_in cs b n
  vacant_some zero s l e = absurd (omega arith)
  vacant_some (suc n) s l e =
      ⊎_elim
      (λ k. let r = vacant_some n s k e in omega arith)
      (λ k. let i : s ≡ n = omega arith in let h = ap blank (ap (λ j. get_or cs (b + j) None) (sym i) ∙ e) in omega arith)
      (cases_lt s n)

-- an empty cell of a bucket with none before it is the lowest
pub lowest_at :
    {R : Type 0} (f : Placement R) (p s : ℕ) → s < f.cells → get_or f.held (p * f.cells + s) None ≡ None →
    ((t : ℕ) → t < s → get_or f.held (p * f.cells + t) None ≡ None → ⊥) → LowestEmpty f p (p * f.cells + s)
lowest_at f p s sl e low = record {
  within = div-mul-add p f.cells s sl;
  empty = e;
  lowest = λ b bl bp be.
      let d = div-add-mod' b f.cells in
      let k : p * f.cells + b % f.cells ≡ b = ap (λ y. y * f.cells + b % f.cells) (sym bp) ∙ d in
      low (b % f.cells) (omega arith) (ap (λ y. get_or f.held y None) k ∙ be);
}

-- the lowest empty cell among the first n of bucket p
pub record Lowest {R : Type 0} (f : Placement R) (p n cell : ℕ) : Type 0 where
  pub slot : ℕ
  pub below : slot < n
  pub is : cell ≡ p * f.cells + slot
  pub empty : get_or f.held (p * f.cells + slot) None ≡ None
  pub first : (t : ℕ) → t < slot → get_or f.held (p * f.cells + t) None ≡ None → ⊥

-- the first n cells of bucket p, looked at for a key: none has it, so many are empty, and the lowest of these
pub record Looking {R : Type 0} (f : Placement R) (p : ℕ) (w : Words) (n count cell : ℕ) : Type 0 where
  pub counted : count ≡ vacant_in f.held (p * f.cells) n
  pub few : count ≤ n
  pub absent : (s : ℕ) → s < n → HasWords f (p * f.cells + s) w → ⊥
  pub lowest : 0 < count → Lowest f p n cell
  pub none : count ≡ 0 → (t : ℕ) → t < n → get_or f.held (p * f.cells + t) None ≡ None → ⊥

module _ {R : Type 0} (f : Placement R) (p : ℕ) (w : Words) where
  module _ (n count cell : ℕ) (k : Looking f p w n count cell) where
    onward : 0 < count → Lowest f p (n + 1) cell
    onward l = let m = k.lowest l in let b = m.below in record { slot = m.slot; below = omega arith; is = m.is; empty = m.empty; first = m.first }

    pub looking_held : (r : R) → get_or f.held (p * f.cells + n) None ≡ Some r → (f.words r ≡ w → ⊥) → Looking f p w (n + 1) count cell
    looking_held r e ne = record {
      counted = vacant_holds f.held (p * f.cells) n count r k.counted e;
      few = let l = k.few in omega arith;
      absent = below_more _ n k.absent (other_has f w (p * f.cells + n) r e ne);
      lowest = onward;
      none = λ z. below_more _ n (k.none z) (λ h. not_both _ r h e);
    }

    pub looking_empty : (count' cell' : ℕ) → count' ≡ count + 1 → cell' ≡ cond (eqb count 0) (p * f.cells + n) cell → get_or f.held (p * f.cells + n) None ≡ None → Looking f p w (n + 1) count' cell'
    looking_empty count' cell' c d e = record {
      counted = c ∙ vacant_empty f.held (p * f.cells) n count k.counted e;
      few = let l = k.few in omega arith;
      absent = below_more _ n k.absent (empty_has f w (p * f.cells + n) e);
      lowest = λ l.
          elim (cases_eq count 0) [
            | inl z ↦ record { slot = n; below = omega arith; is = d ∙ cond-true (eqb count 0) (p * f.cells + n) cell (eq-eqb count 0 z); empty = e; first = k.none z }
            | inr ne ↦
                let m = onward (positive count ne) in
                record { slot = m.slot; below = m.below; is = d ∙ cond-false (eqb count 0) (p * f.cells + n) cell (ne_eqb count 0 ne) ∙ m.is; empty = m.empty; first = m.first }
          ];
      none = λ y. absurd (omega arith);
    }
      where
        positive : (c : ℕ) → (c ≡ 0 → ⊥) → 0 < c
        positive zero h = absurd (h refl)
        positive (suc c) h = omega arith

  pub looked_lowest : (count cell : ℕ) → Looking f p w f.cells count cell → 0 < count → LowestEmpty f p cell
  looked_lowest count cell k l =
      let m = k.lowest l in
      subst (LowestEmpty f p) (sym m.is) (lowest_at f p m.slot m.below m.empty m.first)

  -- of two equal gaps
  pub looking_gap : (n : ℕ) (a b : Gap) → a ≡ b → Looking f p w n b.count b.cell → Looking f p w n a.count a.cell
  looking_gap n a b e k = subst (λ (x : Gap). Looking f p w n x.count x.cell) (sym e) k

  -- the whole bucket
  pub looked : (g : Gap) → Looking f p w f.cells g.count g.cell → Looked f p w (Some g)
  looked g k = record {
    there = λ e. cc;
    gapped = λ x e.
        subst (Gapped f p) (same_Some g x e) (record { count = k.counted; lowest = looked_lowest g.count g.cell k });
    absent = λ x e. k.absent;
  }

module _ {R : Type 0} (f : Placement R) where
  -- the first empty cell of a bucket
  pub roomy :
      Lawful f → (p : ℕ) → p < f.size → (s : ℕ) → s < f.cells → get_or f.held (p * f.cells + s) None ≡ None →
      ((t : ℕ) → t < s → get_or f.held (p * f.cells + t) None ≡ None → ⊥) → Roomy f p (Some (p * f.cells + s))
  roomy law p pl s sl e low = record {
    full = λ k. cc;
    room = λ c k. subst (LowestEmpty f p) (same_Some _ c k) (lowest_at f p s sl e low);
    some = λ c k. vacant_some f.held (p * f.cells) f.cells s sl e;
    below = λ c k. subst (λ x. x < f.size * f.cells) (same_Some _ c k) (cell_in f law p s pl sl).1;
  }

  -- no empty cell in a bucket
  pub full : (p : ℕ) → ((t : ℕ) → t < f.cells → get_or f.held (p * f.cells + t) None ≡ None → ⊥) → Roomy f p None
  full p h = record {
    full = λ k. vacant_none f.held (p * f.cells) f.cells h;
    room = λ c k. cc;
    some = λ c k. cc;
    below = λ c k. cc;
  }
