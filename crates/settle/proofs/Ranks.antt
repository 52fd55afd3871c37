-- How far a bucket is from a start, along the way that the search came.
use Rattle.std.proofs.Common.{◌≡◌, ℕ, zero, suc, ◌+◌, ◌-◌, ◌*◌, ◌/◌, ◌%◌, ◌<◌, ◌≤◌, true, false, cond, eqb, ◌≢◌, List, get_or, sym, ap, ◌∙◌, subst, arith}
use Rattle.std.proofs.lemmas.Nat.{div-mul-add, mod-mul-add}
use Rattle.std.proofs.lemmas.Bool.{cond-false, cond-true, eq-eqb, ne_eqb}
use Rattle.search.specs.Nets.{Net, Back, Trail}

-- how many steps the trail from x has, if no more than f
pub rank : Net → List ℕ → ℕ → ℕ → ℕ
rank n came zero x = 0
rank n came (suc f) x = cond (eqb (get_or came x 0) 1) 0 (suc (rank n came f ((get_or came x 0 - 2) / n.cells)))

module _ (n : Net) (came : List ℕ) where
  pub rank_le : (f x : ℕ) → rank n came f x ≤ f
  unfolding rank
  rank_le zero x = omega arith
  rank_le (suc f) x =
      elim (eqb (get_or came x 0) 1) as (λ t. cond t 0 (suc (rank n came f ((get_or came x 0 - 2) / n.cells))) ≤ suc f)
      [ true ↦ omega arith | false ↦ let r = rank_le f ((get_or came x 0 - 2) / n.cells) in omega arith ]

  pub back_to : (p x : ℕ) → Back n came p x → (get_or came x 0 - 2) / n.cells ≡ p
  back_to p x b =
      let s = b.says in
      let e : get_or came x 0 - 2 ≡ p * n.cells + b.edge.slot = omega arith in
      ap (λ y. y / n.cells) e ∙ div-mul-add p n.cells b.edge.slot b.edge.slot_in

  pub back_slot : (p x : ℕ) (b : Back n came p x) → (get_or came x 0 - 2) % n.cells ≡ b.edge.slot
  back_slot p x b =
      let s = b.says in
      let e : get_or came x 0 - 2 ≡ p * n.cells + b.edge.slot = omega arith in
      ap (λ y. y % n.cells) e ∙ mod-mul-add p n.cells b.edge.slot b.edge.slot_in

  pub rank_is : (f d x : ℕ) → Trail n came d x → d ≤ f → rank n came f x ≡ d
  unfolding rank
  rank_is zero d x t l = omega arith
  rank_is (suc f) zero x t l = cond-true _ _ _ (eq-eqb _ 1 t)
  rank_is (suc f) (suc d) x (p, b, t) l =
      let s = b.says in
      cond-false _ _ _ (ne_eqb (get_or came x 0) 1 (λ e. omega arith)) ∙ ap suc (ap (rank n came f) (back_to p x b) ∙ rank_is f d p t (omega arith))

  -- the trail from a bucket that is no start: what its mark says, and what is left of the trail
  pub record Onward (x : ℕ) : Type 0 where
    pub marked : 2 ≤ get_or came x 0
    pub inside : (get_or came x 0 - 2) / n.cells < n.size
    pub slot_in : (get_or came x 0 - 2) % n.cells < n.cells
    pub choice : ℕ
    pub choice_in : choice < n.choices
    pub leads : n.next ((get_or came x 0 - 2) / n.cells) ((get_or came x 0 - 2) % n.cells) choice ≡ x
    pub left : ℕ
    pub fewer : left < n.size
    pub trail : Trail n came left ((get_or came x 0 - 2) / n.cells)
    pub one : rank n came n.size x ≡ suc (rank n came n.size ((get_or came x 0 - 2) / n.cells))
    pub falls : rank n came n.size ((get_or came x 0 - 2) / n.cells) < rank n came n.size x

  pub onward : (d x : ℕ) → d < n.size → Trail n came d x → get_or came x 0 ≢ 1 → Onward x
  onward zero x l t h = absurd (h t)
  onward (suc d) x l (p, b, t) h =
      let s = b.says in
      let e = back_to p x b in
      let m = back_slot p x b in
      let i = b.inside in
      let c = b.edge.slot_in in
      let r = rank_is n.size d p t (omega arith) in
      let r' = rank_is n.size (suc d) x (p, b, t) (omega arith) in
      let k = ap (rank n came n.size) e in
      record {
        marked = omega arith;
        inside = omega arith;
        slot_in = omega arith;
        choice = b.edge.choice;
        choice_in = b.edge.choice_in;
        leads = ap (λ y. n.next y ((get_or came x 0 - 2) % n.cells) b.edge.choice) e ∙ ap (λ y. n.next p y b.edge.choice) m ∙ b.edge.leads;
        left = d;
        fewer = omega arith;
        trail = subst (λ y. Trail n came d y) (sym e) t;
        one = omega arith;
        falls = omega arith;
      }
