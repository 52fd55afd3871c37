-- Cells that change hands along a path: which they are, what stays, and how the count of records grows.
use Rattle.std.specs.Prelude.{Some, None, Option}
use Rattle.std.proofs.Common.{◌≡◌, ℕ, suc, ◌+◌, ◌*◌, ◌/◌, ◌%◌, ◌<◌, Bool, List, [], ◌∷◌, length, get_or, sym, refl, ap, ◌∙◌, subst, inl, inr, arith}
use Rattle.std.proofs.lemmas.Nat.{div-add-mod', mod_below, mul-add-lt}
use Rattle.std.proofs.lemmas.List.{get_or-set_other, length-set}
use Rattle.assignment.specs.Assign.{In, count}
use Rattle.rules.specs.Placements.{Placement, Lawful, Apart, Own, Path, handed, word}
use Rattle.rules.specs.Stored.{located}
use Rattle.rules.proofs.Locations.{weight}
use Rattle.rules.proofs.Tallies.{count_set, of_record}

pub handed_length : {R : Type 0} (path : List ℕ) (v : Option R) (cs : List (Option R)) → length (handed path v cs) ≡ length cs
handed_length [] v cs = refl
handed_length (c ∷ path) v cs = length-set (handed path (get_or cs c None) cs) c v ∙ handed_length path (get_or cs c None) cs

-- a cell that is not on the path stays
pub handed_off :
    {R : Type 0} (path : List ℕ) (v : Option R) (cs : List (Option R)) (x : ℕ) → (In x path → ⊥) →
    get_or (handed path v cs) x None ≡ get_or cs x None
handed_off [] v cs x out = refl
handed_off (c ∷ path) v cs x out =
    get_or-set_other (handed path (get_or cs c None) cs) c x v None (λ e. out (inl e))
    ∙ handed_off path (get_or cs c None) cs x (λ i. out (inr i))

-- a member of a list stands at some place of it
pub in_place : (x : ℕ) (xs : List ℕ) → In x xs → (n : ℕ) × (n < length xs) × (get_or xs n 0 ≡ x)
in_place x [] i = absurd i
in_place x (y ∷ xs) (inl e) = (0, omega arith, sym e)
in_place x (y ∷ xs) (inr i) = let r = in_place x xs i in let l = r.1 in (suc r.0, omega arith, r.2)

-- no later cell lies in the bucket of the first, so that none is it
pub apart_from : (B c : ℕ) (path : List ℕ) → Apart B (c ∷ path) → (x : ℕ) → In x path → x / B ≡ c / B → ⊥
apart_from B c path apart x i e = let r = in_place x path i in apart.0 r.0 r.1 (ap (λ y. y / B) r.2 ∙ e)

pub not_again : (B c : ℕ) (path : List ℕ) → Apart B (c ∷ path) → In c path → ⊥
not_again B c path apart i = apart_from B c path apart c i refl

module _ {R : Type 0} (f : Placement R) (law : Lawful f) where
  used : (c : ℕ) → c / f.cells < f.size → c < f.size * f.cells
  used c l =
      let b = law.some_cells in
      let m = mul-add-lt (c / f.cells) f.cells (c % f.cells) f.size l (mod_below c f.cells (omega arith)) in
      let d = div-add-mod' c f.cells in
      omega arith

  pub own_used : (v c : ℕ) → Own f v (c / f.cells) → c < f.size * f.cells
  own_used v c (i, l, e) = used c (subst (λ y. y < f.size) e (law.inside v i l))

  -- all cells of a path are in use
  pub path_used :
      (c : ℕ) (path : List ℕ) → c < f.size * f.cells → Path f (c ∷ path) → (x : ℕ) → In x (c ∷ path) → x < f.size * f.cells
  path_used c [] l p x i = elim i [ inl e ↦ subst (λ y. y < f.size * f.cells) (sym e) l | inr j ↦ absurd j ]
  path_used c (d ∷ path) l (q, apart, p) x (inl e) = subst (λ y. y < f.size * f.cells) (sym e) l
  path_used c (d ∷ path) l (q, apart, p) x (inr i) = path_used d path (own_used (word f q.0) d q.2) p x i

  pub stored_at : (c : ℕ) → c < f.size * f.cells → c < length f.held
  stored_at c l = let r = law.reach in omega arith

  anywhere : (p : R → Bool) (c : ℕ) (o : Option R) → weight (of_record p) c o ≡ weight (of_record p) 0 o
  anywhere p c None = refl
  anywhere p c (Some r) = refl

  -- The count of records that pass a test, which does not ask for their cells, grows by the new content.
  pub count_handed :
      (p : R → Bool) (c : ℕ) (path : List ℕ) (v : Option R) → c < f.size * f.cells → Path f (c ∷ path) → Apart f.cells (c ∷ path) →
      count (of_record p) (located (handed (c ∷ path) v f.held) (f.size * f.cells))
      ≡ count (of_record p) (located f.held (f.size * f.cells)) + weight (of_record p) 0 v
  count_handed p c [] v l low apart =
      let e = ap (weight (of_record p) c) low.empty in
      let x = count_set (of_record p) f.held c v (f.size * f.cells) l (stored_at c l) in
      let w = anywhere p c v in
      omega arith
  count_handed p c (d ∷ path) v l (q, other, rest) apart =
      let o = get_or f.held c None in
      let after = handed (d ∷ path) o f.held in
      let k = handed_length (d ∷ path) o f.held in
      let s = stored_at c l in
      let x = count_set (of_record p) after c v (f.size * f.cells) l (omega arith) in
      let e = ap (weight (of_record p) c) (handed_off (d ∷ path) o f.held c (not_again f.cells c (d ∷ path) apart)) in
      let r = count_handed p d path o (own_used (word f q.0) d q.2) rest apart.1 in
      let w = anywhere p c v in
      let y = anywhere p c o in
      omega arith
