-- Where the records came from that lie in cells after some changed hands.
use Rattle.std.specs.Prelude.{Some, None, Option}
use Rattle.std.proofs.Common.{◌≡◌, ℕ, ◌*◌, ◌/◌, ◌<◌, ◌≢◌, ◌⊎◌, List, [], ◌∷◌, get_or, sym, refl, ap, ◌∙◌, subst, inl, inr, ⊎_elim, arith}
use Rattle.std.proofs.lemmas.List.{get_or-set_same, get_or-set_other}
use Rattle.std.proofs.lemmas.Bool.{cases_eq}
use Rattle.assignment.specs.Assign.{In}
use Rattle.rules.specs.Placements.{Placement, Lawful, Apart, Own, Path, handed, word}
use Rattle.rules.proofs.Handings.{apart_from, handed_length, own_used, stored_at}
use Rattle.rules.proofs.Sounds.{same_held}

-- what lies in x after the cells of c ∷ path changed hands lay in y before
abbrev pub From : ℕ → List ℕ → ℕ → ℕ → Type 0
From c [] x y = x ≡ y
From c (d ∷ path) x y = ((x ≡ d) × (y ≡ c)) ⊎ ((x ≢ d) × From d path x y)

from_where : (c : ℕ) (path : List ℕ) (x y : ℕ) → From c path x y → (x ≡ y) ⊎ In y (c ∷ path)
from_where c [] x y e = inl e
from_where c (d ∷ path) x y (inl (a, b)) = inr (inl b)
from_where c (d ∷ path) x y (inr (n, h)) = ⊎_elim (λ e. inl e) (λ i. inr (inr i)) (from_where d path x y h)

-- no two cells have what lay in one
pub once_from :
    (B c : ℕ) (path : List ℕ) → Apart B (c ∷ path) → (x x' y : ℕ) → x ≢ c → x' ≢ c →
    From c path x y → From c path x' y → x ≡ x'
once_from B c [] apart x x' y nx nx' p q = p ∙ sym q
once_from B c (d ∷ path) apart x x' y nx nx' (inl (a, b)) (inl (a', b')) = a ∙ sym a'
once_from B c (d ∷ path) apart x x' y nx nx' (inl (a, b)) (inr (n, q)) =
    absurd (⊎_elim (λ e. nx' (e ∙ b)) (λ i. apart_from B c (d ∷ path) apart y i (ap (λ z. z / B) b)) (from_where d path x' y q))
once_from B c (d ∷ path) apart x x' y nx nx' (inr (n, p)) (inl (a', b')) =
    absurd (⊎_elim (λ e. nx (e ∙ b')) (λ i. apart_from B c (d ∷ path) apart y i (ap (λ z. z / B) b')) (from_where d path x y p))
once_from B c (d ∷ path) apart x x' y nx nx' (inr (n, p)) (inr (n', q)) = once_from B d path apart.1 x x' y n n' p q

-- a used cell, of these cells, holds a record
abbrev pub Lodges : {R : Type 0} → Placement R → List (Option R) → ℕ → R → Type 0
Lodges f cs c r = (c < f.size * f.cells) × (get_or cs c None ≡ Some r)

-- every record lies in an own bucket
abbrev pub AtHome : {R : Type 0} → Placement R → Type 0
AtHome {R} f = (c : ℕ) (r : R) → Lodges f f.held c r → Own f (word f r) (c / f.cells)

-- what lies in x lay in a used cell, and lies in an own bucket
pub record Came {R : Type 0} (f : Placement R) (c : ℕ) (path : List ℕ) (x : ℕ) (r : R) : Type 0 where
  pub cell : ℕ
  pub from : From c path x cell
  pub lay : Lodges f f.held cell r
  pub own : Own f (word f r) (x / f.cells)

module _ {R : Type 0} (f : Placement R) (law : Lawful f) where
  -- what was given to the first cell lies there
  pub at_first : (c : ℕ) (path : List ℕ) (v : Option R) → c < f.size * f.cells → get_or (handed (c ∷ path) v f.held) c None ≡ v
  at_first c path v l =
      let o = get_or f.held c None in
      let k = handed_length path o f.held in
      let s = stored_at f law c l in
      get_or-set_same (handed path o f.held) c v None (omega arith)

  -- each record but the one in the first cell stayed, or it came to an own bucket
  pub came :
      AtHome f → (c : ℕ) (path : List ℕ) (v : Option R) → c < f.size * f.cells → Path f (c ∷ path) → (x : ℕ) (r : R) → x ≢ c →
      Lodges f (handed (c ∷ path) v f.held) x r → Came f c path x r
  came home c [] v l p x r ne (xl, h) =
      let g = sym (get_or-set_other f.held c x v None ne) ∙ h in
      record { cell = x; from = refl; lay = (xl, g); own = home x r (xl, g) }
  came home c (d ∷ path) v l (q, other, p) x r ne (xl, h) =
      let o = get_or f.held c None in
      let dl : d < f.size * f.cells = own_used f law (word f q.0) d q.2 in
      let g = sym (get_or-set_other (handed (d ∷ path) o f.held) c x v None ne) ∙ h in
      elim (cases_eq x d) [
        | inl e ↦
            let k = sym (at_first d path o dl) ∙ ap (λ z. get_or (handed (d ∷ path) o f.held) z None) (sym e) ∙ g in
            record {
              cell = c;
              from = inl (e, refl);
              lay = (l, k);
              own =
                  subst (λ z. Own f (word f r) (z / f.cells)) (sym e)
                  (subst (λ t. Own f (word f t) (d / f.cells)) (same_held o q.0 r q.1 k) q.2);
            }
        | inr nd ↦
            let t = came home d path o dl p x r nd (xl, g) in
            record { cell = t.cell; from = inr (nd, t.from); lay = t.lay; own = t.own }
      ]
