-- Records that lie in another bucket after cells changed hands: those of the path, one less than its cells.
use Rattle.std.specs.Prelude.{Some, None, Option}
use Rattle.std.proofs.Common.{◌≡◌, ℕ, ◌*◌, ◌/◌, ◌<◌, Bool, true, false, not, eqb, List, [], ◌∷◌, length, get_or, sym, refl, ap, ◌∙◌, subst, inl, inr, arith}
use Rattle.std.proofs.lemmas.List.{get_or-set_other}
use Rattle.std.proofs.lemmas.Bool.{eq-eqb, ne_eqb}
use Rattle.assignment.specs.Assign.{In, count}
use Rattle.assignment.proofs.Places.{count_map}
use Rattle.rules.specs.Placements.{Placement, Lawful, Apart, Path, handed, word}
use Rattle.rules.specs.Stored.{Lying, placement_in}
use Rattle.rules.specs.Theorems.{ARouteCountsMoves}
use Rattle.rules.proofs.Amounts.{among, among_in, among_out, count_among, count_same, filled}
use Rattle.rules.proofs.Entries.{entered}
use Rattle.rules.proofs.Fulls.{lodgers}
use Rattle.rules.proofs.Handings.{apart_from, handed_off, own_used, path_used}
use Rattle.rules.proofs.Lawfuls.{lawful_placement}
use Rattle.rules.proofs.Locations.{from_located, weight}
use Rattle.rules.proofs.Origins.{Lodges, at_first}
use Rattle.rules.proofs.Owned.{in_or_not}
use Rattle.rules.proofs.Sounds.{not_both, same_state}
use Rattle.rules.proofs.Tallies.{each}

module _ {R : Type 0} (f : Placement R) (law : Lawful f) where
  -- all cells of a path but the last hold a record
  path_filled : (c : ℕ) (path : List ℕ) → Path f (c ∷ path) → filled f.held (c ∷ path) ≡ length path
  path_filled c [] low = let e = ap (weight {R = R} each c) low.empty in omega arith
  path_filled c (d ∷ path) (q, other, rest) =
      let e = ap (weight {R = R} each c) q.1 in
      let r = path_filled d path rest in
      omega arith

  -- a record on the path goes to another bucket
  abbrev Goes : ℕ → List ℕ → Option R → ℕ → R → Type 0
  Goes c path v y r =
      (z : ℕ) × In z (c ∷ path) × (get_or (handed (c ∷ path) v f.held) z None ≡ Some r) × (z / f.cells ≡ y / f.cells → ⊥)

  goes :
      (c : ℕ) (path : List ℕ) (v : Option R) → Path f (c ∷ path) → Apart f.cells (c ∷ path) →
      (y : ℕ) (r : R) → In y (c ∷ path) → get_or f.held y None ≡ Some r → Goes c path v y r
  goes c [] v low apart y r i h =
      elim i [
        | inl e ↦ absurd (not_both (get_or f.held y None) r (ap (λ z. get_or f.held z None) e ∙ low.empty) h)
        | inr j ↦ absurd j
      ]
  goes c (d ∷ path) v (q, other, rest) apart y r (inl e) h =
      let o = get_or f.held c None in
      let dl = own_used f law (word f q.0) d q.2 in (
        d,
        inr (inl refl),
        get_or-set_other (handed (d ∷ path) o f.held) c d v None (λ z. other (ap (λ x. x / f.cells) z)) ∙ at_first f law d path o dl
            ∙ ap (λ z. get_or f.held z None) (sym e) ∙ h,
        λ z. other (z ∙ ap (λ x. x / f.cells) e),
      )
  goes c (d ∷ path) v (q, other, rest) apart y r (inr i) h =
      let o = get_or f.held c None in
      let w = goes d path o rest apart.1 y r i h in (
        w.0,
        inr w.1,
        get_or-set_other (handed (d ∷ path) o f.held) c w.0 v None
            (λ z. apart_from f.cells c (d ∷ path) apart w.0 w.1 (ap (λ x. x / f.cells) z))
            ∙ w.2,
        w.3,
      )

  -- a test that passes just for the records on the path
  count_path :
      (c : ℕ) (path : List ℕ) → c < f.size * f.cells → Path f (c ∷ path) → Apart f.cells (c ∷ path) →
      (g : ℕ × R → Bool) → ((p : ℕ × R) → In p (lodgers f) → In p.0 (c ∷ path) → g p ≡ true) →
      ((p : ℕ × R) → In p (lodgers f) → (In p.0 (c ∷ path) → ⊥) → g p ≡ false) →
      count g (lodgers f) ≡ length path
  count_path c path l p apart g on off =
      let a =
      count_same g (λ (q : ℕ × R). among (c ∷ path) q.0) (lodgers f)
      (λ q i. elim (in_or_not q.0 (c ∷ path)) [
        | inl j ↦ on q i j ∙ sym (among_in (c ∷ path) q.0 j)
        | inr n ↦ off q i n ∙ sym (among_out (c ∷ path) q.0 n)
      ]) in
      let b = count_among f.held f.cells (f.size * f.cells) (c ∷ path) apart (path_used f law c path l p) in
      let e = path_filled c path p in
      omega arith

  -- a gives the key of each record in these cells its bucket
  abbrev By : {K : Type 0} → (R → K) → List (Option R) → (K → ℕ) → Type 0
  By key cs a = (x : ℕ) (q : R) → Lodges f cs x q → a (key q) ≡ x / f.cells

  -- Where a says how keys lay and b how they lie, as many keys differ as the path has cells after the first.
  count_moves :
      {K : Type 0} (key : R → K) (c : ℕ) (path : List ℕ) (v : Option R) →
      c < f.size * f.cells → Path f (c ∷ path) → Apart f.cells (c ∷ path) →
      (a b : K → ℕ) → By key f.held a → By key (handed (c ∷ path) v f.held) b →
      count (λ (p : ℕ × R). not (eqb (a (key p.1)) (b (key p.1)))) (lodgers f) ≡ length path
  count_moves key c path v l p apart a b lay lie =
      count_path c path l p apart (λ (p : ℕ × R). not (eqb (a (key p.1)) (b (key p.1))))
      (λ q i j.
      let o = from_located f.held (f.size * f.cells) q i in
      let w = goes c path v p apart q.0 q.1 j o.1 in
      let x = lay q.0 q.1 o in
      let y = lie w.0 q.1 (path_used f law c path l p w.0 w.1, w.2) in
      ap not (ne_eqb (a (key q.1)) (b (key q.1)) (λ e. w.3 (sym y ∙ sym e ∙ x))))
      (λ q i n.
      let o = from_located f.held (f.size * f.cells) q i in
      let x = lay q.0 q.1 o in
      let y = lie q.0 q.1 (o.0, handed_off (c ∷ path) v f.held q.0 n ∙ o.1) in
      ap not (eq-eqb (a (key q.1)) (b (key q.1)) (x ∙ sym y)))

pub a_route_counts_moves : {R K : Type 0} → ARouteCountsMoves R K
a_route_counts_moves {R} {K} key words hash s r first rest u sound enters a b lay lie =
    let f = placement_in key words hash s in
    let law = lawful_placement (λ q. words (key q)) hash s.size s.cells sound.reach in
    let lie' : Lying key (entered s r first rest) b =
    subst (λ t. Lying key t b) (same_state enters.size enters.count enters.cells) lie in
    count_map (λ k. not (eqb (a k) (b k))) (λ (p : ℕ × R). key p.1) (lodgers f)
    ∙ count_moves f law key first rest (Some r) (own_used f law (word f r) first enters.route.own)
    enters.route.path
    enters.route.apart
    a b
    (λ x q (l, h). lay x q (record { used = l; here = h }))
    (λ x q (l, h). lie' x q (record { used = l; here = h }))
