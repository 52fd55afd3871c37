-- Sets of full buckets: no assignment where none can be left, and no fewer moves than layers.
use Rattle.std.proofs.Common.{◌≡◌, ℕ, suc, ◌*◌, ◌/◌, ◌<◌, ◌≤◌, Bool, true, not, eqb, List, ◌∷◌, map, sym, subst, arith}
use Rattle.assignment.specs.Assign.{In, Assigns, Held, Inside, load, moves}
use Rattle.assignment.proofs.Counts.{count_le}
use Rattle.assignment.proofs.Leaks.{fewest_moves, no_path_no_assignment}
use Rattle.assignment.proofs.Places.{along, count_map, in_map}
use Rattle.rules.specs.Placements.{Placement, Lawful, owns, vacant, word}
use Rattle.rules.specs.Reach.{Blocked, Layers}
use Rattle.rules.specs.Stored.{located, placement_in}
use Rattle.rules.specs.Tables.{used_in}
use Rattle.rules.specs.Theorems.{BlockedIsFull, LayersAreFewest}
use Rattle.rules.proofs.Lawfuls.{lawful_placement}
use Rattle.rules.proofs.Locations.{from_located, lodged_vacant}
use Rattle.rules.proofs.Owned.{own_from}

-- what assigns the keys of some things assigns the things
assigns_along :
    {J K : Type 0} (key : J → K) (own : K → List ℕ) (cap : ℕ → ℕ) (js : List J) (g : K → ℕ) →
    Assigns own cap (map key js) g → Assigns (λ j. own (key j)) cap js (λ j. g (key j))
assigns_along key own cap js g a = record {
  owned = λ j h. a.owned (key j) (in_map key j js h);
  fits = λ b. omega (arith, count_map (λ k. eqb (g k) b) key js, a.fits b);
}

module _ {R : Type 0} (f : Placement R) where
  inside_own : (set : ℕ → Bool) (v : ℕ) → ((i : ℕ) → i < f.choices → set (f.lies v i) ≡ true) → Inside set (owns f v)
  inside_own set v h b j = let o = own_from f v b j in subst (λ y. set y ≡ true) o.2 (h o.0 o.1)

  -- the records of the used cells
  abbrev pub lodgers : List (ℕ × R)
  lodgers = located f.held (f.size * f.cells)

  -- the bucket of one of them
  abbrev lodging : ℕ × R → ℕ
  lodging p = p.0 / f.cells

  abbrev own_of : ℕ × R → List ℕ
  own_of p = owns f (word f p.1)

  module _ (law : Lawful f) where
    full_load : (b : ℕ) → b < f.size → vacant f b ≡ 0 → load lodging lodgers b ≡ f.cells
    full_load b l v = let x = lodged_vacant f.held f.cells law.some_cells f.size b l in omega arith

    blocked : (r : R) → Blocked f (word f r) → Held own_of (λ _. f.cells) ((0, r) ∷ lodgers) → ⊥
    blocked r b =
        no_path_no_assignment own_of (λ _. f.cells) lodgers (0, r) lodging b.set
        (λ p e. let o = b.full p e in full_load p o.0 o.1)
        (λ p h e. inside_own b.set (word f p.1) (b.shut p.0 p.1 e (from_located f.held (f.size * f.cells) p h).1))
        (inside_own b.set (word f r) b.first)

    fewest :
        (r : R) (m : ℕ) → Layers f (word f r) m → (g : ℕ × R → ℕ) → Assigns own_of (λ _. f.cells) ((0, r) ∷ lodgers) g →
        m ≤ moves lodging g lodgers
    fewest r m b g =
        fewest_moves own_of (λ _. f.cells) lodgers (0, r) lodging g b.set m
        (record {
          first = inside_own (b.set 0) (word f r) b.first;
          grows = λ i p l e. b.grows i p l e;
          next =
              λ i l p h e.
              inside_own (b.set (suc i)) (word f p.1)
              (b.next i l p.0 p.1 e (from_located f.held (f.size * f.cells) p h).1);
          full = λ i l p e. let o = b.full i l p e in full_load p o.0 o.1;
        })

pub blocked_is_full : {R K : Type 0} → BlockedIsFull R K
blocked_is_full {R} {K} key words hash s reach r b held =
    let f = placement_in key words hash s in
    blocked f (lawful_placement (λ r. words (key r)) hash s.size s.cells reach) r b
    (along (λ (p : ℕ × R). key p.1) (λ k. owns f (hash (words k))) (λ _. f.cells) ((0, r) ∷ lodgers f) held)

-- moves of keys as moves of records, where a says how these lie
moves_along :
    {J K : Type 0} (key : J → K) (js : List J) (a b : K → ℕ) (c : J → ℕ) → ((j : J) → In j js → a (key j) ≡ c j) →
    moves c (λ j. b (key j)) js ≤ moves a b (map key js)
moves_along key js a b c h =
    let e = count_map (λ k. not (eqb (a k) (b k))) key js in
    let l =
    count_le (λ j. not (eqb (c j) (b (key j)))) (λ j. not (eqb (a (key j)) (b (key j)))) js
    (λ j i t. subst (λ y. not (eqb y (b (key j))) ≡ true) (sym (h j i)) t) in
    omega arith

pub layers_are_fewest : {R K : Type 0} → LayersAreFewest R K
layers_are_fewest {R} {K} key words hash s reach r m b a g lies new =
    let f = placement_in key words hash s in
    let k : ℕ × R → K = λ p. key p.1 in
    let least =
    fewest f (lawful_placement (λ r. words (key r)) hash s.size s.cells reach) r m b (λ p. g (k p))
    (assigns_along k (λ k. owns f (hash (words k))) (λ _. f.cells) ((0, r) ∷ lodgers f) g new) in
    let most =
    moves_along k (lodgers f) a g (lodging f)
    (λ p i. let o = from_located s.cells (used_in s.size) p i in lies p.0 p.1 (record { used = o.0; here = o.1 })) in
    omega arith
