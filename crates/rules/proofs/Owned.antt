-- A key's own buckets, one choice at a time.
use Rattle.std.proofs.Common.{◌≡◌, ℕ, zero, suc, ◌+◌, ◌*◌, ◌/◌, ◌%◌, ◌^◌, ◌<◌, ◌≤◌, ◌⊎◌, List, [], ◌∷◌, map, sym, ap, subst, inl, inr, ⊎_elim, arith}
use Rattle.std.specs.List.{range_with_len}
use Rattle.std.proofs.lemmas.Nat.{mod_below}
use Rattle.std.proofs.lemmas.Bool.{cases_eq}
use Rattle.records.specs.declared.numbers.Words.{Words}
use Rattle.addresses.specs.declared.sizes.Size.{Size}
use Rattle.addresses.specs.Positions.{choice_of}
use Rattle.addresses.proofs.Steps.{choices_lie_below}
use Rattle.assignment.specs.Assign.{In}
use Rattle.rules.specs.Placements.{Placement, Own, owns}
use Rattle.rules.specs.Tables.{choice_at, own_buckets}
use Rattle.rules.specs.Theorems.{OwnBucketsLieBelow}

-- the values of a function from a to a + n
from_map : (f : ℕ → ℕ) (a n p : ℕ) → In p (map f (range_with_len a n)) → (i : ℕ) × (a ≤ i) × (i < a + n) × (p ≡ f i)
from_map f a zero p h = absurd h
from_map f a (suc n) p h =
    elim h [
      | inl e ↦ (a, omega arith, omega arith, e)
      | inr t ↦ let r = from_map f (a + 1) n p t in let l = r.1 in let u = r.2 in (r.0, omega arith, omega arith, r.3)
    ]

to_map : (f : ℕ → ℕ) (a n i : ℕ) → a ≤ i → i < a + n → In (f i) (map f (range_with_len a n))
to_map f a zero i l h = absurd (omega arith)
to_map f a (suc n) i l h =
    elim (cases_eq i a) [
      | inl e ↦ inl (ap f e)
      | inr ne ↦ inr (to_map f (a + 1) n i (omega arith) (omega arith))
    ]

module _ (hash : Words → ℕ) (z : Size) (w : Words) where
  -- an own bucket is that of a choice
  pub choice_of_lem : (p : ℕ) → In p (own_buckets hash z w) → (i : ℕ) × (i < z.settings.choices) × (p ≡ choice_at hash z w i)
  choice_of_lem p h = let r = from_map (choice_at hash z w) 0 z.settings.choices p h in let u = r.2 in (r.0, omega arith, r.3)

  pub own_choice : (i : ℕ) → i < z.settings.choices → In (choice_at hash z w i) (own_buckets hash z w)
  own_choice i h = to_map (choice_at hash z w) 0 z.settings.choices i (omega arith) (omega arith)

pub own_buckets_lie_below : OwnBucketsLieBelow
own_buckets_lie_below hash z w p h =
    let r = choice_of_lem hash z w p h in
    let e = r.2 in
    let c = choices_lie_below z (choice_of (hash w) r.0) (mod_below (hash w / 2 ^ 32 + r.0 * (hash w % 2 ^ 32)) (2 ^ 32) (omega arith)) in
    omega arith

-- an own bucket of a placement is one of the list, and the other way round
module _ {R : Type 0} (f : Placement R) where
  pub own_from : (v p : ℕ) → In p (owns f v) → Own f v p
  own_from v p h = let r = from_map (f.lies v) 0 f.choices p h in let u = r.2 in (r.0, omega arith, sym r.3)

  pub own_in : (v p : ℕ) → Own f v p → In p (owns f v)
  own_in v p (i, l, e) = subst (λ y. In y (owns f v)) e (to_map (f.lies v) 0 f.choices i (omega arith) (omega arith))

-- a number is in a list or not
pub in_or_not : (p : ℕ) (xs : List ℕ) → In p xs ⊎ (In p xs → ⊥)
in_or_not p [] = inr (λ h. h)
in_or_not p (x ∷ xs) =
    elim (cases_eq p x) [
      | inl e ↦ inl (inl e)
      | inr ne ↦ elim (in_or_not p xs) [ inl h ↦ inl (inr h) | inr n ↦ inr (⊎_elim ne n) ]
    ]
