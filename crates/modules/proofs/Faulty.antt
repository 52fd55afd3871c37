-- Faults of cells, from what the tests say.
use Rattle.std.specs.Prelude.{Some, None, Option, is_some}
use Rattle.std.proofs.Common.{◌≡◌, ℕ, ◌+◌, ◌/◌, ◌<◌, ◌≤◌, Bool, true, false, ◌≢◌, get_or, sym, refl, ap, ◌∙◌, subst, inl, inr, ⊎_elim, arith}
use Rattle.std.proofs.lemmas.Bool.{cases_lt, both_ways}
use Rattle.records.specs.declared.declines.Decline.TheVariants.{WrongCount}
use Rattle.records.specs.declared.numbers.Words.{Words}
use Rattle.records.specs.Declines.{number}
use Rattle.assignment.specs.Assign.{In}
use Rattle.rules.specs.Tables.{State, HoldsAt, choice_at, holding, own_buckets, records, used_in}
use Rattle.rules.proofs.Owned.{choice_of_lem, in_or_not}
use Rattle.rules.proofs.Sounds.{same_held}
use Rattle.lookup.proofs.Seeks.{none_there}
use Rattle.modules.specs.declared.faults.Fault.{Fault}
use Rattle.modules.specs.Checks.{Misplaced, Repeated, Fine, FaultIs, AllFine, Named}
use Rattle.lookup.specs.Finds.{Meets, Match, NoMatch}

-- a cell holds a record where it is not empty
pub holding_some : {R : Type 0} (v : Option R) → holding v ≡ is_some v
holding_some None = refl
holding_some (Some r) = refl

module _ {R K : Type 0} (law : ℕ → Bool) (key : R → K) (words : K → Words) (hash : Words → ℕ) (s : State R) (k : ℕ) where
  pub fine : law k ≡ true → (Misplaced law key words hash s k → ⊥) → (Repeated law key words hash s k → ⊥) → Fine law key words hash s k
  fine l m r = inr (λ f. both_ways (law k) f l, inr (m, inr (r, refl)))

  pub unlawful : law k ≡ false → FaultIs law key words hash s k 15
  unlawful l = (inl (l, refl), λ z. omega arith)

  pub repeated : law k ≡ true → (Misplaced law key words hash s k → ⊥) → Repeated law key words hash s k → FaultIs law key words hash s k 17
  repeated l m r = (inr (λ f. both_ways (law k) f l, inr (m, inl (r, refl))), λ z. omega arith)

  pub placed_of : Fine law key words hash s k → Misplaced law key words hash s k → ⊥
  placed_of (inl f) m = omega (arith, f.1)
  placed_of (inr (_, inl f)) m = omega (arith, f.1)
  placed_of (inr (_, inr f)) m = f.0 m

  pub alone_of : Fine law key words hash s k → Repeated law key words hash s k → ⊥
  alone_of (inl f) m = omega (arith, f.1)
  alone_of (inr (_, inl f)) m = omega (arith, f.1)
  alone_of (inr (_, inr (_, inl f))) m = omega (arith, f.1)
  alone_of (inr (_, inr (_, inr f))) m = f.0 m

  -- a fine cell's record lies in an own bucket
  pub home_of : Fine law key words hash s k → (r : R) → HoldsAt s k r → In (k / s.size.settings.cells) (own_buckets hash s.size (words (key r)))
  home_of f r h =
      elim (in_or_not (k / s.size.settings.cells) (own_buckets hash s.size (words (key r)))) [ inl own ↦ own | inr out ↦ absurd (placed_of f (r, h, out)) ]

  -- a cell that holds r in use
  module _ (r : R) (h : HoldsAt s k r) where
    pub own_placed : In (k / s.size.settings.cells) (own_buckets hash s.size (words (key r))) → Misplaced law key words hash s k → ⊥
    own_placed own m =
        m.2 (subst (λ x. In (k / s.size.settings.cells) (own_buckets hash s.size (words (key x)))) (same_held (get_or s.cells k None) r m.0 h.here m.1.here) own)

-- an earlier cell with the key of a cell's record lies in the key's own buckets, since that cell is fine
pub none_alone :
    {R K : Type 0} (law : ℕ → Bool) (key : R → K) (words : K → Words) (hash : Words → ℕ) (s : State R) (k : ℕ) (r : R) → HoldsAt s k r →
    0 < s.size.settings.cells → AllFine law key words hash s k →
    NoMatch (Match (λ x. words (key x)) s.cells (words (key r)) k) (choice_at hash s.size (words (key r))) s.size.settings.choices s.size.settings.cells →
    Repeated law key words hash s k → ⊥
none_alone law key words hash s k r h some below none m =
    let B = s.size.settings.cells in
    let e : m.0 ≡ r = same_held (get_or s.cells k None) m.0 r m.1.here h.here in
    let j = m.2.0 in
    let q = m.2.1 in
    let lt = m.2.2 in
    let at = m.2.3 in
    let same : words (key q) ≡ words (key r) = ap words m.2.4 ∙ ap (λ x. words (key x)) e in
    let own = choice_of_lem hash s.size (words (key q)) (j / B) (home_of law key words hash s j (below j lt) q at) in
    let p : choice_at hash s.size (words (key r)) own.0 ≡ j / B = ap (λ w. choice_at hash s.size w own.0) (sym same) ∙ sym own.2 in
    none_there _ (choice_at hash s.size (words (key r))) s.size.settings.choices B some none own.0 j own.1 p (lt, (q, record { here = at.here; same = same }))

module _ {R K : Type 0} (law : ℕ → Bool) (key : R → K) (words : K → Words) (hash : Words → ℕ) (s : State R) where
  pub all_more : (i : ℕ) → AllFine law key words hash s i → Fine law key words hash s i → AllFine law key words hash s (i + 1)
  all_more i f here k h =
      ⊎_elim (λ (z : k < i). f k z) (λ (z : i ≤ k). let e : i ≡ k = omega arith in subst (λ j. Fine law key words hash s j) e here) (cases_lt k i)

  pub all_end : (i n : ℕ) → AllFine law key words hash s i → n ≤ i → AllFine law key words hash s n
  all_end i n f h k l = f k (omega arith)

-- what the search for a second record says of a cell that holds r, where w are the words of its key
-- all cells are fine, and the count is wrong
pub wrong_count :
    {R K : Type 0} (law : ℕ → Bool) (key : R → K) (words : K → Words) (hash : Words → ℕ) (s : State R) (f : Fault) → f.decline ≡ WrongCount → f.cell ≡ None →
    AllFine law key words hash s (used_in s.size) → (records s ≢ s.count) → Named law key words hash s f.cell (number f.decline)
wrong_count law key words hash s f d n fine wrong =
    subst (λ c. Named law key words hash s c (number f.decline)) (sym n) (ap number d, fine, wrong)

module _ {R K : Type 0} (law : ℕ → Bool) (key : R → K) (words : K → Words) (hash : Words → ℕ) (s : State R) (k : ℕ) (r : R) (h : HoldsAt s k r)
    (w : Words) (is : w ≡ words (key r)) (l : law k ≡ true) (own : In (k / s.size.settings.cells) (own_buckets hash s.size w)) where
  placed : Misplaced law key words hash s k → ⊥
  placed = own_placed law key words hash s k r h (subst (λ v. In (k / s.size.settings.cells) (own_buckets hash s.size v)) is own)

  pub again : ((a b : K) → words a ≡ words b → a ≡ b) → (c : ℕ) (x : R) → c < k → Meets (λ y. words (key y)) s.cells w c x → FaultIs law key words hash s k 17
  again apart c x lt m =
      let used = h.used in
      repeated law key words hash s k l placed (r, h, (c, x, lt, record { used = omega arith; here = m.here }, apart (key x) (key r) (m.same ∙ is)))

  pub never :
      0 < s.size.settings.cells → AllFine law key words hash s k →
      NoMatch (Match (λ x. words (key x)) s.cells w k) (choice_at hash s.size w) s.size.settings.choices s.size.settings.cells → Fine law key words hash s k
  never some below none =
      fine law key words hash s k l placed
      (none_alone law key words hash s k r h some below
      (subst (λ v. NoMatch (Match (λ x. words (key x)) s.cells v k) (choice_at hash s.size v) s.size.settings.choices s.size.settings.cells) is none))
