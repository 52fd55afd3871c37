-- What an array holds that a function of the place made.
use Rattle.std.proofs.Common.{◌≡◌, ℕ, zero, suc, ◌+◌, ◌<◌, ◌≤◌, List, get_or, sym, subst, ap, ◌∙◌, inl, inr, arith}
use Rattle.std.specs.Fn.{Called}
use Rattle.std.specs.Array.{IsFromFnResultFrom}
use denote.Param.Members.{Mut}
use Rattle.std.proofs.lemmas.Bool.{cases_eq}

pub made_at :
    {F : Type 0} (g : Mut F (ℕ × Unit {0}) ℕ) (v : ℕ → ℕ) (f : F) (ys : List ℕ) (i n : ℕ) →
    ((k y : ℕ) (q : F) → Called g f (k, tt) y q → (q ≡ f) × (y ≡ v k)) →
    IsFromFnResultFrom g f ys i n → (k : ℕ) → i ≤ k → k < i + n → get_or ys k 0 ≡ v k
made_at g v f ys i zero pure each k a b = absurd (omega arith)
made_at g v f ys i (suc n) pure each k a b =
    let c = pure i each.1 each.0 each.3 in
    elim (cases_eq k i) [
      | inl same ↦ ap (λ j. get_or ys j 0) same ∙ each.2.1 0 ∙ c.1 ∙ ap v (sym same)
      | inr other ↦
          made_at g v f ys (i + 1) n pure (subst (λ p. IsFromFnResultFrom g p ys (i + 1) n) c.0 each.4) k (omega arith) (omega arith)
    ]
