-- One cell or one choice more of a search.
use Rattle.std.proofs.Common.{◌≡◌, ℕ, ◌+◌, ◌*◌, ◌/◌, ◌<◌, ◌≤◌, min, sym, subst, ⊎_elim, div-mul-le_self, mul-le-mul, arith}
use native.Mathlib.Nat.{lt-div-mul-add}
use Rattle.std.proofs.lemmas.Bool.{cases_lt}
use Rattle.lookup.specs.Finds.{NoneIn, NoMatch}

module _ (M : ℕ → Type 0) where
  pub none_start : (from : ℕ) → NoneIn M from from
  none_start from k l h m = omega arith

  pub none_more : (from c : ℕ) → NoneIn M from c → (M c → ⊥) → NoneIn M from (c + 1)
  none_more from c f not k l h m =
      ⊎_elim (λ (z : k < c). f k l z m) (λ (z : c ≤ k). let e : k ≡ c = omega arith in not (subst M e m)) (cases_lt k c)

  -- up to an end, or a limit that comes before
  pub none_cut : (from end c limit : ℕ) → ((k : ℕ) → M k → k < limit) → NoneIn M from c → min end limit ≤ c → NoneIn M from end
  none_cut from end c limit g f e k l h m = let z : k < limit = g k m in f k l (omega arith) m

  pub match_more : (pos : ℕ → ℕ) (B i : ℕ) → NoMatch M pos i B → NoneIn M (pos i * B) (pos i * B + B) → NoMatch M pos (i + 1) B
  match_more pos B i f here k h =
      ⊎_elim (λ (z : k < i). f k z) (λ (z : i ≤ k). let e : i ≡ k = omega arith in subst (λ j. NoneIn M (pos j * B) (pos j * B + B)) e here) (cases_lt k i)

  pub match_end : (pos : ℕ → ℕ) (B i H : ℕ) → NoMatch M pos i B → H ≤ i → NoMatch M pos H B
  match_end pos B i H f h k l = f k (omega arith)

-- a cell of a bucket that a choice leads to is no match, where there is none
pub none_there : (M : ℕ → Type 0) (pos : ℕ → ℕ) (H B : ℕ) → 0 < B → NoMatch M pos H B → (i c : ℕ) → i < H → pos i ≡ c / B → M c → ⊥
none_there M pos H B some none i c h e =
    let low : pos i * B ≤ c = subst (λ p. p * B ≤ c) (sym e) (div-mul-le_self c B) in
    let high : c < pos i * B + B = subst (λ p. c < p * B + B) (sym e) (lt-div-mul-add some) in
    none i h c low high

pub few_cells : (u b : ℕ) → u ≤ 16384 → b ≤ 8 → u * b ≤ 131072
few_cells u b h k = mul-le-mul h k
