-- What a grow leaves, and what it adds.
use Rattle.std.proofs.Common.{◌≡◌, ℕ, ◌+◌, ◌-◌, ◌*◌, ◌/◌, ◌%◌, ◌^◌, ◌<◌, ◌≤◌, false, cond, ◌&&◌, eqb, ltb, sym, ap, ◌∙◌, ap₂, inl, inr, add-mul, mul-add, arith, pow_mono}
use Rattle.std.proofs.lemmas.Nat.{pow_pos, mod-pow-add, mod_below}
use Rattle.std.proofs.lemmas.Bool.{cases_eq, cases_lt, cases_Bool, cond-true, cond-false, and_left, and_right, and_from, and_parts, ne_eqb, eq-eqb, eqb-true, lt-ltb, le-ltb}
use Rattle.addresses.specs.Ranges.{buckets}
use Rattle.addresses.specs.Positions.{subtable_of, bucket_of, position_of, place, width_of, grown_x, grown_j, whole}
use Rattle.addresses.proofs.Stated.{Added, Moved, Within, Merged, Lawful}
use Rattle.addresses.proofs.Bounds.{x_small, twice, subtable_lt}
use Rattle.addresses.proofs.Extents.{in_extent, below, Top}

-- bucket b + 2 ^ x of subtable g
pub added_bucket : (t x g b : ℕ) → x ≤ 14 → b < 2 ^ x → position_of t g (b + 2 ^ x) ≡ (2 ^ t + g) * 2 ^ x + b
added_bucket t x g b hx hb =
    let p : 2 ^ x ≤ 2 ^ 14 = pow_mono hx in
    let q : Top (b + 2 ^ x) x = record { low = omega arith; high = omega arith } in
    let e = in_extent t g (b + 2 ^ x) x (omega arith) q in
    omega arith

pub more_buckets : (t x j : ℕ) → j < 2 ^ t → buckets t (grown_x t x j) (grown_j t x j) ≡ buckets t x j + 2 ^ x
more_buckets t x j hj =
    let row = add-mul (2 ^ t + j) 1 (2 ^ x) in
    elim (cases_eq (j + 1) (2 ^ t)) [
      | inl last ↦
          let u = twice x in
          let a = add-mul (2 ^ t) (2 ^ t) (2 ^ x) in
          let b = mul-add (2 ^ t) (2 ^ x) (2 ^ x) in
          let c : (2 ^ t + 0) * 2 ^ (x + 1) ≡ 2 ^ t * (2 ^ x + 2 ^ x) = ap (λ n. n * 2 ^ (x + 1)) (omega arith) ∙ ap (λ n. 2 ^ t * n) u in
          let d : (2 ^ t + j + 1) * 2 ^ x ≡ (2 ^ t + 2 ^ t) * 2 ^ x = ap (λ n. n * 2 ^ x) (omega arith) in
          grind arith
      | inr more ↦ grind arith
    ]

-- the next size is one, if its buckets are not too many
pub grown_fits :
    (t x j x' j' s : ℕ) → x' ≡ grown_x t x j → j' ≡ grown_j t x j → j < 2 ^ t → s ≤ x → buckets t x j + 2 ^ x ≤ 16384 →
    (s ≤ x') × (j' < 2 ^ t) × (buckets t x' j' ≤ 16384)
grown_fits t x j x' j' s ex ej hj hs h =
    let m = more_buckets t x j hj in
    let e : buckets t x' j' ≡ buckets t (grown_x t x j) (grown_j t x j) = ap₂ (buckets t) ex ej in
    (grind arith, grind arith, omega arith)

pub added : Added
added t x j l = (more_buckets t x j l.1, λ b h. added_bucket t x j b (x_small t x j l.2) h)

-- each subtable's number of buckets after a grow
widths : (t x j g : ℕ) → j < 2 ^ t → g < 2 ^ t → width_of (grown_x t x j) (grown_j t x j) g ≡ cond (ltb j g) x (x + 1)
widths t x j g hj hg = grind arith

moved_at :
    (t x j g c w : ℕ) → x ≤ 14 → w ≡ cond (ltb j g) x (x + 1) →
    position_of t g (c % 2 ^ w) ≡ cond (eqb g j && eqb (c / 2 ^ x % 2) 1) (buckets t x j + c % 2 ^ x) (position_of t g (bucket_of x j g c))
moved_at t x j g c w hx hw =
    let low = mod_below c (2 ^ x) (pow_pos x) in
    let bit = mod_below (c / 2 ^ x) 2 (omega arith) in
    let s : c % 2 ^ (1 + x) ≡ (c / 2 ^ x % 2) * 2 ^ x + c % 2 ^ x = mod-pow-add c 1 x in
    let stays : c % 2 ^ w ≡ bucket_of x j g c → (eqb g j && eqb (c / 2 ^ x % 2) 1) ≡ false → position_of t g (c % 2 ^ w) ≡ cond (eqb g j && eqb (c / 2 ^ x % 2) 1) (buckets t x j + c % 2 ^ x) (position_of t g (bucket_of x j g c)) =
    λ e f. ap (position_of t g) e ∙ sym (cond-false _ _ _ f) in
    elim (cases_eq g j) [
      | inr other ↦ let e : w ≡ width_of x j g = grind arith in stays (ap (λ k. c % 2 ^ k) e) (and_left _ _ (ne_eqb g j other))
      | inl same ↦
          let e : w ≡ 1 + x = grind arith in
          let f : width_of x j g ≡ x = grind arith in
          let ce : c % 2 ^ w ≡ c % 2 ^ (1 + x) = ap (λ k. c % 2 ^ k) e in
          elim (cases_eq (c / 2 ^ x % 2) 1) [
            | inr zero ↦
                let z : c / 2 ^ x % 2 ≡ 0 = omega arith in
                let m : (c / 2 ^ x % 2) * 2 ^ x ≡ 0 * 2 ^ x = ap (λ n. n * 2 ^ x) z in
                let cf : bucket_of x j g c ≡ c % 2 ^ x = ap (λ k. c % 2 ^ k) f in
                stays (omega arith) (and_right _ _ (ne_eqb (c / 2 ^ x % 2) 1 zero))
            | inl one ↦
                let m : (c / 2 ^ x % 2) * 2 ^ x ≡ 1 * 2 ^ x = ap (λ n. n * 2 ^ x) one in
                let u : c % 2 ^ w ≡ c % 2 ^ x + 2 ^ x = omega arith in
                ap (position_of t g) u ∙ added_bucket t x g (c % 2 ^ x) hx low ∙ ap (λ k. (2 ^ t + k) * 2 ^ x + c % 2 ^ x) same
                ∙ sym (cond-true _ _ _ (and_from _ _ (eq-eqb g j same) (eq-eqb (c / 2 ^ x % 2) 1 one)))
          ]
    ]

pub moved : Moved
moved t x j c l hc =
    let g = subtable_lt t c (omega arith) hc in
    moved_at t x j (subtable_of t c) c _ (x_small t x j l.2) (widths t x j (subtable_of t c) l.1 g)

whole_old : (t x j p : ℕ) → p < buckets t x j → whole t x j p ≡ p
whole_old t x j p h = cond-true _ _ _ (lt-ltb p (buckets t x j) h)

whole_new : (t x j b : ℕ) → whole t x j (buckets t x j + b) ≡ position_of t j b
whole_new t x j b =
    let e : buckets t x j + b - buckets t x j ≡ b = omega arith in
    cond-false _ _ _ (le-ltb (buckets t x j + b) (buckets t x j) (omega arith)) ∙ ap (position_of t j) e

-- where a choice lies
pub place_below : (t x j c : ℕ) → Lawful t x j → c < 2 ^ 32 → place t x j c < buckets t x j
place_below t x j c l hc =
    let g = subtable_lt t c (omega arith) hc in
    below t x j (subtable_of t c) (bucket_of x j (subtable_of t c) c) l g (mod_below c (2 ^ width_of x j (subtable_of t c)) (pow_pos (width_of x j (subtable_of t c))))

pub within : Within
within t x j c l hc =
    let e = moved t x j c l hc in
    elim (cases_Bool (eqb (subtable_of t c) j && eqb (c / 2 ^ x % 2) 1)) [
      | inr out ↦ let f = e ∙ cond-false _ _ _ out in ap (whole t x j) f ∙ whole_old t x j (place t x j c) (place_below t x j c l hc)
      | inl in' ↦
          let f = e ∙ cond-true _ _ _ in' in
          let g : subtable_of t c ≡ j = eqb-true (subtable_of t c) j (and_parts _ _ in').0 in
          let w : width_of x j (subtable_of t c) ≡ x = grind arith in
          let b : bucket_of x j (subtable_of t c) c ≡ c % 2 ^ x = ap (λ k. c % 2 ^ k) w in
          ap (whole t x j) f ∙ whole_new t x j (c % 2 ^ x) ∙ sym (ap (position_of t (subtable_of t c)) b ∙ ap (λ h. position_of t h (c % 2 ^ x)) g)
    ]

pub merged : Merged
merged t x j p l h =
    elim (cases_lt p (buckets t x j)) [
      | inl old ↦ let e = whole_old t x j p old in omega arith
      | inr new ↦
          let w : width_of x j j ≡ x = grind arith in
          let f : 2 ^ width_of x j j ≡ 2 ^ x = ap (λ k. 2 ^ k) w in
          let b = below t x j j (p - buckets t x j) l l.1 (omega arith) in
          let e : buckets t x j + (p - buckets t x j) ≡ p = omega arith in
          let n = sym (ap (whole t x j) e) ∙ whole_new t x j (p - buckets t x j) in
          omega arith
    ]
