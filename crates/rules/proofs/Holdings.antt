-- The keys of a sound table are held as they lie.
use Rattle.std.specs.Prelude.{Some, None, Option}
use Rattle.std.proofs.Common.{◌≡◌, ℕ, zero, suc, ◌*◌, ◌/◌, ◌<◌, ◌≤◌, Bool, true, ◌&&◌, eqb, List, map, get_or, Decides, sym, refl, ap, subst, arith}
use mathlib.Core.List.{map-map}
use Rattle.std.proofs.lemmas.Bool.{and_from, and_parts, eq-eqb, eqb-true}
use Rattle.records.specs.declared.numbers.Words.{Words}
use Rattle.addresses.specs.Sized.{buckets_in}
use Rattle.assignment.specs.Assign.{Distinct, In, count}
use Rattle.assignment.proofs.Counts.{count_le}
use Rattle.assignment.proofs.Places.{count_map, from_map, in_map, lookup}
use Rattle.rules.specs.Stored.{joined, keys_below, located}
use Rattle.rules.specs.Tables.{own_buckets, used_in}
use Rattle.rules.specs.Theorems.{ASoundTableIsHeld, ToldApart}
use Rattle.rules.proofs.Locations.{from_located, lodged_most, to_located}

-- keys told apart by their words
abbrev pub same_key : {K : Type 0} → (K → Words) → K → K → Bool
same_key words k l = eqb (words k).first (words l).first && eqb (words k).second (words l).second

same_words : (v w : Words) → v.first ≡ w.first → v.second ≡ w.second → v ≡ w
same_words v w a b = λ i. record { first = a i; second = b i }

pub told_by : {K : Type 0} (words : K → Words) → ToldApart words → (k l : K) → Decides (same_key words k l) (k ≡ l)
told_by words apart k l = (
  λ e.
      let p = and_parts (eqb (words k).first (words l).first) (eqb (words k).second (words l).second) e in
      apart k l
      (same_words (words k) (words l) (eqb-true (words k).first (words l).first p.0)
      (eqb-true (words k).second (words l).second p.1)),
  λ e.
      and_from (eqb (words k).first (words l).first) (eqb (words k).second (words l).second)
      (eq-eqb (words k).first (words l).first (ap (λ y. (words y).first) e))
      (eq-eqb (words k).second (words l).second (ap (λ y. (words y).second) e)),
)

module _ {R K : Type 0} (key : R → K) (cs : List (Option R)) where
  abbrev key_of : ℕ × R → K
  key_of p = key p.1

  distinct_joined :
      (n : ℕ) (o : Option R) (rest : List (ℕ × R)) → ((r : R) → o ≡ Some r → In (key r) (map key_of rest) → ⊥) →
      Distinct (map key_of rest) → Distinct (map key_of (joined n o rest))
  distinct_joined n None rest out d = d
  distinct_joined n (Some r) rest out d = (out r refl, d)

  -- no key twice below n, where none stands in two cells
  distinct_keys :
      (n : ℕ) →
      ((b c : ℕ) (p q : R) → b < n → c < n → get_or cs b None ≡ Some p → get_or cs c None ≡ Some q → key p ≡ key q → b ≡ c) →
      Distinct (keys_below key cs n)
  distinct_keys zero once = tt
  distinct_keys (suc n) once =
      distinct_joined n (get_or cs n None) (located cs n)
      (λ r h i.
      from_map (λ k. key r ≡ k → ⊥) key_of (located cs n)
      (λ p j e.
      let o = from_located cs n p j in
      let l = o.0 in
      let z = once n p.0 r p.1 (omega arith) (omega arith) h o.1 e in
      omega arith)
      (key r) i refl)
      (distinct_keys n (λ b c p q l m h k e. once b c p q (omega arith) (omega arith) h k e))

module _ {R K : Type 0} (key : R → K) (words : K → Words) (apart : ToldApart words) (cs : List (Option R)) (B n : ℕ)
    (distinct : Distinct (keys_below key cs n)) where
  abbrev pair : ℕ × R → K × ℕ
  pair p = (key p.1, p.0 / B)

  -- a function that gives each key the bucket in which it lies
  lying : (a : K → ℕ) × ((p : ℕ × R) → In p (located cs n) → a (key p.1) ≡ p.0 / B)
  lying =
      let e = map-map (λ (q : K × ℕ). q.0) pair (located cs n) in
      let found = lookup (same_key words) (told_by words apart) (map pair (located cs n)) (subst Distinct (sym e) distinct) in
      (found.0, λ p i. found.1 (pair p) (in_map pair p (located cs n) i))

-- no bucket over its cells
lying_fits :
    {R K : Type 0} (key : R → K) (cs : List (Option R)) (B U : ℕ) → 1 ≤ B →
    (a : K → ℕ) → ((p : ℕ × R) → In p (located cs (U * B)) → a (key p.1) ≡ p.0 / B) →
    (b : ℕ) → count (λ k. eqb (a k) b) (keys_below key cs (U * B)) ≤ B
lying_fits {R} key cs B U some a lies b =
    let most = lodged_most cs B some U b in
    let e = count_map (λ k. eqb (a k) b) (λ (p : ℕ × R). key p.1) (located cs (U * B)) in
    let l =
    count_le (λ (p : ℕ × R). eqb (a (key p.1)) b) (λ (p : ℕ × R). eqb (p.0 / B) b) (located cs (U * B))
    (λ p i t. subst (λ y. eqb y b ≡ true) (lies p i) t) in
    omega arith

pub a_sound_table_is_held : {R K : Type 0} → ASoundTableIsHeld R K
a_sound_table_is_held {R} {K} key words apart hash s sound =
    let n = used_in s.size in
    let cs = s.cells in
    let distinct =
    distinct_keys key cs n
    (λ b c p q l m h k e. sound.once b c p q (record { used = l; here = h }) (record { used = m; here = k }) e) in
    let found = lying key words apart cs s.size.settings.cells n distinct in
    let a = found.0 in (
      a,
      λ c r h. found.1 (c, r) (to_located cs n c r h.used h.here),
      record {
        owned =
            from_map (λ k. In (a k) (own_buckets hash s.size (words k))) (λ (p : ℕ × R). key p.1) (located cs n)
            (λ p i.
            let o = from_located cs n p i in
            subst (λ b. In b (own_buckets hash s.size (words (key p.1)))) (sym (found.1 p i))
            (sound.home p.0 p.1 (record { used = o.0; here = o.1 })));
        fits = lying_fits key cs s.size.settings.cells (buckets_in s.size) s.size.settings.some_cells a found.1;
      },
    )
