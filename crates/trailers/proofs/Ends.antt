-- The last 32 bytes of a module that was closed.
use Rattle.std.proofs.Common.{◌≡◌, ℕ, ◌+◌, ◌-◌, ◌^◌, ◌<◌, ◌≤◌, true, List, ◌++◌, length, get_or, take, drop, sym, refl, ap, ◌∙◌, subst, arith}
use Rattle.std.proofs.lemmas.List.{length-take-le, length-append, get_or-append_right, drop-drop, drop_at}
use Rattle.records.specs.Bytes.{all_are_lem, word2, word4}
use Rattle.records.proofs.Words.{word4_bytes, word2_bytes}
use Rattle.trailers.specs.Trailers.{Numbers, Lawful, LawfulTrailer, numbers_in, off}
use Rattle.trailers.specs.Closing.{trailer_of, closed_bytes}

-- a list with a trailer at its end
module _ (xs tr : List ℕ) (full : length tr ≡ 32) where
  off_is : off (xs ++ tr) ≡ length xs
  off_is = let e = length-append xs tr in omega arith

  at_end : (n i : ℕ) → n ≡ length xs + i → get_or (xs ++ tr) n 0 ≡ get_or tr i 0
  at_end n i e =
      get_or-append_right xs tr (length xs) n 0 refl (omega arith) ∙ ap (λ k. get_or tr k 0) (let z : n - length xs ≡ i = omega arith in z)

  end4 : (n i : ℕ) → n ≡ length xs + i → word4 (xs ++ tr) n ≡ word4 tr i
  end4 n i e =
      let a = at_end n i e in
      let b = at_end (n + 1) (i + 1) (omega arith) in
      let c = at_end (n + 2) (i + 2) (omega arith) in
      let d = at_end (n + 3) (i + 3) (omega arith) in
      omega arith

  end2 : (n i : ℕ) → n ≡ length xs + i → word2 (xs ++ tr) n ≡ word2 tr i
  end2 n i e =
      let a = at_end n i e in
      let b = at_end (n + 1) (i + 1) (omega arith) in
      omega arith

  end1 : (i : ℕ) → get_or (xs ++ tr) (off (xs ++ tr) + i) 0 ≡ get_or tr i 0
  end1 i = at_end (off (xs ++ tr) + i) i (ap (λ n. n + i) off_is)

  off_end : (i : ℕ) → off (xs ++ tr) + i ≡ length xs + i
  off_end i = ap (λ n. n + i) off_is

  end_drop : (i : ℕ) → drop (off (xs ++ tr) + i) (xs ++ tr) ≡ drop i tr
  end_drop i =
      ap (λ n. drop (n + i) (xs ++ tr)) off_is ∙ sym (drop-drop i (length xs) (xs ++ tr)) ∙ ap (drop i) (drop_at xs tr (length xs) refl)

-- the numbers of a trailer are those that were written
module _ (xs : List ℕ) (m : Numbers) (d : m.distance < 2 ^ 32) (j : m.j < 2 ^ 16) (n : m.count < 2 ^ 32) where
  pub written : numbers_in (xs ++ trailer_of m) ≡ m
  written =
      let tr = trailer_of m in
      let z : off (xs ++ tr) ≡ length xs + 0 = omega (arith, off_end xs tr refl 0) in
      let distance = end4 xs tr refl (off (xs ++ tr)) 0 z ∙ word4_bytes m.distance d in
      let count = end4 xs tr refl (off (xs ++ tr) + 14) 14 (off_end xs tr refl 14) ∙ word4_bytes m.count n in
      let jth = end2 xs tr refl (off (xs ++ tr) + 12) 12 (off_end xs tr refl 12) ∙ word2_bytes m.j j in
      λ i. record {
        distance = distance i;
        kind = end1 xs tr refl 4 i;
        family = end1 xs tr refl 5 i;
        t = end1 xs tr refl 6 i;
        cells = end1 xs tr refl 7 i;
        choices = end1 xs tr refl 8 i;
        start = end1 xs tr refl 9 i;
        x = end1 xs tr refl 10 i;
        load = end1 xs tr refl 11 i;
        j = jth i;
        count = count i;
      }

  pub blank : all_are_lem 0 (drop (off (xs ++ trailer_of m) + 18) (xs ++ trailer_of m)) ≡ true
  unfolding all_are_lem
  blank = ap (all_are_lem 0) (end_drop xs (trailer_of m) refl 18)

pub closed_length : (bs : List ℕ) (m : Numbers) → 32 ≤ length bs → length (closed_bytes bs m) ≡ length bs
closed_length bs m h =
    let e : length (take (length bs - 32) bs) ≡ length bs - 32 = length-take-le (length bs - 32) bs (omega arith) in
    length-append (take (length bs - 32) bs) (trailer_of m) ∙ (let z : length (take (length bs - 32) bs) + 32 ≡ length bs = omega arith in z)

-- a closed module has a lawful trailer, if its numbers are lawful
pub closed_lawful :
    (bs : List ℕ) (m : Numbers) → m.distance < 2 ^ 32 → m.j < 2 ^ 16 → m.count < 2 ^ 32 → Lawful (length bs) m →
    LawfulTrailer (closed_bytes bs m) × (numbers_in (closed_bytes bs m) ≡ m)
closed_lawful bs m d j n l =
    let xs = take (length bs - 32) bs in
    let w = written xs m d j n in
    let k = closed_length bs m l.placed.long in (
      record {
        numbers = subst (λ z. Lawful (length (closed_bytes bs m)) z) (sym w) (subst (λ z. Lawful z m) (sym k) l);
        blank = blank xs m d j n;
      },
      w,
    )
