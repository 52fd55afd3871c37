-- The fields of a cell, byte by byte.
use Rattle.std.proofs.Common.{◌≡◌, ℕ, zero, suc, ◌+◌, ◌-◌, ◌<◌, ◌≤◌, Bool, true, false, ◌&&◌, eqb, List, [], ◌∷◌, ◌++◌, length, get_or, drop, replicate, sym, refl, ap, ◌∙◌, arith}
use Rattle.std.proofs.lemmas.List.{drop_more, length-drop}
use Rattle.std.proofs.lemmas.Bool.{eqb-true}
use Rattle.records.specs.Bytes.{all_are_lem, bytes2, bytes4, bytes8, word2, word4, word8}
use Rattle.records.proofs.Words.{bytes8_word, bytes4_word, bytes2_word}
use Rattle.octets.specs.Kinds.{tare_in, tare_fields, tag_in, tag_fields}

-- n elements from place i on, one by one, and the rest
abbrev spell : ℕ → ℕ → List ℕ → List ℕ
spell zero i xs = drop i xs
spell (suc n) i xs = get_or xs i 0 ∷ spell n (i + 1) xs

spelled : (n i : ℕ) (xs : List ℕ) → i + n ≤ length xs → drop i xs ≡ spell n i xs
spelled zero i xs h = refl
spelled (suc n) i xs h =
    let l : i < length xs = omega arith in
    drop_more xs i 0 l ∙ ap (λ ys. get_or xs i 0 ∷ ys) (spelled n (i + 1) xs (omega arith))

are_replicate : (v : ℕ) (xs : List ℕ) → all_are_lem v xs ≡ true → xs ≡ replicate (length xs) v
unfolding all_are_lem
are_replicate v [] e = refl
are_replicate v (x ∷ xs) e = by (eqb x v) refl (λ k. are_replicate v xs k) e
  where
    by : (b : Bool) → eqb x v ≡ b → (all_are_lem v xs ≡ true → xs ≡ replicate (length xs) v) → (b && all_are_lem v xs) ≡ true → x ∷ xs ≡ replicate (length (x ∷ xs)) v
    by true k f e = let h = eqb-true x v k in let t = f e in cc
    by false k f e = let z : ◌≡◌ {A = ℕ} 0 1 = cc in absurd (omega arith)

module _ (xs : List ℕ) (l : length xs ≡ 32) (f : (i : ℕ) → get_or xs i 0 < 256) where
  zeros : (end n : ℕ) → n ≡ 32 - end → all_are_lem 0 (drop end xs) ≡ true → replicate n 0 ≡ drop end xs
  zeros end n e h =
      let k : length (drop end xs) ≡ n = length-drop end xs ∙ ap (λ m. m - end) l ∙ sym e in
      sym (are_replicate 0 (drop end xs) h ∙ ap (λ m. replicate m 0) k)

  abbrev first : List ℕ
  first = get_or xs 2 0 ∷ get_or xs 3 0 ∷ get_or xs 4 0 ∷ get_or xs 5 0 ∷ get_or xs 6 0 ∷ get_or xs 7 0 ∷ get_or xs 8 0 ∷ get_or xs 9 0 ∷ []

  abbrev second : List ℕ
  second = get_or xs 10 0 ∷ get_or xs 11 0 ∷ get_or xs 12 0 ∷ get_or xs 13 0 ∷ []

  abbrev third : List ℕ
  third = get_or xs 14 0 ∷ get_or xs 15 0 ∷ get_or xs 16 0 ∷ get_or xs 17 0 ∷ []

  abbrev fourth : List ℕ
  fourth = get_or xs 18 0 ∷ get_or xs 19 0 ∷ []

  is_first : bytes8 (word8 xs 2) ≡ first
  is_first = bytes8_word (get_or xs 2 0) (get_or xs 3 0) (get_or xs 4 0) (get_or xs 5 0) (get_or xs 6 0) (get_or xs 7 0) (get_or xs 8 0) (get_or xs 9 0) (f 2) (f 3) (f 4) (f 5) (f 6) (f 7) (f 8) (f 9)

  is_second : bytes4 (word4 xs 10) ≡ second
  is_second = bytes4_word (get_or xs 10 0) (get_or xs 11 0) (get_or xs 12 0) (get_or xs 13 0) (f 10) (f 11) (f 12) (f 13)

  is_third : bytes4 (word4 xs 14) ≡ third
  is_third = bytes4_word (get_or xs 14 0) (get_or xs 15 0) (get_or xs 16 0) (get_or xs 17 0) (f 14) (f 15) (f 16) (f 17)

  is_fourth : bytes2 (word2 xs 18) ≡ fourth
  is_fourth = bytes2_word (get_or xs 18 0) (get_or xs 19 0) (f 18) (f 19)

  pub tag_back : all_are_lem 0 (drop 15 xs) ≡ true → tag_fields (tag_in xs) ≡ drop 2 xs
  tag_back h =
      ap (λ a. a ++ (bytes4 (word4 xs 10) ++ (get_or xs 14 0 ∷ replicate 17 0))) is_first
      ∙ ap (λ b. first ++ (b ++ (get_or xs 14 0 ∷ replicate 17 0))) is_second
      ∙ ap (λ z. first ++ (second ++ (get_or xs 14 0 ∷ z))) (zeros 15 17 refl h)
      ∙ sym (spelled 13 2 xs (omega arith))

  pub tare_back : all_are_lem 0 (drop 20 xs) ≡ true → tare_fields (tare_in xs) ≡ drop 2 xs
  tare_back h =
      ap (λ a. a ++ (bytes4 (word4 xs 10) ++ (bytes4 (word4 xs 14) ++ (bytes2 (word2 xs 18) ++ replicate 12 0)))) is_first
      ∙ ap (λ b. first ++ (b ++ (bytes4 (word4 xs 14) ++ (bytes2 (word2 xs 18) ++ replicate 12 0)))) is_second
      ∙ ap (λ c. first ++ (second ++ (c ++ (bytes2 (word2 xs 18) ++ replicate 12 0)))) is_third
      ∙ ap (λ d. first ++ (second ++ (third ++ (d ++ replicate 12 0)))) is_fourth
      ∙ ap (λ z. first ++ (second ++ (third ++ (fourth ++ z)))) (zeros 20 12 refl h)
      ∙ sym (spelled 18 2 xs (omega arith))
