-- A plate's bytes: a text, and then blanks.
use Rattle.std.proofs.Common.{◌≡◌, ℕ, zero, suc, ◌+◌, ◌≤◌, Bool, true, false, cond, ◌&&◌, List, [], ◌∷◌, ◌++◌, length, drop, replicate, ltb, lt-ltb, sym, refl, ap, ◌∙◌, arith}
use Rattle.std.specs.List.{prefix_len}
use lib.ListN.{length-replicate}
use Rattle.std.proofs.lemmas.List.{length-append}
use Rattle.records.specs.Bytes.{all_are_lem}
use Rattle.records.specs.Plates.{character, all_characters_lem, ended, plate_in, padded}

-- past the text there are blanks to the end
ended_by_text : (xs : List ℕ) → ended xs ≡ all_are_lem 32 (drop (prefix_len character xs) xs)
unfolding ended all_are_lem
ended_by_text [] = refl
ended_by_text (x ∷ xs) = by (character x) (ended_by_text xs)
  where
    by : (b : Bool) → ended xs ≡ all_are_lem 32 (drop (prefix_len character xs) xs) →
        cond b (ended xs) (all_are_lem 32 (x ∷ xs)) ≡ all_are_lem 32 (drop (cond b (1 + prefix_len character xs) 0) (x ∷ xs))
    by true e = let s : 1 + prefix_len character xs ≡ suc (prefix_len character xs) = omega arith in rw s e
    by false e = refl

pub plate_by_text : (xs : List ℕ) → plate_in xs ≡ (ltb 0 (prefix_len character xs) && all_are_lem 32 (drop (prefix_len character xs) xs))
unfolding plate_in
plate_by_text [] = refl
plate_by_text (x ∷ xs) = by (character x) (ended_by_text xs)
  where
    by : (b : Bool) → ended xs ≡ all_are_lem 32 (drop (prefix_len character xs) xs) →
        cond b (ended xs) false ≡ (ltb 0 (cond b (1 + prefix_len character xs) 0) && all_are_lem 32 (drop (cond b (1 + prefix_len character xs) 0) (x ∷ xs)))
    by true e =
        let n = prefix_len character xs in
        let s : 1 + n ≡ suc n = omega arith in
        rw s (e ∙ ap (λ b. b && all_are_lem 32 (drop n xs)) (sym (lt-ltb 0 (suc n) (omega arith))))
    by false e = refl

-- a text and then blanks
blanks : (n : ℕ) → all_are_lem 32 (replicate n 32) ≡ true
unfolding all_are_lem
blanks zero = refl
blanks (suc n) = blanks n

ended_blanks : (n : ℕ) → ended (replicate n 32) ≡ true
unfolding ended character
ended_blanks zero = refl
ended_blanks (suc n) = blanks (suc n)

ended_text : (xs : List ℕ) (n : ℕ) → all_characters_lem xs ≡ true → ended (xs ++ replicate n 32) ≡ true
unfolding ended all_characters_lem
ended_text [] n h = ended_blanks n
ended_text (x ∷ xs) n h = by (character x) (λ k. ended_text xs n k) h
  where
    by : (b : Bool) → (all_characters_lem xs ≡ true → ended (xs ++ replicate n 32) ≡ true) → (b && all_characters_lem xs) ≡ true → cond b (ended (xs ++ replicate n 32)) (all_are_lem 32 (x ∷ (xs ++ replicate n 32))) ≡ true
    by true f k = f k
    by false f k = cc

pub plate_text : (xs : List ℕ) (n : ℕ) → 1 ≤ length xs → all_characters_lem xs ≡ true → plate_in (xs ++ replicate n 32) ≡ true
unfolding plate_in all_characters_lem
plate_text [] n l h = absurd (omega arith)
plate_text (x ∷ xs) n l h = by (character x) h
  where
    by : (b : Bool) → (b && all_characters_lem xs) ≡ true → cond b (ended (xs ++ replicate n 32)) false ≡ true
    by true k = ended_text xs n k
    by false k = cc

pub padded_length : (cs : List ℕ) → length cs ≤ 12 → length (padded cs) ≡ 12
padded_length cs h = simp (length-append, length-replicate) (omega arith)
