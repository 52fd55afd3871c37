-- Words and their bytes.
use Rattle.std.proofs.Common.{◌≡◌, ◌≢◌, Bool, true, false, ◌&&◌, eqb, ℕ, ◌/◌, ◌%◌, ◌^◌, ◌<◌, List, [], ◌∷◌, ◌++◌, length, get_or, sym, refl, ap, ◌∙◌, arith}
use Rattle.std.proofs.lemmas.List.FromFn.{fill_by_all}
use Rattle.std.proofs.lemmas.Nat.{from_be_bytes-to_be_bytes_2, from_be_bytes-to_be_bytes_4}
use Rattle.std.proofs.lemmas.Bool.Decides.{nat_tests}
use Rattle.records.specs.declared.numbers.Words.{Words}
use Rattle.records.specs.Bytes.{bytes8, bytes4, bytes2, word8, word4, word2}
use Rattle.records.specs.Plates.{plate_bytes}

-- what `==` of two keys says: e is what the call ensures, and t or f the branch
pub same_words : (a b : Words) (r : Bool) → r ≡ (eqb a.first b.first && eqb a.second b.second) → r ≡ true → a ≡ b
same_words a b r e t =
    let f : a.first ≡ b.first = grind (arith, nat_tests) in
    let s : a.second ≡ b.second = grind (arith, nat_tests) in
    λ i. record { first = f i; second = s i }

pub other_words : (a b : Words) (r : Bool) → r ≡ (eqb a.first b.first && eqb a.second b.second) → r ≡ false → a ≢ b
other_words a b r e f k =
    let h : a.first ≡ b.first = ap (λ w. w.first) k in
    let s : a.second ≡ b.second = ap (λ w. w.second) k in
    absurd (grind (arith, nat_tests))

pub word2_bytes : (x : ℕ) → x < 2 ^ 16 → word2 (bytes2 x) 0 ≡ x
word2_bytes x h = from_be_bytes-to_be_bytes_2 x h

pub word4_bytes : (x : ℕ) → x < 2 ^ 32 → word4 (bytes4 x) 0 ≡ x
word4_bytes x h = from_be_bytes-to_be_bytes_4 x h

pub bytes2_word : (a b : ℕ) → a < 256 → b < 256 → bytes2 (word2 (a ∷ b ∷ []) 0) ≡ a ∷ b ∷ []
bytes2_word a b p q =
    let w = word2 (a ∷ b ∷ []) 0 in
    let e : w / 256 % 256 ≡ a = omega arith in
    let f : w % 256 ≡ b = omega arith in
    cc

pub bytes4_word : (a b c d : ℕ) → a < 256 → b < 256 → c < 256 → d < 256 → bytes4 (word4 (a ∷ b ∷ c ∷ d ∷ []) 0) ≡ a ∷ b ∷ c ∷ d ∷ []
bytes4_word a b c d p q r s =
    let w = word4 (a ∷ b ∷ c ∷ d ∷ []) 0 in
    let e : w / 16777216 % 256 ≡ a = omega arith in
    let f : w / 65536 % 256 ≡ b = omega arith in
    let g : w / 256 % 256 ≡ c = omega arith in
    let h : w % 256 ≡ d = omega arith in
    cc

pub bytes8_word : (a b c d e f g h : ℕ) → a < 256 → b < 256 → c < 256 → d < 256 → e < 256 → f < 256 → g < 256 → h < 256 →
    bytes8 (word8 (a ∷ b ∷ c ∷ d ∷ e ∷ f ∷ g ∷ h ∷ []) 0) ≡ a ∷ b ∷ c ∷ d ∷ e ∷ f ∷ g ∷ h ∷ []
bytes8_word a b c d e f g h a< b< c< d< e< f< g< h< =
    let w = word8 (a ∷ b ∷ c ∷ d ∷ e ∷ f ∷ g ∷ h ∷ []) 0 in
    let p0 : w / 72057594037927936 % 256 ≡ a = omega arith in
    let p1 : w / 281474976710656 % 256 ≡ b = omega arith in
    let p2 : w / 1099511627776 % 256 ≡ c = omega arith in
    let p3 : w / 4294967296 % 256 ≡ d = omega arith in
    let p4 : w / 16777216 % 256 ≡ e = omega arith in
    let p5 : w / 65536 % 256 ≡ f = omega arith in
    let p6 : w / 256 % 256 ≡ g = omega arith in
    let p7 : w % 256 ≡ h = omega arith in
    cc

twelve : (xs : List ℕ) → length xs ≡ 12 →
    xs ≡ get_or xs 0 0 ∷ get_or xs 1 0 ∷ get_or xs 2 0 ∷ get_or xs 3 0 ∷ get_or xs 4 0 ∷ get_or xs 5 0 ∷ get_or xs 6 0 ∷ get_or xs 7 0 ∷ get_or xs 8 0 ∷ get_or xs 9 0 ∷ get_or xs 10 0 ∷ get_or xs 11 0 ∷ []
twelve xs l = fill_by_all (λ k. get_or xs k 0) xs 12 0 l (λ k h. refl)

-- 12 bytes are those of their words
pub plate_words_lem : (xs : List ℕ) → length xs ≡ 12 → ((i : ℕ) → get_or xs i 0 < 256) → plate_bytes (word8 xs 0) (word4 xs 8) ≡ xs
plate_words_lem xs l f =
    let a = bytes8_word (get_or xs 0 0) (get_or xs 1 0) (get_or xs 2 0) (get_or xs 3 0) (get_or xs 4 0) (get_or xs 5 0) (get_or xs 6 0) (get_or xs 7 0) (f 0) (f 1) (f 2) (f 3) (f 4) (f 5) (f 6) (f 7) in
    let b = bytes4_word (get_or xs 8 0) (get_or xs 9 0) (get_or xs 10 0) (get_or xs 11 0) (f 8) (f 9) (f 10) (f 11) in
    ap (λ ys. ys ++ bytes4 (word4 xs 8)) a ∙ ap (λ zs. (get_or xs 0 0 ∷ get_or xs 1 0 ∷ get_or xs 2 0 ∷ get_or xs 3 0 ∷ get_or xs 4 0 ∷ get_or xs 5 0 ∷ get_or xs 6 0 ∷ get_or xs 7 0 ∷ []) ++ zs) b ∙ sym (twelve xs l)
