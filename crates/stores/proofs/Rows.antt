-- Rows of cells: reads and writes inside and past the end, and the cells of a slice.
use Rattle.std.specs.Prelude.{Some, None, Option}
use Rattle.std.proofs.Common.{◌≡◌, ℕ, ◌^◌, ◌<◌, ◌≤◌, min, true, false, List, map, length, get_or, take, set, is_ok, Ok, Err, Result, sym, refl, ap, ◌∙◌, ⊎_elim, arith, get_or-set_other, get_or-set_same, le-ltb, lt-ltb}
use lib.Seq.{take-set-lt}
use Rattle.std.proofs.lemmas.List.{length-take, length-map, length-set, get_or-take, get_or-map, map-set, take-set-le, set_past}
use Rattle.std.proofs.lemmas.Bool.{cases_lt}
use Rattle.records.specs.declared.declines.Decline.{Decline}
use Rattle.stores.specs.Cells.{after, asked, held, meaning, numbered, plain, read_of, row, slice_after, write_of}

module _ {R : Type 0} where
  pub read_in : (xs : List (Option R)) (at : ℕ) → at < length xs → read_of xs at ≡ Ok (get_or xs at None)
  read_in xs at h = rw (lt-ltb at (length xs) h)

  pub read_out : (xs : List (Option R)) (at : ℕ) → length xs ≤ at → read_of xs at ≡ Err 13
  read_out xs at h = rw (le-ltb at (length xs) h)

  pub write_in : (v : Option R) (xs : List (Option R)) (at : ℕ) → at < length xs → write_of (Ok v) xs at ≡ Ok tt
  write_in v xs at h = rw (lt-ltb at (length xs) h)

  pub write_out : (v : Option R) (xs : List (Option R)) (at : ℕ) → length xs ≤ at → write_of (Ok v) xs at ≡ Err 13
  write_out v xs at h = rw (le-ltb at (length xs) h)

  pub length_after : (o : Result (Option R) Decline) (xs : List (Option R)) (at : ℕ) → length (after o xs at) ≡ length xs
  length_after (Err d) xs at = refl
  length_after (Ok v) xs at = length-set xs at v

  -- a write that was taken was inside
  pub taken_inside : (o : Result (Option R) Decline) (xs : List (Option R)) (at : ℕ) → write_of o xs at ≡ Ok tt → at < length xs
  taken_inside (Err d) xs at e = let z : ◌≡◌ {A = ℕ} 0 1 = cc in absurd (omega arith)
  taken_inside (Ok v) xs at e =
      ⊎_elim (λ (h : at < length xs). h)
      (λ (h : length xs ≤ at). let w = write_out v xs at h in let z : ◌≡◌ {A = ℕ} 0 1 = cc in absurd (omega arith))
      (cases_lt at (length xs))

pub take_set : {X : Type 0} (n : ℕ) (xs : List X) (i : ℕ) (v : X) → take n (set xs i v) ≡ set (take n xs) i v
take_set n xs i v =
    ⊎_elim (λ (h : i < n). take-set-lt n xs i v h)
    (λ (h : n ≤ i). let l : length (take n xs) ≤ i = simp length-take (omega arith) in take-set-le n xs i v h ∙ sym (set_past (take n xs) i v l))
    (cases_lt i n)

module _ {N R : Type 0} (made : N → Result R Decline) where
  pub row_length : (cs : List (Option N)) → length (row made cs) ≡ min (2 ^ 40) (length cs)
  row_length cs = length-take (2 ^ 40) (map (meaning made) cs) ∙ ap (λ n. min (2 ^ 40) n) (length-map cs (meaning made))

  pub row_get : (cs : List (Option N)) (i : ℕ) (d : Option N) → i < min (2 ^ 40) (length cs) → get_or (row made cs) i None ≡ meaning made (get_or cs i d)
  row_get cs i d h =
      let a : i < 2 ^ 40 = omega arith in
      let b : i < length cs = omega arith in
      get_or-take (2 ^ 40) (map (meaning made) cs) i None a ∙ get_or-map (meaning made) cs i d None b

  pub row_set : (cs : List (Option N)) (i : ℕ) (c : Option N) → row made (set cs i c) ≡ set (row made cs) i (meaning made c)
  row_set cs i c = ap (take (2 ^ 40)) (map-set (meaning made) cs i c) ∙ take_set (2 ^ 40) (map (meaning made) cs) i (meaning made c)

  -- what is asked for is made of its own numbers
  pub plain_asked : (numbers : R → N) → ((n : N) (r : R) → made n ≡ Ok r → numbers r ≡ n) → (c : Option N) (v : Option R) → asked made c ≡ Ok v → c ≡ plain numbers v
  plain_asked numbers alone None v e = let z : v ≡ None = cc in sym (ap (plain numbers) z)
  plain_asked numbers alone (Some n) v e = by (made n) refl e
    where
      by : (m : Result R Decline) → made n ≡ m → held m ≡ Ok v → Some n ≡ plain numbers v
      by (Ok r) k e = let z : v ≡ Some r = cc in let a = alone n r k in sym (ap (plain numbers) z ∙ ap (λ m. Some m) a)
      by (Err d) k e = let z : ◌≡◌ {A = ℕ} 0 1 = cc in absurd (omega arith)

module _ {N : Type 0} where
  -- a slice's other cells after a write
  pub slice_others : (r : Result (Unit {0}) Decline) (cs : List (Option N)) (at : ℕ) (c : Option N) (k : ℕ) → (k ≡ at → is_ok r ≡ false) → get_or (slice_after r cs at c) k None ≡ get_or cs k None
  slice_others (Err d) cs at c k h = refl
  slice_others (Ok x) cs at c k h =
      let ne : k ≡ at → ⊥ = λ e. let f = h e in let z : ◌≡◌ {A = ℕ} 0 1 = cc in omega arith in
      get_or-set_other cs at k c None ne

  pub slice_named : (r : Result (Unit {0}) Decline) (cs : List (Option N)) (at : ℕ) (c : Option N) → r ≡ Ok tt → at < length cs → get_or (slice_after r cs at c) at None ≡ c
  slice_named (Err d) cs at c e h = let z : ◌≡◌ {A = ℕ} 0 1 = cc in absurd (omega arith)
  slice_named (Ok x) cs at c e h = get_or-set_same cs at c None h

-- a slice's named cell after a write that was taken
pub slice_made :
    {N R : Type 0} (made : N → Result R Decline) (numbers : R → N) → ((n : N) (r : R) → made n ≡ Ok r → numbers r ≡ n) →
    (r : Result (Unit {0}) Decline) (cs : List (Option N)) (at : ℕ) (c : Option N) →
    numbered r ≡ write_of (asked made c) (row made cs) at → r ≡ Ok tt →
    get_or (slice_after r cs at c) at None ≡ plain numbers (get_or (after (asked made c) (row made cs) at) at None)
slice_made {N} {R} made numbers alone r cs at c answer e =
    let w : write_of (asked made c) (row made cs) at ≡ Ok tt = sym answer ∙ ap numbered e in
    let h = taken_inside (asked made c) (row made cs) at w in
    let n = row_length made cs in
    slice_named r cs at c e (omega arith) ∙ go (asked made c) refl h w
  where
    go : (o : Result (Option R) Decline) → asked made c ≡ o → at < length (row made cs) → write_of o (row made cs) at ≡ Ok tt → c ≡ plain numbers (get_or (after o (row made cs) at) at None)
    go (Err d) k h w = let z : ◌≡◌ {A = ℕ} 0 1 = cc in absurd (omega arith)
    go (Ok v) k h w = plain_asked made numbers alone c v k ∙ ap (plain numbers) (sym (get_or-set_same (row made cs) at v None h))

pub err_not_ok : {d : Decline} → ◌≡◌ {A = Result (Unit {0}) Decline} (Err d) (Ok tt) → ⊥
err_not_ok e = let z : ◌≡◌ {A = ℕ} 0 1 = cc in omega arith

-- an answer without a decline
pub ok_numbered : {X : Type 0} (r : Result X Decline) (x : X) → numbered r ≡ Ok x → is_ok r ≡ true
ok_numbered (Ok y) x e = refl
ok_numbered (Err d) x e = let z : ◌≡◌ {A = ℕ} 0 1 = cc in absurd (omega arith)
