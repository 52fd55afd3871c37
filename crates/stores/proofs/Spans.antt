-- Parts of rows of cells, and rows end to end.
use Rattle.std.specs.Prelude.{None, Option}
use Rattle.std.proofs.Common.{◌≡◌, ℕ, ◌+◌, ◌-◌, ◌<◌, ◌≤◌, min, List, ◌++◌, length, get_or, take, drop, Ok, Err, Result, sym, refl, ap, ◌∙◌, ⊎_elim, le-ltb, lt-ltb}
use Rattle.std.proofs.lemmas.List.{length-take, length-drop, length-append, get_or-take, get_or-drop, get_or_append_left, get_or-append_right, set-append_left, set-append_right, drop-set-add, set_past, take-set-le, drop-set-lt}
use Rattle.std.proofs.lemmas.Bool.{cases_lt}
use Rattle.records.specs.declared.declines.Decline.{Decline}
use Rattle.stores.specs.Cells.{read_of, write_of, after}
use Rattle.stores.specs.Makings.{either}
use Rattle.stores.proofs.Rows.{read_in, write_in, write_out, take_set}

module _ {R : Type 0} where
  -- a place in one row, and a place in another with the same cell
  pub read_same : (xs ys : List (Option R)) (i j : ℕ) → i < length xs → j < length ys → get_or xs i None ≡ get_or ys j None → read_of xs i ≡ read_of ys j
  read_same xs ys i j h k e = read_in xs i h ∙ ap (λ c. Ok c) e ∙ sym (read_in ys j k)

  pub write_same : (o : Result (Option R) Decline) (xs ys : List (Option R)) (i j : ℕ) → i < length xs → j < length ys → write_of o xs i ≡ write_of o ys j
  write_same (Err d) xs ys i j h k = refl
  write_same (Ok v) xs ys i j h k = write_in v xs i h ∙ sym (write_in v ys j k)

  -- past the end, where the numbers make a record
  pub write_past : (o : Result (Option R) Decline) (v : Option R) (xs : List (Option R)) (i : ℕ) → o ≡ Ok v → length xs ≤ i → Err 13 ≡ write_of o xs i
  write_past o v xs i e h = sym (ap (λ o. write_of o xs i) e ∙ write_out v xs i h)

  pub after_past : (o : Result (Option R) Decline) (xs : List (Option R)) (i : ℕ) → length xs ≤ i → xs ≡ after o xs i
  after_past (Err d) xs i h = refl
  after_past (Ok v) xs i h = sym (set_past xs i v h)

  pub after_take : (o : Result (Option R) Decline) (n : ℕ) (xs : List (Option R)) (i : ℕ) → take n (after o xs i) ≡ after o (take n xs) i
  after_take (Err d) n xs i = refl
  after_take (Ok v) n xs i = take_set n xs i v

  pub after_left : (o : Result (Option R) Decline) (xs ys : List (Option R)) (i : ℕ) → i < length xs → after o xs i ++ ys ≡ after o (xs ++ ys) i
  after_left (Err d) xs ys i h = refl
  after_left (Ok v) xs ys i h = sym (set-append_left xs ys i v h)

  pub after_right : (o : Result (Option R) Decline) (xs ys : List (Option R)) (n i : ℕ) → length xs ≡ n → n ≤ i → xs ++ after o ys (i - n) ≡ after o (xs ++ ys) i
  after_right (Err d) xs ys n i e h = refl
  after_right (Ok v) xs ys n i e h = sym (set-append_right xs ys n i v e h)

  pub after_drop : (o : Result (Option R) Decline) (n : ℕ) (xs : List (Option R)) (i : ℕ) → drop n (after o xs (n + i)) ≡ after o (drop n xs) i
  after_drop (Err d) n xs i = refl
  after_drop (Ok v) n xs i = drop-set-add n xs i v

  pub after_before : (o : Result (Option R) Decline) (n : ℕ) (xs : List (Option R)) (i : ℕ) → n ≤ i → take n (after o xs i) ≡ take n xs
  after_before (Err d) n xs i h = refl
  after_before (Ok v) n xs i h = take-set-le n xs i v h

  pub after_behind : (o : Result (Option R) Decline) (n : ℕ) (xs : List (Option R)) (i : ℕ) → i < n → drop n (after o xs i) ≡ drop n xs
  after_behind (Err d) n xs i h = refl
  after_behind (Ok v) n xs i h = drop-set-lt n xs i v h

  pub joined_length : (m : ℕ) (xs ys : List (Option R)) → length (take m (xs ++ ys)) ≡ min m (length xs + length ys)
  joined_length m xs ys = length-take m (xs ++ ys) ∙ ap (λ n. min m n) (length-append xs ys)

  pub window_length : (start len : ℕ) (xs : List (Option R)) → length (take len (drop start xs)) ≡ min len (length xs - start)
  window_length start len xs = length-take len (drop start xs) ∙ ap (λ n. min len n) (length-drop start xs)

  pub joined_left : (m : ℕ) (xs ys : List (Option R)) (i : ℕ) → i < m → i < length xs → get_or xs i None ≡ get_or (take m (xs ++ ys)) i None
  joined_left m xs ys i a b = sym (get_or-take m (xs ++ ys) i None a ∙ get_or_append_left xs ys None i b)

  pub joined_right : (m : ℕ) (xs ys : List (Option R)) (n i : ℕ) → i < m → length xs ≡ n → n ≤ i → get_or ys (i - n) None ≡ get_or (take m (xs ++ ys)) i None
  joined_right m xs ys n i a e b = sym (get_or-take m (xs ++ ys) i None a ∙ get_or-append_right xs ys n i None e b)

  pub window_get : (start len : ℕ) (xs : List (Option R)) (i : ℕ) → i < len → get_or xs (start + i) None ≡ get_or (take len (drop start xs)) i None
  window_get start len xs i h = sym (get_or-take len (drop start xs) i None h ∙ get_or-drop start xs i None)

-- what belongs to a cell of two things end to end
module _ {X : Type 0} where
  pub either_first : (n : ℕ) (f g : ℕ → X) (k : ℕ) → k < n → either n f g k ≡ f k
  either_first n f g k h = rw (lt-ltb k n h)

  pub either_second : (n : ℕ) (f g : ℕ → X) (k : ℕ) → n ≤ k → either n f g k ≡ g (k - n)
  either_second n f g k h = rw (le-ltb k n h)

  pub either_same : (n n' : ℕ) (f f' g g' : ℕ → X) (k : ℕ) → n' ≡ n → (k < n → f' k ≡ f k) → (n ≤ k → g' (k - n) ≡ g (k - n)) → either n' f' g' k ≡ either n f g k
  either_same n n' f f' g g' k e p q =
      ap (λ m. either m f' g' k) e
      ∙ ⊎_elim (λ (h : k < n). either_first n f' g' k h ∙ p h ∙ sym (either_first n f g k h))
      (λ (h : n ≤ k). either_second n f' g' k h ∙ q h ∙ sym (either_second n f g k h))
      (cases_lt k n)
