-- One cell of bytes is replaced.
use Rattle.std.specs.Prelude.{Some, None}
use Rattle.std.proofs.Common.{◌≡◌, ℕ, ◌+◌, ◌-◌, ◌*◌, ◌/◌, ◌^◌, ◌<◌, ◌≤◌, min, false, ◌≢◌, List, [], ◌++◌, length, get_or, take, drop, set, is_ok, Ok, Err, Option, Result, sym, refl, ap, ◌∙◌, ⊎_elim, arith, get_or-set_other, get_or-set_same, le-ltb, lt-ltb}
use borrow.Rule.Slice.PartMut.{put_mid}
use Rattle.std.proofs.lemmas.List.FromFn.{length-map-range_with_len, get_or-map-range_with_len}
use Rattle.std.proofs.lemmas.List.{length-take-le, length-drop, take_all, drop_all, drop_at, take_at, drop-take, same_lists, length-set, drop-drop}
use Rattle.std.proofs.lemmas.Slice.{take-put_mid_below, drop-put_mid}
use Rattle.std.proofs.lemmas.Bool.{cases_order, cases_lt, both_ways}
use Rattle.records.specs.declared.declines.Decline.{Decline}
use Rattle.stores.specs.Cells.{after, numbered, write_of}
use Rattle.stores.proofs.Rows.{taken_inside, write_in, ok_numbered}
use Rattle.octets.specs.Codec.{byte_row, bytes_after, cell_at_lem, cell_bytes, cells_of, coded}

-- a part that ends early is what there is
pub part_short : (bs : List ℕ) (k n : ℕ) → length bs - k ≤ n → take n (drop k bs) ≡ drop k bs
part_short bs k n h = take_all n (drop k bs) (let e = length-drop k bs in omega arith)

pub part_none : (bs : List ℕ) (k n : ℕ) → length bs ≤ k → take n (drop k bs) ≡ []
part_none bs k n h = ap (take n) (drop_all k bs h) ∙ take_all n [] (omega arith)

-- a part that is cut off at the end
pub part_cut : (bs : List ℕ) (from width k n : ℕ) → k ≡ min from (length bs) → n ≡ min width (length bs - k) → take n (drop k bs) ≡ take width (drop from bs)
part_cut bs from width k n e f =
    ⊎_elim
    (λ (h : from < length bs).
    let ke : k ≡ from = omega arith in
    ap (λ k. take n (drop k bs)) ke
    ∙ ⊎_elim
    (λ (s : length bs - from < width). part_short bs from n (omega arith) ∙ sym (part_short bs from width (omega arith)))
    (λ (s : width ≤ length bs - from). let ne : n ≡ width = omega arith in ap (λ n. take n (drop from bs)) ne)
    (cases_lt (length bs - from) width))
    (λ (h : length bs ≤ from). part_none bs k n (omega arith) ∙ sym (part_none bs from width h))
    (cases_lt from (length bs))

module _ {R : Type 0} (D : List ℕ → Option R) where
  pub row_length : (bs : List ℕ) → length (byte_row D bs) ≡ cells_of bs
  row_length bs = length-map-range_with_len (cell_at_lem D bs) 0 (cells_of bs)

  pub row_get : (bs : List ℕ) (k : ℕ) (d : Option R) → k < cells_of bs → get_or (byte_row D bs) k d ≡ cell_at_lem D bs k
  row_get bs k d h = get_or-map-range_with_len (cell_at_lem D bs) 0 (cells_of bs) k k d h (omega arith)

module _ (bs ys : List ℕ) (at : ℕ) (fits : 32 * at + 32 ≤ length bs) (full : length ys ≡ 32) where
  here : cell_bytes (put_mid (32 * at) 32 bs ys) at ≡ ys
  here =
      let l : length (take (32 * at) bs) ≡ 32 * at = length-take-le (32 * at) bs (omega arith) in
      ap (take 32) (drop_at (take (32 * at) bs) _ (32 * at) l) ∙ take_at ys _ 32 full

  before : (k : ℕ) → k < at → cell_bytes (put_mid (32 * at) 32 bs ys) k ≡ cell_bytes bs k
  before k h =
      sym (drop-take (32 * k) 32 (put_mid (32 * at) 32 bs ys))
      ∙ ap (drop (32 * k)) (take-put_mid_below (32 * at) 32 bs ys (32 * k + 32) (omega arith) (omega arith))
      ∙ drop-take (32 * k) 32 bs

  behind : (k : ℕ) → at < k → cell_bytes (put_mid (32 * at) 32 bs ys) k ≡ cell_bytes bs k
  behind k h = ap (take 32) (drop-put_mid (32 * at) 32 bs ys (32 * k) (omega arith) (omega arith) full)

  others : (k : ℕ) → (k ≡ at → ⊥) → cell_bytes (put_mid (32 * at) 32 bs ys) k ≡ cell_bytes bs k
  others k ne = ⊎_elim (λ (z : k ≡ at). absurd (ne z)) (⊎_elim (λ (z : k < at). before k z) (λ (z : at < k). behind k z)) (cases_order k at)

  pub written : {R : Type 0} (D : List ℕ → Option R) → length (put_mid (32 * at) 32 bs ys) ≡ length bs → at < cells_of bs → byte_row D (put_mid (32 * at) 32 bs ys) ≡ set (byte_row D bs) at (D ys)
  written {R} D same lt =
      let ps = put_mid (32 * at) 32 bs ys in
      let v = D ys in
      let a : length (byte_row D ps) ≡ length (byte_row D bs) = row_length D ps ∙ ap (λ n. min (2 ^ 40) (n / 32)) same ∙ sym (row_length D bs) in
      let inside : at < length (byte_row D bs) = omega (arith, row_length D bs) in
      same_lists (byte_row D ps) (set (byte_row D bs) at v) (a ∙ sym (length-set (byte_row D bs) at v))
      (λ k d h.
      let kb : k < cells_of bs = omega (arith, a, h, row_length D bs) in
      let kp : k < cells_of ps = omega (arith, h, row_length D ps) in
      row_get D ps k d kp
      ∙ ⊎_elim (λ (z : k ≡ at). ap (λ j. cell_at_lem D ps j) z ∙ ap (λ c. D c) here ∙ sym (ap (λ j. get_or (set (byte_row D bs) at v) j d) z ∙ get_or-set_same (byte_row D bs) at v d inside))
      (⊎_elim
      (λ (z : k < at). let ne : k ≢ at = omega (arith, z) in ap (λ c. D c) (before k z) ∙ sym (get_or-set_other (byte_row D bs) at k v d ne ∙ row_get D bs k d kb))
      (λ (z : at < k). let ne : k ≢ at = omega (arith, z) in ap (λ c. D c) (behind k z) ∙ sym (get_or-set_other (byte_row D bs) at k v d ne ∙ row_get D bs k d kb)))
      (cases_order k at))

module _ {R : Type 0} (E : R → List ℕ) where
  -- the bytes after a write that is taken
  pub raw_in : (v : Option R) (bs : List ℕ) (at : ℕ) → at < cells_of bs → put_mid (32 * at) 32 bs (coded E v) ≡ bytes_after E (Ok v) bs at
  raw_in v bs at h =
      let e : drop 32 (drop (32 * at) bs) ≡ drop (32 * at + 32) bs = drop-drop 32 (32 * at) bs in
      sym (rw (lt-ltb at (cells_of bs) h) (ap (λ zs. take (32 * at) bs ++ (coded E v ++ zs)) (sym e)))

  pub raw_out : (v : Option R) (bs : List ℕ) (at : ℕ) → cells_of bs ≤ at → bs ≡ bytes_after E (Ok v) bs at
  raw_out v bs at h = sym (rw (le-ltb at (cells_of bs) h))

  -- the cells as bytes after a write, from the bytes after it
  module _ (sized : (r : R) → length (E r) ≡ 32) where
    coded_length : (v : Option R) → length (coded E v) ≡ 32
    coded_length v = elim v as (λ v. length (coded E v) ≡ 32) [ None ↦ refl | Some r ↦ sized r ]

    pub bytes_others :
        (D : List ℕ → Option R) (o : Result (Option R) Decline) (r : Result (Unit {0}) Decline) (bs : List ℕ) (at k : ℕ) → numbered r ≡ write_of o (byte_row D bs) at →
        (k ≡ at → is_ok r ≡ false) → cell_bytes (bytes_after E o bs at) k ≡ cell_bytes bs k
    bytes_others D (Err d) r bs at k a h = refl
    bytes_others D (Ok v) r bs at k a h =
        ⊎_elim (λ (lt : at < cells_of bs).
        let n = row_length D bs in
        let inside : at < length (byte_row D bs) = omega arith in
        let ok = ok_numbered r tt (a ∙ write_in v (byte_row D bs) at inside) in
        let ne : k ≡ at → ⊥ = λ e. both_ways (is_ok r) (h e) ok in
        ap (λ zs. cell_bytes zs k) (sym (raw_in v bs at lt)) ∙ others bs (coded E v) at (omega arith) (coded_length v) k ne)
        (λ (ge : cells_of bs ≤ at). ap (λ zs. cell_bytes zs k) (sym (raw_out v bs at ge)))
        (cases_lt at (cells_of bs))

    pub bytes_made :
        (D : List ℕ → Option R) (o : Result (Option R) Decline) (r : Result (Unit {0}) Decline) (bs : List ℕ) (at : ℕ) → numbered r ≡ write_of o (byte_row D bs) at → r ≡ Ok tt →
        cell_bytes (bytes_after E o bs at) at ≡ coded E (get_or (after o (byte_row D bs) at) at None)
    bytes_made D o r bs at a e = go o (sym a ∙ ap numbered e)
      where
        go : (o : Result (Option R) Decline) → write_of o (byte_row D bs) at ≡ Ok tt → cell_bytes (bytes_after E o bs at) at ≡ coded E (get_or (after o (byte_row D bs) at) at None)
        go (Err d) w = let z : ◌≡◌ {A = ℕ} 0 1 = cc in absurd (omega arith)
        go (Ok v) w =
            let inside = taken_inside (Ok v) (byte_row D bs) at w in
            let n = row_length D bs in
            let lt : at < cells_of bs = omega arith in
            ap (λ zs. cell_bytes zs at) (sym (raw_in v bs at lt)) ∙ here bs (coded E v) at (omega arith) (coded_length v)
            ∙ ap (coded E) (sym (get_or-set_same (byte_row D bs) at v None inside))
