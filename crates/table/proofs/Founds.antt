-- What find and erase do with a record that is there, or not.
use Rattle.std.specs.Prelude.{None}
use Rattle.std.proofs.Common.{◌≡◌, ℕ, ◌+◌, ◌-◌, ◌<◌, ◌≤◌, length, get_or, set, Some, Ok, Option, sym, refl, ap, ◌∙◌, subst, inr, arith}
use Rattle.std.proofs.lemmas.Option.{same_Some}
use Rattle.std.proofs.lemmas.List.{get_or-set_other, get_or-set_same, length-set}
use Rattle.records.specs.declared.numbers.Words.{Words}
use Rattle.stores.specs.Makings.{Raw}
use Rattle.rules.specs.Calls.{Erased, Erases, Finds}
use Rattle.rules.specs.Tables.{State, HoldsAt, Sound, used_in}
use Rattle.rules.specs.Written.{Kept, Wrote}
use Rattle.rules.proofs.Erasures.{an_erase_keeps_sound}
use Rattle.rules.proofs.Tallies.{count_holding, count_set, each}
use Rattle.rules.proofs.Locations.{weight}
use Rattle.settle.proofs.Places.{same_ok}
use Rattle.lookup.specs.declared.hit.Hit.{Hit}
use Rattle.table.specs.Seeks.{Sought}

-- a table without its count
abbrev pub uncounted : {R : Type 0} → State R → State R
uncounted s = record { size = s.size; count = 0; cells = s.cells }

module _ {R K : Type 0} (key : R → K) (words : K → Words) (hash : Words → ℕ) (s : State R) (k : K) (o : Option (Hit R)) (so : Sought key words hash (uncounted s) k o) where
  pub holds : (h : Hit R) → o ≡ Some h → HoldsAt s h.cell h.held
  holds h e = let x = so.here h e in record { used = x.used; here = x.here }

  pub finds_some : (h : Hit R) → o ≡ Some h → Finds key s k (Some h.held)
  finds_some h e = record {
    found = λ r i. subst (λ x. ((c : ℕ) × HoldsAt s c x) × (key x ≡ k)) (same_Some h.held r i) ((h.cell, holds h e), so.same h e);
    nothing = λ i. cc;
  }

  -- a record is counted
  module _ (sound : Sound key words hash s) where
    pub some_count : (c : ℕ) (r : R) → HoldsAt s c r → 1 ≤ s.count
    some_count c r h =
        let l = h.used in
        let b = sound.reach in
        let a = count_set each s.cells c None (used_in s.size) h.used (omega arith) in
        let w = ap (weight each c) h.here in
        let d = count_holding s.cells (used_in s.size) in
        let e = sound.counted in
        omega arith

  module _ {N : Type 0} (code : ℕ → Option R → Raw N) (raw raw' : ℕ → Raw N) (h : Hit R) (is : o ≡ Some h) (u : State R)
      (size : u.size ≡ s.size) (count : u.count ≡ s.count - 1) (cells : u.cells ≡ set s.cells h.cell None)
      (others : (c : ℕ) → (c ≡ h.cell → ⊥) → raw' c ≡ raw c)
      (made : h.cell < length s.cells → raw' h.cell ≡ code h.cell None) where
    one_less : Sound key words hash s → u.count + 1 ≡ s.count
    one_less sound = let x = some_count sound h.cell h.held (holds h is) in omega arith

    erased : (sound : Sound key words hash s) → Erased key s k u (Wrote code raw raw' u.cells) h.held
    erased sound = record {
      cell = h.cell;
      holds = holds h is;
      same = so.same h is;
      size = size;
      count = one_less sound;
      cells = cells;
      wrote = record {
        others = others;
        made = λ c e.
            let l : h.cell < length s.cells = let x = (holds h is).used in let y = sound.reach in omega arith in
            subst (λ y. raw' y ≡ code y (get_or u.cells y None)) (sym e)
            (made l ∙ ap (code h.cell) (sym (ap (λ ys. get_or ys h.cell None) cells ∙ get_or-set_same s.cells h.cell None None l)));
      };
    }

    erases : Sound key words hash s → Erases key s k u (Wrote code raw raw' u.cells) (Ok h.held)
    erases sound = record {
      first = inr ((λ n. n (h.held, (h.cell, holds h is), so.same h is)), refl);
      declined = λ d e. cc;
      taken = λ r e. subst (Erased key s k u (Wrote code raw raw' u.cells)) (same_ok h.held r e) (erased sound);
    }

    erased_sound : Sound key words hash s → Sound key words hash u
    erased_sound sound = an_erase_keeps_sound key words hash s u h.cell h.held sound (holds h is) size (one_less sound) cells

    erased_kept : Kept (used_in s.size) s.cells u.cells raw raw'
    erased_kept =
        let l = (holds h is).used in
        record {
          reach = ap length cells ∙ length-set s.cells h.cell None;
          past = λ c n. ap (λ ys. get_or ys c None) cells ∙ get_or-set_other s.cells h.cell c None None (λ e. omega arith);
          made = λ c n. others c (λ e. omega arith);
        }

    -- what an erase leaves, and what it answers
    pub erase_leaves :
        (Sound key words hash s → Erases key s k u (Wrote code raw raw' u.cells) (Ok h.held)) × (Sound key words hash s → Sound key words hash u)
        × Kept (used_in s.size) s.cells u.cells raw raw'
    erase_leaves = (erases, erased_sound, erased_kept)
