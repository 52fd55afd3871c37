-- A sound table after a record is taken out.
use Rattle.std.specs.Prelude.{Some, None, Option}
use Rattle.std.proofs.Common.{◌≡◌, ℕ, ◌+◌, ◌<◌, ◌≤◌, ◌≢◌, List, length, get_or, take, set, sym, refl, ap, ◌∙◌, subst, arith}
use Rattle.std.proofs.lemmas.List.{get_or-set_same, get_or-set_other, length-set}
use Rattle.records.specs.declared.numbers.Words.{Words}
use Rattle.assignment.specs.Assign.{count}
use Rattle.rules.specs.Tables.{State, HoldsAt, Sound, holding, used_in}
use Rattle.rules.specs.Theorems.{AnEraseKeepsSound}
use Rattle.rules.proofs.Locations.{weight}
use Rattle.rules.proofs.Sounds.{not_both, same_state}
use Rattle.rules.proofs.Tallies.{count_holding, count_set, each}

-- one record less
one_less :
    {R : Type 0} (cs : List (Option R)) (n c : ℕ) (r : R) → c < n → n ≤ length cs → get_or cs c None ≡ Some r →
    count holding (take n (set cs c None)) + 1 ≡ count holding (take n cs)
one_less cs n c r l reach e =
    let a = count_holding cs n in
    let b = count_holding (set cs c None) n in
    let w = ap (weight each c) e in
    let x = count_set each cs c None n l (omega arith) in
    omega arith

module _ {R K : Type 0} (key : R → K) (words : K → Words) (hash : Words → ℕ) (s : State R) (m c : ℕ) (r : R)
    (sound : Sound key words hash s) (holds : HoldsAt s c r) (less : m + 1 ≡ s.count) where
  abbrev left : State R
  left = record { size = s.size; count = m; cells = set s.cells c None }

  inside : c < length s.cells
  inside = let a = holds.used in let b = sound.reach in omega arith

  -- what is there was there
  was : (x : ℕ) (q : R) → HoldsAt left x q → HoldsAt s x q
  was x q h =
      let ne : x ≢ c =
      λ e.
      not_both (get_or (set s.cells c None) x None) q
      (ap (λ y. get_or (set s.cells c None) y None) e ∙ get_or-set_same s.cells c None None inside)
      h.here in
      record { used = h.used; here = sym (get_or-set_other s.cells c x None None ne) ∙ h.here }

  erased_sound : Sound key words hash left
  erased_sound = record {
    reach = let a = sound.reach in let b = length-set s.cells c None in omega arith;
    home = λ x q h. sound.home x q (was x q h);
    once = λ x y q t h k e. sound.once x y q t (was x q h) (was y t k) e;
    counted =
        let a = one_less s.cells (used_in s.size) c r holds.used sound.reach holds.here in
        let b = sound.counted in
        omega arith;
  }

pub an_erase_keeps_sound : {R K : Type 0} → AnEraseKeepsSound R K
an_erase_keeps_sound key words hash s u c r sound holds size count cells =
    subst (Sound key words hash) (sym (same_state size refl cells)) (erased_sound key words hash s u.count c r sound holds count)
