-- Tables that are sound.
use Rattle.std.specs.Prelude.{Some, None, Option}
use Rattle.std.proofs.Common.{◌≡◌, ℕ, get_or, sym, ap, ◌∙◌, arith}
use Rattle.rules.specs.Tables.{State, holding, used_in}
use Rattle.rules.specs.Theorems.{AnEmptyTableIsSound}
use Rattle.rules.proofs.Counted.{count_none}

-- a cell is not empty and held, and holds one record
pub not_both : {R : Type 0} (c : Option R) (r : R) → c ≡ None → c ≡ Some r → ⊥
not_both c r e h = let z : ◌≡◌ {A = ℕ} 0 1 = cc in omega arith

pub same_held : {R : Type 0} (c : Option R) (q r : R) → c ≡ Some q → c ≡ Some r → q ≡ r
same_held c q r p e = cc

-- two states of the same parts are one
pub same_state : {R : Type 0} {s u : State R} → s.size ≡ u.size → s.count ≡ u.count → s.cells ≡ u.cells → s ≡ u
same_state z n cs = λ i. record { size = z i; count = n i; cells = cs i }

pub an_empty_table_is_sound : {R K : Type 0} → AnEmptyTableIsSound R K
an_empty_table_is_sound key words hash s reach empty none = record {
  reach = reach;
  home = λ c r h. absurd (not_both (get_or s.cells c None) r (empty c h.used) h.here);
  once = λ b c q r h k e. absurd (not_both (get_or s.cells b None) q (empty b h.used) h.here);
  counted = count_none holding s.cells (used_in s.size) None reach (λ i l. ap holding (empty i l)) ∙ sym none;
}
