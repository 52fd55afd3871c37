-- Parts of a module.
use Rattle.std.specs.Prelude.{◌≡◌, ℕ, ◌-◌, ◌%◌, ◌^◌, ◌≤◌, cond, List, [], length, take, drop, nat_le}
use Rattle.modules.specs.declared.parts.Part.{Part}

-- the bytes of a part, none where it does not lie in the module
abbrev pub part_of : List ℕ → Part → List ℕ
part_of bs p = cond (nat_le p.start p.end) (cond (nat_le p.end (length bs)) (take (p.end - p.start) (drop p.start bs)) []) []

-- the cells of a new module: all the whole 32s directly before its trailer, none in a module that is too short or too long
pub record NewPart (len : ℕ) (p : Part) : Type 0 where
  pub lawful : 32 ≤ len → len ≤ 2 ^ 31 → (p.end ≡ len - 32) × (p.start ≡ (len - 32) % 32)
  pub other : ((32 ≤ len) × (len ≤ 2 ^ 31) → ⊥) → (p.end ≡ 0) × (p.start ≡ 0)
