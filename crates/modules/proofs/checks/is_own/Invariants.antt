use Rattle.std.proofs.Common.{◌≡◌, ℕ, ◌<◌}
use Rattle.addresses.specs.Positions.{choice_of}
use Rattle.addresses.specs.Sized.{place_in}
use Rattle.modules.proofs.checks.is_own.Given as goal

abbrev pub invariant-loop-i : goal.invariant-loop-i
invariant-loop-i g l = (k : ℕ) → k < l.i → place_in l.size (choice_of l.word k) ≡ l.p → ⊥
