-- A table as placing a record sees it is lawful.
use Rattle.std.specs.Prelude.{Option}
use Rattle.std.proofs.Common.{ℕ, ◌+◌, ◌*◌, ◌/◌, ◌%◌, ◌^◌, ◌≤◌, List, length, arith}
use Rattle.std.proofs.lemmas.Nat.{mod_below}
use Rattle.records.specs.declared.numbers.Words.{Words}
use Rattle.addresses.specs.declared.sizes.Size.{Size}
use Rattle.addresses.specs.Positions.{choice_of}
use Rattle.addresses.proofs.Steps.{choices_lie_below}
use Rattle.rules.specs.Placements.{Lawful, placement_of}
use Rattle.rules.specs.Tables.{used_in}

-- where the store has the used cells
pub lawful_placement :
    {R : Type 0} (words : R → Words) (hash : Words → ℕ) (z : Size) (cs : List (Option R)) → used_in z ≤ length cs →
    Lawful (placement_of words hash z cs)
lawful_placement words hash z cs reach = record {
  few = z.room;
  some_cells = z.settings.some_cells;
  few_cells = z.settings.few_cells;
  two_choices = z.settings.two_choices;
  few_choices = z.settings.few_choices;
  inside = λ v i h. choices_lie_below z (choice_of v i) (mod_below (v / 2 ^ 32 + i * (v % 2 ^ 32)) (2 ^ 32) (omega arith));
  reach = reach;
}
