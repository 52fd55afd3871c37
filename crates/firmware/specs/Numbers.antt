-- The answers of check and find as the numbers that the firmware gets.
use Rattle.std.specs.Prelude.{ℕ, ◌+◌, ◌*◌, Some, None, Ok, Err, Option, Result}
use Rattle.records.specs.declared.declines.Decline.{Decline}
use Rattle.records.specs.Declines.{number}
use Rattle.modules.specs.declared.faults.Fault.{Fault}

-- 256 times the cell that is named, if one is
abbrev pub named : Option ℕ → ℕ
named None = 0
named (Some k) = 256 * k

abbrev pub check_number_lem : Result (Unit {0}) Fault → ℕ
check_number_lem (Ok _) = 0
check_number_lem (Err f) = number f.decline + named f.cell

-- 256 times the cell's number plus one, 0 for nothing
abbrev pub found : Option ℕ → ℕ
found None = 0
found (Some k) = 256 * (k + 1)

abbrev pub find_number_lem : Result (Option ℕ) Decline → ℕ
find_number_lem (Ok o) = found o
find_number_lem (Err d) = number d
