-- How a fault is printed.
use Rattle.std.specs.Prelude.{ℕ, List, [], ◌∷◌, ◌++◌, Some, None, Option}
use Rattle.std.specs.Fmt.{decimal}

-- the decline's number, and " cell " and the cell's, if one is named
abbrev pub fault_text : Option ℕ → ℕ → List ℕ
fault_text None n = decimal n
fault_text (Some c) n = decimal n ++ (32 ∷ 99 ∷ 101 ∷ 108 ∷ 108 ∷ 32 ∷ []) ++ decimal c
