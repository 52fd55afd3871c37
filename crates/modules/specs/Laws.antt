-- What holds of modules: one answer only for check, find and open, and what was closed opens with the same numbers.
use Rattle.std.specs.Prelude.{◌≡◌, ℕ, ◌*◌, List, length, Ok, Option, Result}
use Rattle.records.specs.declared.declines.Decline.{Decline}
use Rattle.records.specs.declared.numbers.Words.{Words}
use Rattle.trailers.specs.declared.closing.TableNumbers.{TableNumbers}
use Rattle.trailers.specs.Closing.{Closed}
use Rattle.trailers.specs.Trailers.{LawfulTrailer}
use Rattle.modules.specs.declared.faults.Fault.{Fault}
use Rattle.modules.specs.declared.opens.Opened.{Opened}
use Rattle.modules.specs.Modules.{ModuleChecks, FindsCell, FindsRecord}
use Rattle.modules.specs.Opens.{FirstOpens, SecondOpens}
use Rattle.modules.specs.Parts.{part_of}

abbrev pub CheckHasOneAnswer : Type 0
CheckHasOneAnswer = (bs : List ℕ) (r q : Result (Unit {0}) Fault) → ModuleChecks bs r → ModuleChecks bs q → r ≡ q

abbrev pub FindCellHasOneAnswer : Type 0
FindCellHasOneAnswer = (bs : List ℕ) (w : Words) (r q : Result (Option ℕ) Decline) → FindsCell bs w r → FindsCell bs w q → r ≡ q

abbrev pub FindHasOneAnswer : Type 0 → Type 0
FindHasOneAnswer R =
    (D : List ℕ → Option R) (words : R → Words) (bs : List ℕ) (w : Words) (r q : Result (Option R) Decline) →
    FindsRecord D words bs w r → FindsRecord D words bs w q → r ≡ q

abbrev pub OpenHasOneAnswer : Type 0 → Type 0 → Type 0
OpenHasOneAnswer R K =
    (D : List ℕ → Option R) (k f : ℕ) (key : R → K) (words : K → Words) (hash : Words → ℕ) (bs : List ℕ) (r q : Result (Unit {0}) Fault) →
    FirstOpens D k f key words hash bs r → FirstOpens D k f key words hash bs q → r ≡ q

-- What close wrote has a lawful trailer, and where the module opens it gives the numbers back that were closed, over as many cells.
abbrev pub WhatWasClosedOpens : Type 0 → Type 0 → Type 0
WhatWasClosedOpens R K =
    (D : List ℕ → Option R) (k f : ℕ) (key : R → K) (words : K → Words) (hash : Words → ℕ) (bs cs : List ℕ) (n : TableNumbers) (o : Opened) →
    Closed bs n (Ok tt) cs → SecondOpens D k f key words hash cs o →
    LawfulTrailer cs × (FirstOpens D k f key words hash cs (Ok tt) → (o.size ≡ n.size) × (o.count ≡ n.count) × (length (part_of cs o.part) ≡ 32 * n.cells))
