-- Reading one cell, and putting something into one.
use Rattle.std.specs.Prelude.{Some, None, Option}
use Rattle.std.proofs.Common.{◌≡◌, ℕ, ◌<◌, List, length, get_or, set, Ok, Err, Result, sym, refl, ap, ◌∙◌, subst}
use Rattle.std.proofs.lemmas.List.{get_or-set_same}
use Rattle.records.specs.declared.declines.Decline.{Decline}
use Rattle.stores.specs.Cells.{asked, held, numbered, plain}
use Rattle.stores.specs.Makings.{Raw}

-- a record's own numbers ask for it
pub asked_again :
    {N R : Type 0} (made : N → Result R Decline) (numbers : R → N) → ((r : R) → made (numbers r) ≡ Ok r) →
    (v : Option R) → asked made (plain numbers v) ≡ Ok v
asked_again made numbers again None = refl
asked_again made numbers again (Some r) = ap held (again r)

-- an answer without a decline was taken
pub taken : (r : Result (Unit {0}) Decline) → numbered r ≡ Ok tt → r ≡ Ok tt
taken (Ok x) e = refl
taken (Err d) e = cc

-- what a cell is made of once something was put there
pub made_of :
    {N R : Type 0} (code : ℕ → Option R → Raw N) (x : Raw N) (cs cs' : List (Option R)) (at : ℕ) (v : Option R) →
    x ≡ code at (get_or cs' at None) → cs' ≡ set cs at v → at < length cs → x ≡ code at v
made_of code x cs cs' at v h e l = h ∙ ap (λ ys. code at (get_or ys at None)) e ∙ ap (code at) (get_or-set_same cs at v None l)

-- what holds of the store that a loan gives back
pub carried : {S : Type 0} (P : S → Type 0) (x y : S) → x ≡ y → P y → P x
carried P x y e h = subst P (sym e) h
