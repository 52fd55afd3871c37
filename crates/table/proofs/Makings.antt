-- What make leaves.
use Rattle.std.specs.Prelude.{Option}
use Rattle.std.proofs.Common.{◌≡◌, ℕ, ◌≤◌, List, length, Ok, Result, refl, subst, arith}
use Rattle.records.specs.declared.declines.Decline.{Decline}
use Rattle.records.specs.declared.numbers.Words.{Words}
use Rattle.addresses.specs.declared.sizes.Size.{Size}
use Rattle.rules.specs.Calls.{Emptied}
use Rattle.rules.specs.Tables.{Sound, used_in}
use Rattle.rules.proofs.Sounds.{an_empty_table_is_sound}
use Rattle.settle.proofs.Places.{same_ok}

-- with all used cells emptied, the starting size with these settings makes a sound table
pub new_sound :
    {R K : Type 0} (z : Size) (m : ℕ) → m ≡ used_in z → (old after : List (Option R)) → m ≤ length old → Emptied 0 m old after →
    (key : R → K) (words : K → Words) (hash : Words → ℕ) (y : Size) → ◌≡◌ {A = Result Size Decline} (Ok z) (Ok y) → Sound key words hash (record { size = y; count = 0; cells = after })
new_sound z m all old after reach emptied key words hash y e =
    subst (λ q. Sound key words hash (record { size = q; count = 0; cells = after })) (same_ok z y e)
    (an_empty_table_is_sound key words hash (record { size = z; count = 0; cells = after })
    (let r = emptied.reach in omega arith)
    (λ c l. emptied.inside c (omega arith) (omega arith))
    refl)
