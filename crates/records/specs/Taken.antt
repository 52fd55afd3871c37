-- Calls that are taken or declined, and the declines by their numbers.
use Rattle.std.specs.Prelude.{◌≡◌, ℕ, cond, Ok, Err, Result, ◌==◌, refl}
use Rattle.std.proofs.Common.{sym, ap, ◌∙◌}
use Rattle.records.specs.declared.declines.Decline.{Decline}
use Rattle.records.specs.declared.declines.Decline.TheVariants.{BadSetting, StoreTooSmall, NoPlate, OutOfRange, ShortSpace, KeyStored, KeyAbsent, Full, TooManyBuckets, NoCellsToAdd, LoadTooLow, AtFloor, NoSuchCell, BadTrailer, BadCell, Misplaced, Repeated, WrongCount, UnreadableLine}
use Rattle.records.specs.Declines.{number, TakenIf}

-- the same call, by another wording of its rule
pub taken_as :
    {X : Type 0} {P P' : Type 0} (n : ℕ) {Q Q' : X → Type 0} (r : Result X Decline) →
    TakenIf P n Q r → (P → P') → (P' → P) → ((x : X) → P → Q x → Q' x) → TakenIf P' n Q' r
taken_as n (Ok x) h to from q = (to h.0, q x h.0 h.1)
taken_as n (Err d) h to from q = (λ p'. h.0 (from p'), h.1)

-- the decline with a number
abbrev by_number : ℕ → Decline
by_number n =
    cond (n == 1) BadSetting (cond (n == 2) StoreTooSmall (cond (n == 3) NoPlate (cond (n == 4) OutOfRange (cond (n == 5) ShortSpace (cond (n == 6) KeyStored (cond (n == 7) KeyAbsent (cond (n == 8) Full (cond (n == 9) TooManyBuckets (cond (n == 10) NoCellsToAdd (cond (n == 11) LoadTooLow (cond (n == 12) AtFloor (cond (n == 13) NoSuchCell (cond (n == 14) BadTrailer (cond (n == 15) BadCell (cond (n == 16) Misplaced (cond (n == 17) Repeated (cond (n == 18) WrongCount (UnreadableLine))))))))))))))))))

back : (d : Decline) → by_number (number d) ≡ d
back BadSetting = refl
back StoreTooSmall = refl
back NoPlate = refl
back OutOfRange = refl
back ShortSpace = refl
back KeyStored = refl
back KeyAbsent = refl
back Full = refl
back TooManyBuckets = refl
back NoCellsToAdd = refl
back LoadTooLow = refl
back AtFloor = refl
back NoSuchCell = refl
back BadTrailer = refl
back BadCell = refl
back Misplaced = refl
back Repeated = refl
back WrongCount = refl
back UnreadableLine = refl

-- one number, one decline
pub same_decline : (d e : Decline) → number d ≡ number e → d ≡ e
same_decline d e h = sym (back d) ∙ ap by_number h ∙ back e
