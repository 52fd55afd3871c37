-- The numbers of the declines, and calls that are taken or declined.
use Rattle.std.specs.Prelude.{◌≡◌, ℕ, Ok, Err, Result}
use Rattle.records.specs.declared.declines.Decline.{Decline}
use Rattle.records.specs.declared.declines.Decline.TheVariants.{BadSetting, StoreTooSmall, NoPlate, OutOfRange, ShortSpace, KeyStored, KeyAbsent, Full, TooManyBuckets, NoCellsToAdd, LoadTooLow, AtFloor, NoSuchCell, BadTrailer, BadCell, Misplaced, Repeated, WrongCount, UnreadableLine}

-- the number by which a decline is known
abbrev pub number : Decline → ℕ
number BadSetting = 1
number StoreTooSmall = 2
number NoPlate = 3
number OutOfRange = 4
number ShortSpace = 5
number KeyStored = 6
number KeyAbsent = 7
number Full = 8
number TooManyBuckets = 9
number NoCellsToAdd = 10
number LoadTooLow = 11
number AtFloor = 12
number NoSuchCell = 13
number BadTrailer = 14
number BadCell = 15
number Misplaced = 16
number Repeated = 17
number WrongCount = 18
number UnreadableLine = 19

-- A call is taken exactly where the rule P holds, and then Q says what it gives; else it is declined with the number n.
abbrev pub TakenIf : {X : Type 0} → Type 0 → ℕ → (X → Type 0) → Result X Decline → Type 0
TakenIf P n Q (Ok x) = P × Q x
TakenIf P n Q (Err d) = (P → ⊥) × (number d ≡ n)
