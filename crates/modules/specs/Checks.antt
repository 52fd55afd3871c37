-- What check answers of the used cells of a table.
use Rattle.std.specs.Prelude.{◌≡◌, ℕ, ◌/◌, ◌<◌, Bool, false, List, [], ◌∷◌, Some, None, Ok, Err, Option, Result, ◌≢◌}
use Rattle.records.specs.declared.declines.Decline.{Decline}
use Rattle.records.specs.declared.numbers.Words.{Words}
use Rattle.records.specs.Declines.{number}
use Rattle.addresses.specs.declared.sizes.Size.{Size}
use Rattle.assignment.specs.Assign.{In}
use Rattle.octets.specs.Codec.{byte_row}
use Rattle.rules.specs.Rows.{Row, First}
use Rattle.rules.specs.Tables.{State, HoldsAt, own_buckets, records, used_in}
use Rattle.trailers.specs.declared.layouts.Layout.{Layout}
use Rattle.modules.specs.declared.faults.Fault.{Fault}

-- a table of this size and count over these cells
abbrev pub table_of : {R : Type 0} → Size → ℕ → List (Option R) → State R
table_of z n cs = record { size = z; count = n; cells = cs }

-- the table that a module's layout names, over these bytes of its cells, by a decoder
abbrev pub table_over : {R : Type 0} → (List ℕ → Option R) → Layout → List ℕ → State R
table_over D l bs = table_of l.size l.count (byte_row D bs)

-- law k says whether cell k is made of lawful bytes
module _ {R K : Type 0} (law : ℕ → Bool) (key : R → K) (words : K → Words) (hash : Words → ℕ) (s : State R) where
  -- cell k holds a record outside its own buckets
  abbrev pub Misplaced : ℕ → Type 0
  Misplaced k = (r : R) × HoldsAt s k r × (In (k / s.size.settings.cells) (own_buckets hash s.size (words (key r))) → ⊥)

  -- cell k holds a record whose key stands in an earlier cell
  abbrev pub Repeated : ℕ → Type 0
  Repeated k = (r : R) × HoldsAt s k r × ((j : ℕ) × (q : R) × (j < k) × HoldsAt s j q × (key q ≡ key r))

  -- what may be wrong with cell k, in the order of the checks
  abbrev pub faults : ℕ → List Row
  faults k = (15, law k ≡ false) ∷ (16, Misplaced k) ∷ (17, Repeated k) ∷ []

  -- nothing is wrong with cell k
  abbrev pub Fine : ℕ → Type 0
  Fine k = First (faults k) 0

  -- n is the number of the first thing that is wrong with cell k
  abbrev pub FaultIs : ℕ → ℕ → Type 0
  FaultIs k n = First (faults k) n × (n ≢ 0)

  -- what is answered of cell k
  abbrev pub Judged : ℕ → Result (Unit {0}) Decline → Type 0
  Judged k (Ok _) = Fine k
  Judged k (Err d) = FaultIs k (number d)

  -- nothing is wrong with the first cells
  abbrev pub AllFine : ℕ → Type 0
  AllFine n = (k : ℕ) → k < n → Fine k

  -- The lowest faulty used cell is named; a wrong count comes last.
  abbrev pub Named : Option ℕ → ℕ → Type 0
  Named (Some k) n = (k < used_in s.size) × AllFine k × FaultIs k n
  Named None n = (n ≡ 18) × AllFine (used_in s.size) × (records s ≢ s.count)

  abbrev pub Checks : Result (Unit {0}) Fault → Type 0
  Checks (Ok _) = AllFine (used_in s.size) × (records s ≡ s.count)
  Checks (Err f) = Named f.cell (number f.decline)
