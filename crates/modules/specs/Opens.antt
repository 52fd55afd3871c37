-- What open answers, in one call and in two.
use Rattle.std.specs.Prelude.{◌≡◌, ℕ, ◌-◌, List, length, Ok, Err, Option, Result}
use Rattle.records.specs.declared.numbers.Words.{Words}
use Rattle.octets.specs.Codec.{lawful_at}
use Rattle.rules.specs.Tables.{Sound}
use Rattle.trailers.specs.declared.layouts.Layout.{Layout}
use Rattle.trailers.specs.Layouts.{numbers_of}
use Rattle.trailers.specs.Trailers.{LawfulTrailer, numbers_in}
use Rattle.modules.specs.declared.faults.Fault.{Fault}
use Rattle.modules.specs.declared.opens.Opened.{Opened}
use Rattle.modules.specs.Checks.{Checks}
use Rattle.modules.specs.Modules.{NoTrailer, cells_part_lem, in_module}
use Rattle.modules.specs.Parts.{part_of}

-- the trailer is lawful and names this kind and this family
pub record Names (k f : ℕ) (bs : List ℕ) : Type 0 where
  pub lawful : LawfulTrailer bs
  pub kind : (numbers_in bs).kind ≡ k
  pub family : (numbers_in bs).family ≡ f

-- The first call declines as check does, with 14 also for another kind or family.
pub record FirstOpens {R K : Type 0} (D : List ℕ → Option R) (kind family : ℕ) (key : R → K) (words : K → Words) (hash : Words → ℕ) (bs : List ℕ) (r : Result (Unit {0}) Fault) : Type 0 where
  pub trailer : (Names kind family bs → ⊥) → NoTrailer r
  pub cells : Names kind family bs → (l : Layout) → numbers_of l ≡ numbers_in bs → Checks (lawful_at D (cells_part_lem bs)) key words hash (in_module D l bs) r

-- a table that opens is sound
abbrev pub OpensSound : {R K : Type 0} → (List ℕ → Option R) → (R → K) → (K → Words) → (Words → ℕ) → List ℕ → Type 0
OpensSound D key words hash bs = (l : Layout) → numbers_of l ≡ numbers_in bs → Sound key words hash (in_module D l bs)

-- the numbers that the trailer names, over the module's cells
pub record IsOpened (bs : List ℕ) (o : Opened) (l : Layout) : Type 0 where
  pub size : o.size ≡ l.size
  pub count : o.count ≡ l.count
  pub ends : o.part.end ≡ length bs - 32
  pub begins : o.part.start ≡ length bs - 32 - l.distance
  pub part : part_of bs o.part ≡ cells_part_lem bs

-- a table of the smallest settings over no cells
pub record Smallest (o : Opened) : Type 0 where
  pub t : o.size.settings.t ≡ 0
  pub cells : o.size.settings.cells ≡ 1
  pub choices : o.size.settings.choices ≡ 2
  pub start : o.size.settings.start ≡ 0
  pub load : o.size.settings.load ≡ 0
  pub x : o.size.x ≡ 0
  pub j : o.size.j ≡ 0
  pub count : o.count ≡ 0
  pub begins : o.part.start ≡ 0
  pub ends : o.part.end ≡ 0

-- The second call gives the table where the first accepts, and else one over no cells.
pub record SecondOpens {R K : Type 0} (D : List ℕ → Option R) (kind family : ℕ) (key : R → K) (words : K → Words) (hash : Words → ℕ) (bs : List ℕ) (o : Opened) : Type 0 where
  pub accepted : FirstOpens D kind family key words hash bs (Ok tt) → (l : Layout) → numbers_of l ≡ numbers_in bs → IsOpened bs o l
  pub declined : (FirstOpens D kind family key words hash bs (Ok tt) → ⊥) → Smallest o

-- What open answers: it declines as the first call does, and gives what the second call gives.
abbrev pub Opens : {R K : Type 0} → (List ℕ → Option R) → ℕ → ℕ → (R → K) → (K → Words) → (Words → ℕ) → List ℕ → Result Opened Fault → Type 0
Opens D kind family key words hash bs (Err f) = FirstOpens D kind family key words hash bs (Err f)
Opens D kind family key words hash bs (Ok o) =
    FirstOpens D kind family key words hash bs (Ok tt) × OpensSound D key words hash bs × ((l : Layout) → numbers_of l ≡ numbers_in bs → IsOpened bs o l)
