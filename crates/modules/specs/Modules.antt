-- A whole module: what check and find answer of it.
use Rattle.std.specs.Prelude.{◌≡◌, ℕ, ◌-◌, cond, List, length, take, drop, Some, None, Ok, Err, Option, Result, ◌==◌}
use Rattle.records.specs.declared.declines.Decline.{Decline}
use Rattle.records.specs.declared.kind.RecordKind.{RecordKind}
use Rattle.records.specs.declared.numbers.Words.{Words}
use Rattle.records.specs.declared.records.TagRecord.{TagRecord}
use Rattle.records.specs.declared.records.TareRecord.{TareRecord}
use Rattle.records.specs.Declines.{number}
use Rattle.records.specs.Kinds.{kind_number, plate_words, tag_words}
use Rattle.addresses.specs.declared.families.FamilyKind.{FamilyKind}
use Rattle.addresses.specs.Hashes.{family_number, fnv_words_lem}
use Rattle.octets.specs.Codec.{byte_row, lawful_at}
use Rattle.octets.specs.Kinds.{tag_decoded, tare_decoded}
use Rattle.rules.specs.Tables.{State, Sound, choice_at, used_in}
use Rattle.trailers.specs.declared.layouts.Layout.{Layout}
use Rattle.trailers.specs.Layouts.{numbers_of}
use Rattle.trailers.specs.Trailers.{LawfulTrailer, numbers_in}
use Rattle.modules.specs.declared.faults.Fault.{Fault}
use Rattle.modules.specs.Checks.{Checks, table_over}
use Rattle.lookup.specs.Finds.{FirstMatch, Match, Meets, NoMatch}

-- the bytes of a module's cells: so many as the distance says, directly before the trailer
abbrev pub cells_part_lem : List ℕ → List ℕ
cells_part_lem bs = take (numbers_in bs).distance (drop (length bs - 32 - (numbers_in bs).distance) bs)

-- the family with this number
abbrev pub hash_by : ℕ → Words → ℕ
hash_by f = cond (f == 1) fnv_words_lem (λ w. w.second)

-- the key words of a record
abbrev pub words_of_tare : TareRecord → Words
words_of_tare r = plate_words r.plate

abbrev pub words_of_tag : TagRecord → Words
words_of_tag r = tag_words r.tag

-- the table in a module with this layout, by a decoder
abbrev pub in_module : {R : Type 0} → (List ℕ → Option R) → Layout → List ℕ → State R
in_module D l bs = table_over D l (cells_part_lem bs)

-- what is read of a module with a lawful trailer: the kind and the family that it names, all its numbers, and the bytes of its cells
pub record IsModule (bs : List ℕ) (k : RecordKind) (f : FamilyKind) (l : Layout) (cs : List ℕ) : Type 0 where
  pub numbers : numbers_of l ≡ numbers_in bs
  pub kind : kind_number k ≡ l.kind
  pub family : family_number f ≡ l.family
  pub cells : cs ≡ cells_part_lem bs

-- a decline with this number
abbrev pub DeclinedWith : {X : Type 0} → ℕ → Result X Decline → Type 0
DeclinedWith n (Ok x) = ⊥
DeclinedWith n (Err d) = number d ≡ n

-- a decline with 14 that names no cell
abbrev pub NoTrailer : Result (Unit {0}) Fault → Type 0
NoTrailer (Ok _) = ⊥
NoTrailer (Err f) = (number f.decline ≡ 14) × (f.cell ≡ None)

-- What check answers: first of the trailer, then of the cells, by the kind and the family that the trailer names.
pub record ModuleChecks (bs : List ℕ) (r : Result (Unit {0}) Fault) : Type 0 where
  pub trailer : (LawfulTrailer bs → ⊥) → NoTrailer r
  pub tares : LawfulTrailer bs → (l : Layout) → numbers_of l ≡ numbers_in bs → l.kind ≡ 1 →
      Checks (lawful_at tare_decoded (cells_part_lem bs)) (λ r. r.plate) plate_words (hash_by l.family) (in_module tare_decoded l bs) r
  pub tags : LawfulTrailer bs → (l : Layout) → numbers_of l ≡ numbers_in bs → l.kind ≡ 2 →
      Checks (lawful_at tag_decoded (cells_part_lem bs)) (λ r. r.tag) tag_words (hash_by l.family) (in_module tag_decoded l bs) r

-- The trailer is lawful, and the table that it names over the module's cells is sound.
pub record ModuleIsSound (bs : List ℕ) : Type 0 where
  pub lawful : LawfulTrailer bs
  pub tares : (l : Layout) → numbers_of l ≡ numbers_in bs → l.kind ≡ 1 → Sound (λ r. r.plate) plate_words (hash_by l.family) (in_module tare_decoded l bs)
  pub tags : (l : Layout) → numbers_of l ≡ numbers_in bs → l.kind ≡ 2 → Sound (λ r. r.tag) tag_words (hash_by l.family) (in_module tag_decoded l bs)

-- cell c is the first used one with a record of these words, by choice and then by cell
abbrev pub FirstFound : {R : Type 0} → (List ℕ → Option R) → (R → Words) → List ℕ → Words → Layout → ℕ → Type 0
FirstFound D words bs w l c =
    FirstMatch (Match words (byte_row D (cells_part_lem bs)) w (used_in l.size)) (choice_at (hash_by l.family) l.size w) l.size.settings.choices l.size.settings.cells c

-- no used cell in the own buckets has one
abbrev pub NoneFound : {R : Type 0} → (List ℕ → Option R) → (R → Words) → List ℕ → Words → Layout → Type 0
NoneFound D words bs w l =
    NoMatch (Match words (byte_row D (cells_part_lem bs)) w (used_in l.size)) (choice_at (hash_by l.family) l.size w) l.size.settings.choices l.size.settings.cells

abbrev pub CellIs : {R : Type 0} → (List ℕ → Option R) → (R → Words) → List ℕ → Words → Layout → Result (Option ℕ) Decline → Type 0
CellIs D words bs w l (Ok None) = NoneFound D words bs w l
CellIs D words bs w l (Ok (Some c)) = FirstFound D words bs w l c
CellIs D words bs w l (Err d) = ⊥

-- What finding a cell answers: 14 without a lawful trailer, else the first match among the records of the module's kind.
pub record FindsCell (bs : List ℕ) (w : Words) (r : Result (Option ℕ) Decline) : Type 0 where
  pub trailer : (LawfulTrailer bs → ⊥) → DeclinedWith 14 r
  pub tares : LawfulTrailer bs → (l : Layout) → numbers_of l ≡ numbers_in bs → l.kind ≡ 1 → CellIs tare_decoded words_of_tare bs w l r
  pub tags : LawfulTrailer bs → (l : Layout) → numbers_of l ≡ numbers_in bs → l.kind ≡ 2 → CellIs tag_decoded words_of_tag bs w l r

abbrev pub RecordIs : {R : Type 0} → (List ℕ → Option R) → (R → Words) → List ℕ → Words → Layout → Result (Option R) Decline → Type 0
RecordIs D words bs w l (Ok None) = NoneFound D words bs w l
RecordIs D words bs w l (Ok (Some x)) = (c : ℕ) × FirstFound D words bs w l c × Meets words (byte_row D (cells_part_lem bs)) w c x
RecordIs D words bs w l (Err d) = ⊥

-- What finding a record of a kind answers.
pub record FindsRecord {R : Type 0} (D : List ℕ → Option R) (words : R → Words) (bs : List ℕ) (w : Words) (r : Result (Option R) Decline) : Type 0 where
  pub trailer : (LawfulTrailer bs → ⊥) → DeclinedWith 14 r
  pub found : LawfulTrailer bs → (l : Layout) → numbers_of l ≡ numbers_in bs → RecordIs D words bs w l r
