-- The two record kinds: their numbers, the words of a key, a record's numbers, and what plain numbers make.
use Rattle.std.specs.Prelude.{◌≡◌, ℕ, ◌≤◌, Bool, true, false, Ok, Err, Result, refl}
use Rattle.std.proofs.Math.Decide.{dec_le}
use Rattle.records.specs.declared.declines.Decline.{Decline}
use Rattle.records.specs.declared.declines.Decline.TheVariants.{NoPlate, OutOfRange}
use Rattle.records.specs.declared.kind.RecordKind.{RecordKind}
use Rattle.records.specs.declared.kind.RecordKind.TheVariants.{Tare, Tag}
use Rattle.records.specs.declared.numbers.Words.{Words}
use Rattle.records.specs.declared.numbers.TagNumbers.{TagNumbers}
use Rattle.records.specs.declared.numbers.TareNumbers.{TareNumbers}
use Rattle.records.specs.declared.plates.Plate.{Plate}
use Rattle.records.specs.declared.records.TagRecord.{TagRecord}
use Rattle.records.specs.declared.records.TareRecord.{TareRecord}
use Rattle.records.specs.Declines.{TakenIf}
use Rattle.records.specs.Plates.{is_plate}

-- the number by which a module names a kind
abbrev pub kind_number : RecordKind → ℕ
kind_number Tare = 1
kind_number Tag = 2

-- The number 1 or 2 gives the kind that it names; each other number is declined with 14.
abbrev pub Named : ℕ → Result RecordKind Decline → Type 0
Named n = TakenIf ((1 ≤ n) × (n ≤ 2)) 14 (λ k. kind_number k ≡ n)

-- a tag's words are 0 and the tag
abbrev pub tag_words : ℕ → Words
tag_words t = record { first = 0; second = t }

-- a plate's words are its own
abbrev pub plate_words : Plate → Words
plate_words p = record { first = p.first; second = p.second }

abbrev pub tag_numbers : TagRecord → TagNumbers
tag_numbers r = record { tag = r.tag; grower = r.grower; grain = r.grain }

abbrev pub tare_numbers : TareRecord → TareNumbers
tare_numbers r = record { first = r.plate.first; second = r.plate.second; tare = r.tare; day = r.day }

-- a tag record, if the grain code is 1 to 9; else a decline
unfoldable pub tag_if : (n : TagNumbers) → Dec (1 ≤ n.grain) → Dec (n.grain ≤ 9) → Result TagRecord Decline
tag_if n (yes p) (yes q) = Ok (record { tag = n.tag; grower = n.grower; grain = n.grain; low = p; high = q })
tag_if n (yes p) (no q) = Err OutOfRange
tag_if n (no p) d = Err OutOfRange

unfoldable pub made_tag : TagNumbers → Result TagRecord Decline
made_tag n = tag_if n (dec_le 1 n.grain) (dec_le n.grain 9)

-- with a plate, a tare record, if the tare is 1 to 100,000; else a decline
unfoldable pub tare_if : (p : Plate) (t d : ℕ) → Dec (1 ≤ t) → Dec (t ≤ 100000) → Result TareRecord Decline
tare_if p t d (yes l) (yes h) = Ok (record { plate = p; tare = t; day = d; low = l; high = h })
tare_if p t d (yes l) (no h) = Err OutOfRange
tare_if p t d (no l) e = Err OutOfRange

-- first of all the words have to be a plate's
unfoldable pub plated_if : (a b t d : ℕ) (l : Bool) → is_plate a b ≡ l → Result TareRecord Decline
plated_if a b t d true e = tare_if (record { first = a; second = b; lawful = e }) t d (dec_le 1 t) (dec_le t 100000)
plated_if a b t d false e = Err NoPlate

unfoldable pub made_tare : TareNumbers → Result TareRecord Decline
made_tare n = plated_if n.first n.second n.tare n.day (is_plate n.first n.second) refl
