-- The fields of each record kind in the 32 bytes of a cell, and the records that such bytes spell.
use Rattle.std.specs.Prelude.{ℕ, List, ◌∷◌, ◌++◌, replicate, Option, slice_index}
use Rattle.records.specs.declared.numbers.TagNumbers.{TagNumbers}
use Rattle.records.specs.declared.numbers.TareNumbers.{TareNumbers}
use Rattle.records.specs.declared.records.TagRecord.{TagRecord}
use Rattle.records.specs.declared.records.TareRecord.{TareRecord}
use Rattle.records.specs.Kinds.{made_tag, made_tare, tag_numbers, tare_numbers}
use Rattle.records.specs.Bytes.{bytes2, bytes4, bytes8, word2, word4, word8}
use Rattle.octets.specs.Codec.{decoded, encoded}

-- kind 1: the plate in bytes 2 to 13, the tare in 14 to 17, the day in 18 and 19
abbrev pub tare_in : List ℕ → TareNumbers
tare_in c = record { first = word8 c 2; second = word4 c 10; tare = word4 c 14; day = word2 c 18 }

abbrev pub tare_fields : TareNumbers → List ℕ
tare_fields n = bytes8 n.first ++ (bytes4 n.second ++ (bytes4 n.tare ++ (bytes2 n.day ++ replicate 12 0)))

abbrev pub tare_decoded : List ℕ → Option TareRecord
tare_decoded = decoded 1 20 tare_in made_tare

abbrev pub tare_encoded : TareRecord → List ℕ
tare_encoded = encoded 1 tare_fields tare_numbers

-- kind 2: the tag in bytes 2 to 9, the grower in 10 to 13, the grain code in 14
abbrev pub tag_in : List ℕ → TagNumbers
tag_in c = record { tag = word8 c 2; grower = word4 c 10; grain = slice_index c 14 }

abbrev pub tag_fields : TagNumbers → List ℕ
tag_fields n = bytes8 n.tag ++ (bytes4 n.grower ++ (n.grain ∷ replicate 17 0))

abbrev pub tag_decoded : List ℕ → Option TagRecord
tag_decoded = decoded 2 15 tag_in made_tag

abbrev pub tag_encoded : TagRecord → List ℕ
tag_encoded = encoded 2 tag_fields tag_numbers
