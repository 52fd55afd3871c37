-- The trailer of a module, its last 32 bytes: the numbers in it, and the rules that they keep.
use Rattle.std.specs.Prelude.{◌≡◌, ℕ, ◌+◌, ◌-◌, ◌*◌, ◌%◌, ◌^◌, ◌<◌, ◌≤◌, true, List, length, drop, slice_index}
use Rattle.records.specs.Bytes.{all_are_lem, word2, word4}
use Rattle.addresses.specs.Ranges.{InRange, buckets}

-- the numbers of a trailer: the distance from its first byte back to the first cell, the record kind, the hash family,
-- the settings t, B, H and x0, the size's x, the setting d, the size's j, and the count of records
pub record Numbers : Type 0 where
  pub distance : ℕ
  pub kind : ℕ
  pub family : ℕ
  pub t : ℕ
  pub cells : ℕ
  pub choices : ℕ
  pub start : ℕ
  pub x : ℕ
  pub load : ℕ
  pub j : ℕ
  pub count : ℕ

-- where the trailer begins
abbrev pub off : List ℕ → ℕ
off bs = length bs - 32

-- each number where it stands, big-endian
abbrev pub numbers_in : List ℕ → Numbers
numbers_in bs = record {
  distance = word4 bs (off bs);
  kind = slice_index bs (off bs + 4);
  family = slice_index bs (off bs + 5);
  t = slice_index bs (off bs + 6);
  cells = slice_index bs (off bs + 7);
  choices = slice_index bs (off bs + 8);
  start = slice_index bs (off bs + 9);
  x = slice_index bs (off bs + 10);
  load = slice_index bs (off bs + 11);
  j = word2 bs (off bs + 12);
  count = word4 bs (off bs + 14);
}

-- settings and size are in their ranges
pub record LawfulSize (m : Numbers) : Type 0 where
  pub range : InRange m.t m.cells m.choices m.start m.load
  pub floor : m.start ≤ m.x
  pub below : m.j < 2 ^ m.t
  pub room : buckets m.t m.x m.j ≤ 16384

-- kind and family are known, and the cells, in whole 32s and enough of them, lie between the module's start and the trailer
pub record Placed (len : ℕ) (m : Numbers) : Type 0 where
  pub long : 32 ≤ len
  pub short : len ≤ 2 ^ 31
  pub kind_low : 1 ≤ m.kind
  pub kind_high : m.kind ≤ 2
  pub family_low : 1 ≤ m.family
  pub family_high : m.family ≤ 2
  pub whole : m.distance % 32 ≡ 0
  pub enough : 32 * (buckets m.t m.x m.j * m.cells) ≤ m.distance
  pub within : m.distance + 32 ≤ len

-- the rules of a trailer's numbers in a module of length len
pub record Lawful (len : ℕ) (m : Numbers) : Type 0 where
  pub size : LawfulSize m
  pub placed : Placed len m

-- a module whose trailer keeps every rule: its other bytes are 0
pub record LawfulTrailer (bs : List ℕ) : Type 0 where
  pub numbers : Lawful (length bs) (numbers_in bs)
  pub blank : all_are_lem 0 (drop (off bs + 18) bs) ≡ true
