-- A trailer that is written: its bytes, and what close answers and leaves.
use Rattle.std.specs.Prelude.{◌≡◌, ℕ, ◌-◌, ◌*◌, List, ◌∷◌, ◌++◌, length, take, replicate, Ok, Err, Result}
use Rattle.records.specs.declared.declines.Decline.{Decline}
use Rattle.records.specs.Bytes.{bytes2, bytes4}
use Rattle.trailers.specs.declared.closing.TableNumbers.{TableNumbers}
use Rattle.trailers.specs.Trailers.{Numbers, LawfulTrailer, numbers_in}

-- the bytes of a trailer
abbrev pub trailer_of : Numbers → List ℕ
trailer_of m =
    bytes4 m.distance ++ (m.kind ∷ m.family ∷ m.t ∷ m.cells ∷ m.choices ∷ m.start ∷ m.x ∷ m.load ∷ (bytes2 m.j ++ (bytes4 m.count ++ replicate 14 0)))

-- the numbers of the trailer that closes a table: its distance is 32 times the length of the store
abbrev pub closing : TableNumbers → Numbers
closing n = record {
  distance = 32 * n.cells;
  kind = n.kind;
  family = n.family;
  t = n.size.settings.t;
  cells = n.size.settings.cells;
  choices = n.size.settings.choices;
  start = n.size.settings.start;
  x = n.size.x;
  load = n.size.settings.load;
  j = n.size.j;
  count = n.count;
}

-- a module with another trailer, all other bytes as they were
abbrev pub closed_bytes : List ℕ → Numbers → List ℕ
closed_bytes bs m = take (length bs - 32) bs ++ trailer_of m

-- What close leaves: after a decline all bytes as they were; else a lawful trailer with the table's numbers, all other bytes as they were.
abbrev pub Closed : List ℕ → TableNumbers → Result (Unit {0}) Decline → List ℕ → Type 0
Closed bs n (Ok _) cs = (cs ≡ closed_bytes bs (closing n)) × LawfulTrailer cs × (numbers_in cs ≡ closing n)
Closed bs n (Err d) cs = cs ≡ bs
