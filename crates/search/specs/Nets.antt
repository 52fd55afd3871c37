-- The buckets of a placement as a graph: from each, its records lead to their own buckets.
use Rattle.std.specs.Prelude.{◌≡◌, ℕ, zero, suc, ◌+◌, ◌*◌, ◌<◌, Bool, List, get_or, nat_lt, slice_index, slice_index_or, None}
use Rattle.rules.specs.Placements.{Placement, vacant, word}
use Rattle.placing.specs.Held.{led}

-- how many buckets there are, the cells of each, the choices of a record, where a choice leads, and which buckets have room
pub record Net : Type 0 where
  pub size : ℕ
  pub cells : ℕ
  pub choices : ℕ
  pub next : ℕ → ℕ → ℕ → ℕ
  pub room : ℕ → Bool

-- an empty cell leads to its own bucket
abbrev pub net_of : {R : Type 0} → Placement R → Net
net_of f = record {
  size = f.size;
  cells = f.cells;
  choices = f.choices;
  next = λ p s i. led (λ r. f.lies (word f r) i) p (slice_index_or f.held (p * f.cells + s) None);
  room = λ p. nat_lt 0 (vacant f p);
}

-- an edge from p to q, by a slot of p and a choice of what lies there
pub record Edge (n : Net) (p q : ℕ) : Type 0 where
  pub slot : ℕ
  pub choice : ℕ
  pub slot_in : slot < n.cells
  pub choice_in : choice < n.choices
  pub leads : n.next p slot choice ≡ q

-- q is where a choice of the key leads
abbrev pub Root : Net → (ℕ → ℕ) → ℕ → Type 0
Root n start q = (i : ℕ) × (i < n.choices) × (start i ≡ q)

-- `came` says that q was first reached from p, along an edge by the cell that it names
pub record Back (n : Net) (came : List ℕ) (p q : ℕ) : Type 0 where
  pub edge : Edge n p q
  pub inside : p < n.size
  pub says : get_or came q 0 ≡ 2 + (p * n.cells + edge.slot)

-- following `came` from q leads to a start in d steps
abbrev pub Trail : Net → List ℕ → ℕ → ℕ → Type 0
Trail n came zero q = slice_index came q ≡ 1
Trail n came (suc d) q = (p : ℕ) × Back n came p q × Trail n came d p
