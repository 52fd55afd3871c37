-- The working spaces of a search.
use Rattle.std.specs.Prelude.{◌≡◌, ℕ, ◌<◌, ◌≤◌, List, length, slice_index}
use Rattle.search.specs.declared.spaces.Spaces.{Spaces}

-- 0 throughout
abbrev pub Zero : List ℕ → Type 0
Zero ns = (i : ℕ) → i < length ns → slice_index ns i ≡ 0

-- both are 0 throughout
pub record AllZero (s : Spaces) : Type 0 where
  pub queue : Zero s.queue.now
  pub came : Zero s.came.now

-- both have at least n numbers
pub record Long (s : Spaces) (n : ℕ) : Type 0 where
  pub queue : n ≤ length s.queue.now
  pub came : n ≤ length s.came.now

-- the same two loans, of the same lengths
pub record Lent (old new : Spaces) : Type 0 where
  pub queue : new.queue.ghost_name ≡ old.queue.ghost_name
  pub came : new.came.ghost_name ≡ old.came.ghost_name
  pub queue_length : length new.queue.now ≡ length old.queue.now
  pub came_length : length new.came.now ≡ length old.came.now
