-- What a trailer says, as its numbers.
use Rattle.std.specs.Prelude.{◌≡◌}
use Rattle.addresses.specs.declared.sizes.Size.{Size}
use Rattle.trailers.specs.declared.layouts.Layout.{Layout}
use Rattle.trailers.specs.Trailers.{Numbers}

-- the numbers that a layout stands for
abbrev pub numbers_of : Layout → Numbers
numbers_of l = record {
  distance = l.distance;
  kind = l.kind;
  family = l.family;
  t = l.size.settings.t;
  cells = l.size.settings.cells;
  choices = l.size.settings.choices;
  start = l.size.settings.start;
  x = l.size.x;
  load = l.size.settings.load;
  j = l.size.j;
  count = l.count;
}

-- z is the size that a trailer's numbers name
pub record Sized (z : Size) (m : Numbers) : Type 0 where
  pub t : z.settings.t ≡ m.t
  pub cells : z.settings.cells ≡ m.cells
  pub choices : z.settings.choices ≡ m.choices
  pub start : z.settings.start ≡ m.start
  pub load : z.settings.load ≡ m.load
  pub x : z.x ≡ m.x
  pub j : z.j ≡ m.j
