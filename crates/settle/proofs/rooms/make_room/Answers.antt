use Rattle.std.proofs.Common.{refl, arith}
use Rattle.settle.proofs.Meanings.{roomed_none, roomed_some}
use Rattle.settle.proofs.Walks.{wrote_none}
use Rattle.settle.proofs.rooms.make_room.Goals as goal

pub walk-requires : goal.walk-requires
walk-requires g c =
    let k = c.search.ensures.searched in
    let n = k.nearest c.in_ok-found.found c.in_ok-found.was in
    record {
      lawful = c.requires.lawful;
      long = omega arith;
      empty = k.free c.in_ok-found.found c.in_ok-found.was;
      below = k.below c.in_ok-found.found c.in_ok-found.was;
      inside = n.inside;
      trail = (n.steps, n.short, n.trail);
    }

pub returns-clause-roomed : goal.returns-clause-roomed
returns-clause-roomed g c =
    let n = c.search.ensures.searched.nearest c.in_ok-found.found c.in_ok-found.was in
    roomed_some _ c.requires.lawful _ _ _ _ c.in_ok-found.found.bucket _ n (c.walk.ensures.walked n.steps n.short n.trail)

pub returns-in_err-found-clause-roomed : goal.returns-in_err-found-clause-roomed
returns-in_err-found-clause-roomed g c =
    rw c.from_residual.ensures (roomed_none _ c.requires.lawful _ _ _ _ (c.search.ensures.searched.closed c.in_err-found.was) refl (wrote_none _ _ _))
