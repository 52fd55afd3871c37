use Rattle.std.proofs.Common.{◌≡◌, sym, refl, subst}
use Rattle.rules.specs.Placements.{vacant}
use Rattle.settle.proofs.Bests.{all_full}
use Rattle.settle.proofs.Places.{settled_direct, settled_otherwise, surveyed}
use Rattle.settle.proofs.Walks.{wrote_none}
use Rattle.settle.proofs.settles.spot_for.Goals as goal

pub returns-then-best-gt0-clause-settled : goal.returns-then-best-gt0-clause-settled
returns-then-best-gt0-clause-settled g c =
    let seen = surveyed _ _ _ c.survey.ensures c.in_ok-best.best _ c.ok_or.ensures.value c.in_ok-best.was in
    settled_direct _ _ _ _ _ c.hash-word.ensures _ seen c.requires.lawful c.if-best-gt0.true refl (wrote_none _ _ _)

pub make_room-requires-clause-full : goal.make_room-requires-clause-full
make_room-requires-clause-full g c =
    let f = g.P.Placing.placement c.args.p.now in
    let seen = surveyed f _ _ c.survey.ensures c.in_ok-best.best _ c.ok_or.ensures.value c.in_ok-best.was in
    λ i il. subst (λ v. vacant f (f.lies v i) ≡ 0) (sym c.hash-word.ensures) (all_full f _ _ seen.1 c.if-best-gt0.false i il)

pub returns-clause-settled : goal.returns-clause-settled
returns-clause-settled g c =
    let seen = surveyed _ _ _ c.survey.ensures c.in_ok-best.best _ c.ok_or.ensures.value c.in_ok-best.was in
    rw c.ok_or-2.ensures.value (settled_otherwise _ _ _ _ _ c.hash-word.ensures _ seen c.if-best-gt0.false _ c.make_room.ensures.roomed)
