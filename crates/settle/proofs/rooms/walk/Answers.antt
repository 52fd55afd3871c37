use Rattle.std.proofs.Common.{refl, ◌∙◌, arith}
use Rattle.settle.proofs.Walks.{few_moves, from_below, marked, nearer, walk_step, walked, walking_none, wrote_none}
use Rattle.settle.proofs.rooms.walk.Goals as goal

pub loop-bucket-init : goal.loop-bucket-init
loop-bucket-init g c = (
  record { placement = refl; place = refl; code = refl },
  walking_none _ _ _ _ _ c.requires.empty c.requires.below c.requires.inside c.requires.trail (wrote_none _ _ _),
)

pub overflow_sub-from : goal.overflow_sub-from
overflow_sub-from g c = marked _ _ c.requires.lawful _ _ _ _ _ _ c.loop-bucket.invariant.1 c.loop-bucket-test.true

pub copy-requires : goal.copy-requires
copy-requires g c =
    let w = c.loop-bucket.invariant.1 in
    let i = from_below _ _ c.requires.lawful _ _ _ _ _ _ w c.loop-bucket-test.true in
    let l = c.requires.lawful.reach in
    let r = w.reach in
    let k = w.below in
    record { from = omega arith; to = omega arith }

pub overflow_add-moves : goal.overflow_add-moves
overflow_add-moves g c =
    let k = few_moves _ _ _ _ _ _ _ _ c.loop-bucket.invariant.1 in
    let l = c.requires.lawful.few in
    omega arith

pub loop-bucket-smaller : goal.loop-bucket-smaller
loop-bucket-smaller g c = simp c.slots-slots.ensures (nearer _ _ c.requires.lawful _ _ _ _ _ _ c.loop-bucket.invariant.1 c.loop-bucket-test.true)

pub loop-bucket-preserved : goal.loop-bucket-preserved
loop-bucket-preserved g c =
    let k = c.loop-bucket.invariant.0 in
    let m = walk_step (g.P.Placing.placement c.args.p.now) c.args.came.now (g.P.Placing.code c.args.p.now) (g.P.Placing.code c.loop-bucket.p) (g.P.Placing.raw c.args.p.now) (g.P.Placing.raw c.loop-bucket.p) (g.P.Placing.raw c.copy.new.self) c.requires.lawful c.args.found.bucket c.loop-bucket.bucket c.loop-bucket.cell c.loop-bucket.moves (g.P.Placing.placement c.loop-bucket.p) (g.P.Placing.placement c.copy.new.self) k.placement c.loop-bucket.invariant.1 c.loop-bucket-test.true k.code c.copy.ensures.cells c.copy.ensures.others c.copy.ensures.made in
    simp c.slots-slots.ensures (record { placement = m.0; place = c.copy.ensures.place ∙ k.place; code = c.copy.ensures.codes ∙ k.code }, m.1)

pub returns-clause-walked : goal.returns-clause-walked
returns-clause-walked g c = walked _ _ _ _ _ _ _ c.loop-bucket.invariant.1 c.loop-bucket-test.false
