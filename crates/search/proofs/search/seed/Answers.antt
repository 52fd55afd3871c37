use Rattle.std.proofs.Common.{◌<◌, get_or, sym, ap, ◌∙◌, arith}
use Rattle.std.proofs.lemmas.Grind.{common_steps}
use Rattle.search.proofs.Buckets.{shut}
use Rattle.search.proofs.Seeds.{lined_room, seeded_none, seeded_push, seeded_skip}
use Rattle.search.proofs.search.seed.Goals as goal
use Rattle.search.proofs.search.seed.Goals.{then-came-bucket-eq0, else-came-bucket-eq0}

pub bounds-queue-tail : goal.bounds-queue-tail
bounds-queue-tail g c =
    let i = c.requires.lawful.inside c.args.word c.loop-choice.choice (omega arith) in
    let t = lined_room _ _ _ _ _ c.loop-choice.invariant.lined c.bucket-bucket.result (omega arith) (omega arith) c.if-came-bucket-eq0.true in
    omega arith

pub loop-choice-init : goal.loop-choice-init
loop-choice-init g c = seeded_none _ _ _ _ (omega arith) (grind (arith, common_steps))

pub loop-choice-preserved : goal.loop-choice-preserved
loop-choice-preserved g c =
    let f = g.P.Placing.placement c.args.p.now in
    let wl : c.loop-choice.choice < f.choices = omega arith in
    let i = c.requires.lawful.inside c.args.word c.loop-choice.choice wl in
    let a = sym c.bucket-bucket.ensures in
    let r = shut f c.bucket-bucket.result (simp c.bucket-bucket.ensures (c.requires.full c.loop-choice.choice wl)) in
    elim c.if-came-bucket-eq0.branch [
      | then-came-bucket-eq0 w ↦
          let t = lined_room _ _ _ _ _ c.loop-choice.invariant.lined c.bucket-bucket.result (omega arith) (omega arith) w.if-came-bucket-eq0.true in
          simp (w.came-is, w.queue-is, w.tail-is) (seeded_push _ _ _ _ _ _ c.loop-choice.invariant c.bucket-bucket.result a wl (omega arith) (omega arith) w.if-came-bucket-eq0.true (omega arith) r)
      | else-came-bucket-eq0 w ↦
          simp (w.came-is, w.queue-is, w.tail-is) (seeded_skip _ _ _ _ _ _ c.loop-choice.invariant (λ z. w.if-came-bucket-eq0.false (ap (λ y. get_or c.loop-choice.came y 0) (sym a) ∙ z)))
    ]
