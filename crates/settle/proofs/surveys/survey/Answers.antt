use Rattle.std.proofs.Common.{subst, arith, below_more}
use Rattle.placing.specs.Looks.{Looked, NotIn}
use Rattle.settle.proofs.Bests.{best_keep, best_more, surveyed_none, surveyed_some}
use Rattle.settle.proofs.surveys.survey.Goals as goal
use Rattle.settle.proofs.surveys.survey.Goals.{then-gap-best, else-gap-best}

pub returns-in_err-gap : goal.returns-in_err-gap
returns-in_err-gap g c =
    let f = g.P.Placing.placement c.args.p.now in
    let l = subst (λ b. Looked f b c.args.words.now c.look.result) c.bucket.ensures c.look.ensures in
    rw c.from_residual.ensures (surveyed_none f c.requires.lawful c.args.words.now c.args.word c.requires.hashed c.loop-choice.choice (omega arith) (l.there c.in_err-gap.was))

pub loop-choice-preserved : goal.loop-choice-preserved
loop-choice-preserved g c =
    let f = g.P.Placing.placement c.args.p.now in
    let l = subst (λ b. Looked f b c.args.words.now c.look.result) c.bucket.ensures c.look.ensures in
    let k = l.gapped c.in_ok-gap.gap c.in_ok-gap.was in
    let a = below_more (λ i. NotIn f (f.lies c.args.word i) c.args.words.now) c.loop-choice.choice c.loop-choice.invariant.1 (l.absent c.in_ok-gap.gap c.in_ok-gap.was) in
    elim c.if-gap-best.branch [
      | then-gap-best w ↦ simp w.best-is (best_more f c.args.word _ _ _ c.loop-choice.invariant.0 k w.if-gap-best.true, a)
      | else-gap-best w ↦ simp w.best-is (best_keep f c.args.word _ _ _ c.loop-choice.invariant.0 k w.if-gap-best.false, a)
    ]

pub returns : goal.returns
returns g c =
    let f = g.P.Placing.placement c.args.p.now in
    surveyed_some f c.requires.lawful c.args.words.now c.args.word c.requires.hashed c.loop-choice.best c.loop-choice.choice (omega arith) c.loop-choice.invariant.0 c.loop-choice.invariant.1
