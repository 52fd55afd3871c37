use Rattle.std.proofs.Common.{◌≡◌, sym, ◌∙◌, subst, arith}
use Rattle.records.proofs.Words.{other_words}
use Rattle.placing.proofs.Contents.{unmapped_none, unmapped_some}
use Rattle.placing.proofs.Vacancies.{Looking, looking_held, looking_empty, looking_gap, looked}
use Rattle.placing.proofs.looks.look.Goals as goal
use Rattle.placing.proofs.looks.look.Goals.{in-None, in-Some+else-eq}

pub loop-slot-preserved : goal.loop-slot-preserved
loop-slot-preserved g c =
    let f = g.P.Placing.placement c.args.p.now in
    let e = c.slots-slots.ensures in
    elim c.match-words_at.branch [
      | in-Some+else-eq w ↦
          let h = unmapped_some f.words _ w.in-Some.found (sym (simp e at w.in-Some.ensures)) in
          looking_gap f c.args.bucket c.args.words.now _ _ _ w.gap-is (looking_held f c.args.bucket c.args.words.now _ _ _ c.loop-slot.invariant h.0 h.1 (λ k. other_words _ _ _ w.eq.ensures w.if-eq.false (sym h.2 ∙ k)))
      | in-None w ↦
          let h = unmapped_none f.words _ (sym (simp e at w.in-None.ensures)) in
          let y = simp e at w.with-gap.ensures.cell in
          looking_gap f c.args.bucket c.args.words.now _ _ _ w.gap-is (looking_empty f c.args.bucket c.args.words.now _ _ _ c.loop-slot.invariant _ _ w.with-gap.ensures.count y h)
    ]

pub returns : goal.returns
returns g c =
    let f = g.P.Placing.placement c.args.p.now in
    let e : c.loop-slot.slot ≡ f.cells = omega arith in
    looked f c.args.bucket c.args.words.now c.loop-slot.gap (subst (λ n. Looking f c.args.bucket c.args.words.now n c.loop-slot.gap.count c.loop-slot.gap.cell) e c.loop-slot.invariant)
