use Rattle.std.proofs.Common.{◌≡◌, ◌<◌, sym, ◌∙◌, arith}
use Rattle.placing.proofs.Contents.{none_of, unmapped_none}
use Rattle.placing.proofs.Vacancies.{full, roomy}
use Rattle.placing.proofs.looks.room.Goals as goal

pub returns-then-is_none : goal.returns-then-is_none
returns-then-is_none g c =
    let f = g.P.Placing.placement c.args.p.now in
    let e = c.slots-slots.ensures in
    let s : c.loop-slot.slot < f.cells = omega arith in
    let h = unmapped_none f.words _ (sym (simp e at c.words_at.ensures) ∙ none_of _ c.if-is_none.ensures) in
    simp e (roomy f c.requires.lawful c.args.bucket c.requires.inside c.loop-slot.slot s h c.loop-slot.invariant)

pub returns : goal.returns
returns g c =
    let f = g.P.Placing.placement c.args.p.now in
    let e : c.loop-slot.slot ≡ f.cells = omega arith in
    full f c.args.bucket (λ s l. c.loop-slot.invariant s (omega arith))
