use Rattle.std.proofs.Common.{◌<◌, length, get_or, sym, ap, ◌∙◌, subst, arith}
use Rattle.std.proofs.lemmas.List.{get_or-set_other}
use Rattle.placing.specs.Looks.{Roomy}
use Rattle.placing.proofs.Contents.{cell_in, none_rest}
use Rattle.search.proofs.Answered.{searched_some}
use Rattle.search.proofs.Buckets.{edge, shut, within}
use Rattle.search.proofs.Reached.{bfs_found, bfs_push}
use Rattle.search.proofs.Seeds.{lined_room}
use Rattle.search.proofs.Turns.{bfs_row, bfs_skip, bfs_turn}
use Rattle.search.proofs.search.search.Goals as goal
use Rattle.search.proofs.search.search.Goals.{then-came-next-eq0+in_default, else-came-next-eq0}

pub word_at-held-requires : goal.word_at-held-requires
word_at-held-requires g c =
    let f = g.P.Placing.placement c.args.p.now in
    let b = c.search.invariant.0.lined.buckets c.search.head c.if-head-tail.false in
    let s : c.loop-slot.slot < f.cells = omega arith in
    simp c.slots-slots.ensures (cell_in f c.requires.lawful _ c.loop-slot.slot b s).0

pub bounds-queue-tail : goal.bounds-queue-tail
bounds-queue-tail g c =
    let b = c.search.invariant.0.lined.buckets c.search.head c.if-head-tail.false in
    let e = edge (g.P.Placing.placement c.args.p.now) c.requires.lawful (get_or c.search.queue c.search.head 0) (get_or c.loop-choice.queue c.search.head 0) c.loop-slot.slot c.loop-choice.choice _ _ c.leads-next.result b (omega arith) (omega arith)
    c.slots-slots.ensures c.loop-choice.invariant.2 c.word_at-held.ensures c.leads-next.ensures in
    let t = lined_room _ _ _ _ _ c.loop-choice.invariant.0.lined c.leads-next.result (omega arith) (omega arith) c.if-came-next-eq0.true in
    omega arith

pub loop-choice-preserved : goal.loop-choice-preserved
loop-choice-preserved g c =
    let f = g.P.Placing.placement c.args.p.now in
    let law = c.requires.lawful in
    let b = c.search.invariant.0.lined.buckets c.search.head c.if-head-tail.false in
    let e = edge f law (get_or c.search.queue c.search.head 0) (get_or c.loop-choice.queue c.search.head 0) c.loop-slot.slot c.loop-choice.choice _ _ c.leads-next.result b (omega arith) (omega arith)
    c.slots-slots.ensures c.loop-choice.invariant.2 c.word_at-held.ensures c.leads-next.ensures in
    elim c.if-came-next-eq0.branch [
      | then-came-next-eq0+in_default w ↦
          let t = lined_room _ _ _ _ _ c.loop-choice.invariant.0.lined c.leads-next.result (omega arith) (omega arith) w.if-came-next-eq0.true in
          let tl : c.loop-choice.tail < length c.loop-choice.queue = omega arith in
          let old = get_or-set_other c.loop-choice.queue c.loop-choice.tail c.search.head c.leads-next.result 0 (λ e. omega arith) in
          simp (w.came-is, w.queue-is, w.tail-is) (
            bfs_push _ _ _ _ _ _ _ _ c.loop-choice.invariant.0 (within f law) c.loop-choice.invariant.1 (omega arith) (omega arith) c.leads-next.result _ e.1 e.2 (omega arith) (omega arith) w.if-came-next-eq0.true tl (shut f c.leads-next.result (w.room.ensures.full (none_rest _ w.in_default.not-Some))),
            omega arith,
            c.loop-choice.invariant.2 ∙ sym old,
          )
      | else-came-next-eq0 w ↦
          simp (w.came-is, w.queue-is, w.tail-is) (
            bfs_skip _ _ _ _ _ _ _ _ c.loop-choice.invariant.0 (within f law) c.loop-choice.invariant.1 (omega arith) (omega arith) (λ z. w.if-came-next-eq0.false (ap (λ y. get_or c.loop-choice.came y 0) (sym e.1) ∙ z)),
            c.loop-choice.invariant.1,
            c.loop-choice.invariant.2,
          )
    ]

pub loop-slot-preserved : goal.loop-slot-preserved
loop-slot-preserved g c = (bfs_row _ _ _ _ _ _ _ _ c.loop-choice.invariant.0 (omega arith), c.loop-choice.invariant.1, c.loop-choice.invariant.2)

pub search-preserved : goal.search-preserved
search-preserved g c = (bfs_turn _ _ _ _ _ _ _ _ c.loop-slot.invariant.0 (omega arith) c.loop-slot.invariant.1, omega arith)

pub returns-in-Some-clause-searched : goal.returns-in-Some-clause-searched
returns-in-Some-clause-searched g c =
    let f = g.P.Placing.placement c.args.p.now in
    let law = c.requires.lawful in
    let b = c.search.invariant.0.lined.buckets c.search.head c.if-head-tail.false in
    let e = edge f law (get_or c.search.queue c.search.head 0) (get_or c.loop-choice.queue c.search.head 0) c.loop-slot.slot c.loop-choice.choice _ _ c.leads-next.result b (omega arith) (omega arith)
    c.slots-slots.ensures c.loop-choice.invariant.2 c.word_at-held.ensures c.leads-next.ensures in
    searched_some f c.args.word _ _
    (bfs_found _ _ _ _ _ _ _ _ c.loop-choice.invariant.0 (within f law) c.loop-choice.invariant.1 (omega arith) (omega arith) c.leads-next.result _ e.1 e.2 (omega arith) (omega arith) c.if-came-next-eq0.true (λ k l. law.inside c.args.word k l))
    (subst (Roomy f c.leads-next.result) c.in-Some.is c.room.ensures)
