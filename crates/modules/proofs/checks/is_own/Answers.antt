use Rattle.std.proofs.Common.{◌≡◌, sym, ap, ◌∙◌, subst, arith, below_more}
use Rattle.assignment.specs.Assign.{In}
use Rattle.addresses.specs.Positions.{choice_of}
use Rattle.addresses.specs.Sized.{place_in}
use Rattle.rules.specs.Tables.{choice_at, own_buckets}
use Rattle.rules.proofs.Owned.{choice_of_lem, own_choice}
use Rattle.modules.proofs.checks.is_own.Goals as goal

pub returns-then-position-p : goal.returns-then-position-p
returns-then-position-p g c =
    let hash = g.F.Family.hash_of c.args.family.now in
    let z = c.args.size in
    let e : choice_at hash z c.args.words c.loop-i.i ≡ c.args.p = ap (λ w. place_in z (choice_of w c.loop-i.i)) (sym c.hash-word.ensures) ∙ ap (place_in z) (sym c.choice.ensures) ∙ sym c.position.ensures.number ∙ c.if-position-p.true in
    subst (λ p. In p (own_buckets hash z c.args.words)) e (own_choice hash z c.args.words c.loop-i.i (omega arith))

pub loop-i-preserved : goal.loop-i-preserved
loop-i-preserved g c =
    below_more _ _ c.loop-i.invariant (λ e. c.if-position-p.false (c.position.ensures.number ∙ ap (place_in c.args.size) c.choice.ensures ∙ e))

pub returns : goal.returns
returns g c = λ own.
    let hash = g.F.Family.hash_of c.args.family.now in
    let z = c.args.size in
    let i = choice_of_lem hash z c.args.words c.args.p own in
    let h = i.1 in
    c.loop-i.invariant i.0 (omega arith) (ap (λ w. place_in z (choice_of w i.0)) c.hash-word.ensures ∙ sym i.2)
