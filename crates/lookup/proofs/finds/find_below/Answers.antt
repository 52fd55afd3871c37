use Rattle.std.proofs.Common.{◌≡◌, ℕ, ◌+◌, ◌*◌, ap, ◌∙◌, subst, arith}
use Rattle.addresses.specs.Positions.{choice_of}
use Rattle.addresses.specs.Sized.{place_in}
use Rattle.rules.specs.Tables.{choice_at}
use Rattle.lookup.specs.Finds.{NoneIn, FirstIn, Match}
use Rattle.lookup.proofs.Seeks.{match_more, match_end}
use Rattle.lookup.proofs.finds.find_below.Goals as goal

pub loop-i-init : goal.loop-i-init
loop-i-init g c = λ k h. absurd (omega arith)

pub returns-in-Some : goal.returns-in-Some
returns-in-Some g c =
    let z = c.args.size in
    let w = c.args.words in
    let M : ℕ → Type 0 = Match (λ x. g.R.Record.words_of (g.R.Record.key_of x)) (g.C.Row.cells c.args.cells.now) w c.args.limit in
    let e : c.position.result ≡ choice_at (g.F.Family.hash_of c.args.family.now) z w c.loop-i.i = c.position.ensures.number ∙ ap (λ q. place_in z q) (c.choice.ensures ∙ ap (λ v. choice_of v c.loop-i.i) c.hash-word.ensures) in
    let found = c.in-Some.ensures in (
      record {
        choice = c.loop-i.i;
        below = omega arith;
        first = subst (λ p. FirstIn M (p * z.settings.cells) (p * z.settings.cells + z.settings.cells) c.in-Some.hit.cell) e found.0;
        others = c.loop-i.invariant;
      },
      found.1,
    )

pub loop-i-preserved : goal.loop-i-preserved
loop-i-preserved g c =
    let z = c.args.size in
    let w = c.args.words in
    let M : ℕ → Type 0 = Match (λ x. g.R.Record.words_of (g.R.Record.key_of x)) (g.C.Row.cells c.args.cells.now) w c.args.limit in
    let e : c.position.result ≡ choice_at (g.F.Family.hash_of c.args.family.now) z w c.loop-i.i = c.position.ensures.number ∙ ap (λ q. place_in z q) (c.choice.ensures ∙ ap (λ v. choice_of v c.loop-i.i) c.hash-word.ensures) in
    match_more M (choice_at (g.F.Family.hash_of c.args.family.now) z w) z.settings.cells c.loop-i.i c.loop-i.invariant
    (subst (λ p. NoneIn M (p * z.settings.cells) (p * z.settings.cells + z.settings.cells)) e c.in_default.ensures)

pub returns : goal.returns
returns g c =
    let z = c.args.size in
    match_end _ (choice_at (g.F.Family.hash_of c.args.family.now) z c.args.words) z.settings.cells c.loop-i.i z.settings.choices c.loop-i.invariant (omega arith)
