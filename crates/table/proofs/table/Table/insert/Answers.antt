use Rattle.std.specs.Prelude.{Ok}
use Rattle.std.proofs.Common.{◌≤◌, length, refl, ap, ◌∙◌, arith}
use Rattle.std.proofs.lemmas.Result.{err_from_is_err_and}
use Rattle.addresses.specs.Sized.{buckets_in}
use Rattle.rules.specs.Tables.{used_in}
use Rattle.table.specs.States.{state_of}
use Rattle.table.proofs.Insertions.{Leaves, leaves_err, leaves_ok}
use Rattle.table.proofs.table.Table.insert.Given.{Over}
use Rattle.table.proofs.table.Table.insert.Goals as goal

written :
    (g : Over) (c : goal.After-self-1 g) →
    Leaves g.R.Record.key_of g.R.Record.words_of (g.F.Family.hash_of c.args.self.now.family.now) (state_of g.S.Store.cells c.args.self.now) c.args.added (length c.args.queue.now) (length c.args.came.now)
    (g.S.Store.code c.args.self.now.store) (g.S.Store.raw c.args.self.now.store) (g.S.Store.raw c.put.new.store)
    (state_of g.S.Store.cells (record { size = c.args.self.now.size; count = c.saturating_add-self.result; family = c.args.self.now.family; store = c.put.new.store })) (Ok c.in_ok-spot.spot.moves)
written g c =
    let p = c.put.ensures in
    let k = c.settle_in.ensures in
    let lv : buckets_in c.args.self.now.size ≤ length c.args.queue.now = omega arith in
    let lw : buckets_in c.args.self.now.size ≤ length c.args.came.now = omega arith in
    let reach : used_in c.args.self.now.size ≤ length (g.S.Store.cells c.args.self.now.store) = omega (arith, c.used.ensures) in
    leaves_ok _ _ g.met.R.Record.apart _ _ _ _ (c.words-words.ensures ∙ ap g.R.Record.words_of c.key.ensures) _ _ lv lw _ _ _ _ _ k.settled
    c.in_ok-spot.spot c.in_ok-spot.was reach _ k.lasting.code _ _ refl p.cells p.others p.made c.saturating_add-self.ensures

pub returns-clause-inserted : goal.returns-clause-inserted
returns-clause-inserted g c = (written g c).inserted

pub returns-clause-sound : goal.returns-clause-sound
returns-clause-sound g c = (written g c).sound

pub returns-clause-kept : goal.returns-clause-kept
returns-clause-kept g c = (written g c).kept

declined :
    (g : Over) (c : goal.After-from_residual g) →
    Leaves g.R.Record.key_of g.R.Record.words_of (g.F.Family.hash_of c.args.self.now.family.now) (state_of g.S.Store.cells c.args.self.now) c.args.added (length c.args.queue.now) (length c.args.came.now)
    (g.S.Store.code c.args.self.now.store) (g.S.Store.raw c.args.self.now.store) (g.S.Store.raw c.settle_in.new.store)
    (state_of g.S.Store.cells (record { size = c.args.self.now.size; count = c.args.self.now.count; family = c.args.self.now.family; store = c.settle_in.new.store })) c.from_residual.result
declined g c =
    let lv : buckets_in c.args.self.now.size ≤ length c.args.queue.now = omega arith in
    let lw : buckets_in c.args.self.now.size ≤ length c.args.came.now = omega arith in
    let o = err_from_is_err_and c.from_residual.result c.from_residual.ensures.1 in
    rw (o.1, o.2) (leaves_err _ _ g.met.R.Record.apart _ _ _ _ (c.words-words.ensures ∙ ap g.R.Record.words_of c.key.ensures) _ _ lv lw _ _ _ _ _ c.settle_in.ensures.settled _ c.in_err-spot.was)

pub returns-in_err-spot-clause-inserted : goal.returns-in_err-spot-clause-inserted
returns-in_err-spot-clause-inserted g c = (declined g c).inserted

pub returns-in_err-spot-clause-sound : goal.returns-in_err-spot-clause-sound
returns-in_err-spot-clause-sound g c = (declined g c).sound

pub returns-in_err-spot-clause-kept : goal.returns-in_err-spot-clause-kept
returns-in_err-spot-clause-kept g c = (declined g c).kept
