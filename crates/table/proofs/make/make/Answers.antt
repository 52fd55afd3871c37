use Rattle.std.proofs.Common.{◌≤◌, length, arith}
use Rattle.table.proofs.Makings.{new_sound}
use Rattle.table.proofs.make.make.Goals as goal

pub returns-clause-sound : goal.returns-clause-sound
returns-clause-sound g c =
    let reach : c.used-used.result ≤ length (g.S.Store.cells c.args.store.now) = omega arith in
    λ hash. new_sound _ _ c.used-used.ensures _ _ reach c.empty_cells.ensures.emptied g.R.Record.key_of g.R.Record.words_of hash
