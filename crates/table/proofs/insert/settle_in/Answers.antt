use Rattle.std.proofs.Common.{rules}
use Rattle.rules.specs.Placements.{placement_of}
use Rattle.rules.specs.Written.{Wrote}
use Rattle.rules.proofs.Lawfuls.{lawful_placement}
use Rattle.settle.specs.Settled.{Settled}
use Rattle.table.proofs.Puts.{carried}
use Rattle.table.proofs.insert.settle_in.Goals as goal

pub settle-requires : goal.settle-requires
settle-requires g c = record { lawful = lawful_placement _ _ c.args.size _ c.requires.reach; long = c.requires.long }

pub returns-clause-settled : goal.returns-clause-settled
returns-clause-settled g c =
    carried
    (λ st. Settled (placement_of (λ x. g.R.Record.words_of (g.R.Record.key_of x)) (g.F.Family.hash_of c.args.family.now) c.args.size (g.S.Store.cells c.args.store.now)) c.args.words.now (g.S.Store.cells st) (Wrote (g.S.Store.code c.args.store.now) (g.S.Store.raw c.args.store.now) (g.S.Store.raw st) (g.S.Store.cells st)) c.settle.result)
    _ c.settle.new.p.store.now (search rules) c.settle.ensures.settled
