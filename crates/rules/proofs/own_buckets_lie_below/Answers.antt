use Rattle.rules.proofs.Owned.{own_buckets_lie_below}
use Rattle.rules.proofs.own_buckets_lie_below.Goals as goal

pub returns : goal.returns
returns c = own_buckets_lie_below
