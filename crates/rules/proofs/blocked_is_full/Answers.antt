use Rattle.rules.proofs.Fulls.{blocked_is_full}
use Rattle.rules.proofs.blocked_is_full.Goals as goal

pub returns : goal.returns
returns g c = blocked_is_full
