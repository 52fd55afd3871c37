use Rattle.modules.proofs.Opening.{what_was_closed_opens}
use Rattle.modules.proofs.laws.what_was_closed_opens.Goals as goal

pub returns : goal.returns
returns g c = what_was_closed_opens
