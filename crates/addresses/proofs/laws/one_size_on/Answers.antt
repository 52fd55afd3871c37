use Rattle.addresses.proofs.Steps.{one_size_on}
use Rattle.addresses.proofs.laws.one_size_on.Goals as goal

pub returns : goal.returns
returns c = one_size_on
