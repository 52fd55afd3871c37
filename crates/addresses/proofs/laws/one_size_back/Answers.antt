use Rattle.addresses.proofs.Steps.{one_size_back}
use Rattle.addresses.proofs.laws.one_size_back.Goals as goal

pub returns : goal.returns
returns c = one_size_back
