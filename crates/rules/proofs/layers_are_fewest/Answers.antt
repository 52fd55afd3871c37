use Rattle.rules.proofs.Fulls.{layers_are_fewest}
use Rattle.rules.proofs.layers_are_fewest.Goals as goal

pub returns : goal.returns
returns g c = layers_are_fewest
