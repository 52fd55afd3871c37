use Rattle.rules.proofs.Departures.{a_route_counts_moves}
use Rattle.rules.proofs.a_route_counts_moves.Goals as goal

pub returns : goal.returns
returns g c = a_route_counts_moves
