use Rattle.rules.proofs.Additions.{an_insert_is_an_assignment}
use Rattle.rules.proofs.an_insert_is_an_assignment.Goals as goal

pub returns : goal.returns
returns g c = an_insert_is_an_assignment
