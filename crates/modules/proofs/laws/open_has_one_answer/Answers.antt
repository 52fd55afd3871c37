use Rattle.modules.proofs.Opening.{open_has_one_answer}
use Rattle.modules.proofs.laws.open_has_one_answer.Goals as goal

pub returns : goal.returns
returns g c = open_has_one_answer
