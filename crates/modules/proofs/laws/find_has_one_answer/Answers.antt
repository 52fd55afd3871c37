use Rattle.modules.proofs.Ones.{find_has_one_answer}
use Rattle.modules.proofs.laws.find_has_one_answer.Goals as goal

pub returns : goal.returns
returns g c = find_has_one_answer
