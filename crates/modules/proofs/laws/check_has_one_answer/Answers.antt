use Rattle.modules.proofs.Ones.{check_has_one_answer}
use Rattle.modules.proofs.laws.check_has_one_answer.Goals as goal

pub returns : goal.returns
returns c = check_has_one_answer
