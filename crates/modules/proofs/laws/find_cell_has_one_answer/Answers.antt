use Rattle.modules.proofs.Ones.{find_cell_has_one_answer}
use Rattle.modules.proofs.laws.find_cell_has_one_answer.Goals as goal

pub returns : goal.returns
returns c = find_cell_has_one_answer
