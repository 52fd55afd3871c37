use Rattle.rules.proofs.Sounds.{an_empty_table_is_sound}
use Rattle.rules.proofs.an_empty_table_is_sound.Goals as goal

pub returns : goal.returns
returns g c = an_empty_table_is_sound
