use Rattle.rules.proofs.Holdings.{a_sound_table_is_held}
use Rattle.rules.proofs.a_sound_table_is_held.Goals as goal

pub returns : goal.returns
returns g c = a_sound_table_is_held
