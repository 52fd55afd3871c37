use Rattle.rules.proofs.Erasures.{an_erase_keeps_sound}
use Rattle.rules.proofs.an_erase_keeps_sound.Goals as goal

pub returns : goal.returns
returns g c = an_erase_keeps_sound
