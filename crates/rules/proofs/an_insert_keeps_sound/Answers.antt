use Rattle.rules.proofs.Entries.{an_insert_keeps_sound}
use Rattle.rules.proofs.an_insert_keeps_sound.Goals as goal

pub returns : goal.returns
returns g c = an_insert_keeps_sound
