use Rattle.machine.proofs.RunLemmas.{sound-worlds}
use Rattle.machine.proofs.laws.every_world_is_sound.Goals as goal

pub returns : goal.returns
returns c = sound-worlds
