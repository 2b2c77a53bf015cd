use Rattle.world.proofs.RunningLemmas.{plays-on}
use Rattle.world.proofs.playing.play_on.Goals as goal

pub returns : goal.returns
returns g c = λ first second stands.
    plays-on first second _ _ _ _ _ _ _ (c.into_devices-primary.ensures.primary c.play-ended.new.history) (c.into_devices-primary.ensures.standby c.play-ended.new.history) (c.play-ended.ensures first second stands)
