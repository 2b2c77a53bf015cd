use Rattle.std.proofs.Common.{refl, sym, ◌∙◌}
use Rattle.world.proofs.StepLemmas.{acts-is}
use Rattle.world.proofs.pair.Pair.crash_primary.Goals as goal

pub crash_stopped_primary-requires-clause-stopped : goal.crash_stopped_primary-requires-clause-stopped
crash_stopped_primary-requires-clause-stopped g c = sym c.has_stopped.ensures ∙ c.if-has_stopped.true

pub crash_running_primary-requires-clause-whole : goal.crash_running_primary-requires-clause-whole
crash_running_primary-requires-clause-whole g c = sym c.has_stopped.ensures ∙ c.if-has_stopped.false

pub returns : goal.returns
returns g c = λ after. acts-is refl (c.crash_running_primary.ensures.does after) (c.crash_running_primary.ensures.leaves after)
