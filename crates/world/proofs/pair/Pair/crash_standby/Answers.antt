use Rattle.std.proofs.Common.{refl, sym, ◌∙◌}
use Rattle.world.proofs.StepLemmas.{acts-is}
use Rattle.world.proofs.pair.Pair.crash_standby.Goals as goal

pub crash_stopped_standby-requires-clause-stopped : goal.crash_stopped_standby-requires-clause-stopped
crash_stopped_standby-requires-clause-stopped g c = sym c.has_stopped.ensures ∙ c.if-has_stopped.true

pub crash_running_standby-requires : goal.crash_running_standby-requires
crash_running_standby-requires g c = record { whole = sym c.has_stopped.ensures ∙ c.if-has_stopped.false; world = (c.args.history.now, c.requires) }

pub returns : goal.returns
returns g c = λ after. acts-is refl (c.crash_running_standby.ensures.does c.args.history.now after) (c.crash_running_standby.ensures.leaves c.args.history.now after)
