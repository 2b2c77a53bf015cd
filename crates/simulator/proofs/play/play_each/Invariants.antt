use Rattle.world.specs.Pair.{HasWorld}
use Rattle.simulator.proofs.play.play_each.Given as goal

abbrev pub invariant-loop-number : goal.invariant-loop-number
invariant-loop-number g l = HasWorld (g.S.Stepper.parts l.stepper l.history)
