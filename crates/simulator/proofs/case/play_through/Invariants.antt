use Rattle.world.specs.Pair.{HasWorld}
use Rattle.simulator.proofs.case.play_through.Given as goal

abbrev pub invariant-loop-number : goal.invariant-loop-number
invariant-loop-number g l = HasWorld (g.S.Stepper.parts l.stepper l.history)
