use Rattle.std.proofs.Common.{arith}
use Rattle.serving.proofs.PlacesLemmas.{empty-in-place}
use Rattle.serving.proofs.places.Places.new.Goals as goal

pub invariant_of-result : goal.invariant_of-result
invariant_of-result c = record { in_place = empty-in-place _ (omega (arith, c.loop.invariant.many, c.loop-test.false, c.loop.auto.counter-end)) c.loop.invariant.empty }
