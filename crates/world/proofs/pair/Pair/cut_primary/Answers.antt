use Rattle.std.proofs.Common.{refl}
use Rattle.machine.specs.declared.event.Cut.TheVariants as cut
use Rattle.machine.specs.declared.event.Node.TheVariants as node
use Rattle.world.proofs.PairCut.{no-call, none-between}
use Rattle.world.proofs.pair.Pair.cut_primary.Goals as goal

pub returns-in-Between : goal.returns-in-Between
returns-in-Between g c = absurd (none-between c.args.call c.requires.inside c.in-Between.is)

pub returns-in-Apply : goal.returns-in-Apply
returns-in-Apply g c = rw c.in-Apply.is (no-call _ node.Primary cut.Apply c.args.k c.args.picks.now refl (λ w. refl))

pub returns-in-Promote : goal.returns-in-Promote
returns-in-Promote g c = rw c.in-Promote.is (no-call _ node.Primary cut.Promote c.args.k c.args.picks.now refl (λ w. refl))
