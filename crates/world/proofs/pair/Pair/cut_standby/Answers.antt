use Rattle.std.proofs.Common.{refl}
use Rattle.machine.specs.declared.event.Cut.TheVariants as cut
use Rattle.machine.specs.declared.event.Node.TheVariants as node
use Rattle.world.proofs.PairCut.{no-call, none-between}
use Rattle.world.proofs.pair.Pair.cut_standby.Goals as goal

pub returns-in-Between : goal.returns-in-Between
returns-in-Between g c = absurd (none-between c.args.call c.requires.inside c.in-Between.is)

pub returns-in-Commit : goal.returns-in-Commit
returns-in-Commit g c = rw c.in-Commit.is (no-call _ node.Standby cut.Commit c.args.k c.args.picks.now refl (λ w. refl))

pub returns-in-Free : goal.returns-in-Free
returns-in-Free g c = rw c.in-Free.is (no-call _ node.Standby cut.Free c.args.k c.args.picks.now refl (λ w. refl))

pub returns-in-ClearGap : goal.returns-in-ClearGap
returns-in-ClearGap g c = rw c.in-ClearGap.is (no-call _ node.Standby cut.ClearGap c.args.k c.args.picks.now refl (λ w. refl))
