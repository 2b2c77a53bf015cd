use Rattle.std.proofs.Common.{◌%◌, length, slice_index, rules}
use Rattle.simulator.proofs.RangeLemmas.{one_more}
use Rattle.simulator.proofs.play.repeated.Goals as goal

pub loop-i-preserved : goal.loop-i-preserved
loop-i-preserved c =
    one_more (λ i. slice_index c.args.picks.now (i % length c.args.picks.now)) c.loop-i.all.items c.push.new.self.items c.loop-i.i _
    c.loop-i.invariant c.in_ok-push.ensures.items (search rules)
