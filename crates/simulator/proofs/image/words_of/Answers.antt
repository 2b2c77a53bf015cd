use Rattle.pmem.specs.Device.{newest_at}
use Rattle.simulator.proofs.RangeLemmas.{one_more}
use Rattle.simulator.proofs.image.words_of.Goals as goal

pub loop-word-preserved : goal.loop-word-preserved
loop-word-preserved g c =
    one_more (newest_at (g.P.Pmem.state c.args.device.now)) c.loop-word.words.items c.push.new.self.items c.loop-word.word c.load.result
    c.loop-word.invariant c.in_ok-push.ensures.items c.load.ensures
