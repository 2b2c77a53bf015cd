use Rattle.pmem.specs.Crash.{image_of}
use Rattle.wbl_engine.proofs.ListedEntries.{left_more}
use Rattle.wbl_engine.proofs.reopening.list_left.Goals as goal

pub loop-i-preserved : goal.loop-i-preserved
loop-i-preserved g c =
    left_more c.args.current.now (image_of (g.P.Pmem.state c.args.device.now).words) c.loop-i.i c.read_stamps-begin.result.begin c.is_left.result
    c.loop-i.left.items c.push_if.new.list.items c.loop-i.invariant c.read_stamps-begin.ensures.begin c.is_left.ensures c.in_ok-push_if.ensures
