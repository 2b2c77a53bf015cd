use Rattle.pmem.proofs.Chaining.{Runs-none, Runs-next_flush}
use Rattle.pmem.proofs.runs.flush_all.Goals as goal

pub loop-line-init : goal.loop-line-init
loop-line-init g c = Runs-none (g.P.Pmem.state c.args.device.now)

pub loop-line-preserved : goal.loop-line-preserved
loop-line-preserved g c =
    Runs-next_flush c.args.lines.now c.loop-line.line-index c.loop-line-test.true c.loop-line.invariant c.flush.ensures.steps
