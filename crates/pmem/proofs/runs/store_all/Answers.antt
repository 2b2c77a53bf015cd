use Rattle.pmem.proofs.Chaining.{Runs-none, Runs-next_store}
use Rattle.pmem.proofs.runs.store_all.Goals as goal

pub loop-word-init : goal.loop-word-init
loop-word-init g c = Runs-none (g.P.Pmem.state c.args.device.now)

pub loop-word-preserved : goal.loop-word-preserved
loop-word-preserved g c =
    Runs-next_store c.args.pairs.now c.loop-word.word-index c.loop-word-test.true c.loop-word.invariant c.store.ensures.steps
