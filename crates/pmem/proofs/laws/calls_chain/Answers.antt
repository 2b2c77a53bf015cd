use Rattle.pmem.proofs.Floors.{calls-chain}
use Rattle.pmem.proofs.laws.calls_chain.Goals as goal

pub returns : goal.returns
returns c = calls-chain
