use Rattle.machine.proofs.RunLemmas.{sound-run}
use Rattle.machine.proofs.EveryRun.{frames_are_committed}
use Rattle.machine.proofs.laws.frames_are_committed_groups.Goals as goal

pub returns-clause-groups : goal.returns-clause-groups
returns-clause-groups c = λ allowed events done worlds run. (sound-run allowed events done worlds run).committer.waiting

pub returns-clause-frames : goal.returns-clause-frames
returns-clause-frames c = frames_are_committed
