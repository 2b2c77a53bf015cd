use Rattle.machine.proofs.RunLemmas.{sound-run}
use Rattle.machine.proofs.PromiseLemmas.{replies-add_up, released-held}
use Rattle.machine.proofs.EveryRun.{answers_bear_positions}
use Rattle.machine.proofs.laws.replies_add_up.Goals as goal

pub returns-clause-texts : goal.returns-clause-texts
returns-clause-texts c = λ allowed events done worlds run. replies-add_up _ (sound-run allowed events done worlds run)

pub returns-clause-waiting : goal.returns-clause-waiting
returns-clause-waiting c = λ allowed events done worlds run d is_one. let o = (sound-run allowed events done worlds run).outbound d is_one in (o.out, o.replies)

pub returns-clause-positions : goal.returns-clause-positions
returns-clause-positions c = answers_bear_positions

pub returns-clause-held : goal.returns-clause-held
returns-clause-held c = λ allowed events done worlds run. released-held _ (sound-run allowed events done worlds run)
