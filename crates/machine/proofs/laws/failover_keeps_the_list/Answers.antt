use Rattle.machine.proofs.EveryRun.{no_newcomer_is_promoted, nothing_happens_fenced, only_fenced_is_succeeded, promotions_succeed}
use Rattle.machine.proofs.laws.failover_keeps_the_list.Goals as goal

pub returns-clause-fenced : goal.returns-clause-fenced
returns-clause-fenced c = nothing_happens_fenced

pub returns-clause-only : goal.returns-clause-only
returns-clause-only c = only_fenced_is_succeeded

pub returns-clause-newcomer : goal.returns-clause-newcomer
returns-clause-newcomer c = no_newcomer_is_promoted

pub returns-clause-succeeds : goal.returns-clause-succeeds
returns-clause-succeeds c = promotions_succeed
