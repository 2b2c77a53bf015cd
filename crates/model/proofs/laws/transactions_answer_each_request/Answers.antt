use Rattle.model.proofs.CallsLemmas.{changes_for-error}
use Rattle.model.proofs.SessionLemmas.{answers_each, changes_of-exec}
use Rattle.multi_watch.specs.Admission.{RunAll}
use Rattle.std.specs.Prelude.{codes}
use Rattle.model.proofs.laws.transactions_answer_each_request.Goals as goal

pub returns : goal.returns
returns c = record { each = answers_each; refused = λ s requests. changes_for-error s (RunAll requests) (codes "ERR out of memory"); changes = changes_of-exec }
