use Rattle.model.proofs.CallsLemmas.{after_call_error, after_call_unchanging}
use Rattle.model.proofs.laws.refused_calls_change_nothing.Goals as goal

pub returns : goal.returns
returns c = record { error = after_call_error; uncounted = after_call_unchanging }
