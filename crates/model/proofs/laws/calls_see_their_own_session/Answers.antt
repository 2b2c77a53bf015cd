use Rattle.model.proofs.CallsLemmas.{MayReply-alike, changes_of-alike}
use Rattle.model.proofs.SessionLemmas.{session_after-alike}
use Rattle.model.proofs.laws.calls_see_their_own_session.Goals as goal

pub returns : goal.returns
returns c = record { reply = MayReply-alike; changes = changes_of-alike; session = session_after-alike }
