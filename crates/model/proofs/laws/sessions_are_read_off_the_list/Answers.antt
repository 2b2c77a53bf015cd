use Rattle.model.proofs.SessionLemmas.{session_of_new, session_after-closed, session_after-other, own-answered, own-refused}
use Rattle.model.proofs.laws.sessions_are_read_off_the_list.Goals as goal

pub returns : goal.returns
returns c = record { new = session_of_new; answered = own-answered; refused = own-refused; closed = session_after-closed; others = session_after-other }
