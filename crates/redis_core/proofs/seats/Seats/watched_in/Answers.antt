use Rattle.std.proofs.Common.{sym, ap, ◌∙◌}
use Rattle.std.proofs.lemmas.Result.{IfOk-weaker}
use Rattle.multi_watch.specs.Session.{is_watched}
use Rattle.multi_watch.specs.Sessions.{session_at}
use Rattle.redis_core.proofs.SeatsLemmas.{watched_seat, seat_watches}
use Rattle.redis_core.proofs.seats.Seats.watched_in.Goals as goal

pub returns-clause-held : goal.returns-clause-held
returns-clause-held g c = IfOk-weaker c.watched_in.result _ _ (λ keys held seat own is.
    let number = watched_seat c.self.inside.sessions c.self.inside.numbers.items seat own (ap (λ s. is_watched own (session_at s seat).watched) c.self.view_is ∙ is) in
    held number.0 own number.1) c.watched_in.ensures.held

pub returns-clause-watched : goal.returns-clause-watched
returns-clause-watched g c = IfOk-weaker c.watched_in.result _ _ (λ keys watched own is.
    let number = watched own is in
    let found = seat_watches c.self.inside.sessions c.self.inside.numbers.items c.self.invariant own number.0 number.1 in
    (found.0, ap (λ s. is_watched own (session_at s found.0).watched) (sym c.self.view_is) ∙ found.1)) c.watched_in.ensures.watched
