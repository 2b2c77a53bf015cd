use Rattle.std.proofs.Common.{Some, ap, refl}
use Rattle.multi_watch.specs.Session.{idle_session}
use Rattle.primary.specs.declared.front.Front.{Front}
use Rattle.connections.proofs.SequencerLemmas.{still-moved, still-same}
use Rattle.connections.proofs.connections.prepare.Goals as goal

pub returns-clause-stands : goal.returns-clause-stands
returns-clause-stands g c =
    still-moved c.args.seat.now (Some idle_session) c.args.front.now.sequencer c.open_seat.new.self.sequencer c.in_ok-open_seat.ensures.ok c.in_ok-open_seat.ensures.stands
    c.in_ok-open_seat.ensures.expects

pub returns-in_err-reserve-clause-stands : goal.returns-in_err-reserve-clause-stands
returns-in_err-reserve-clause-stands g c = still-same c.args.front.now.sequencer c.args.front.now.sequencer refl

pub returns-in_err-inbound-clause-stands : goal.returns-in_err-inbound-clause-stands
returns-in_err-inbound-clause-stands g c = still-same c.args.front.now.sequencer c.args.front.now.sequencer refl

pub returns-in_err-outbound-clause-stands : goal.returns-in_err-outbound-clause-stands
returns-in_err-outbound-clause-stands g c = still-same c.args.front.now.sequencer c.args.front.now.sequencer refl

pub returns-in_err-open_seat-clause-stands : goal.returns-in_err-open_seat-clause-stands
returns-in_err-open_seat-clause-stands g c = still-same c.args.front.now.sequencer c.open_seat.new.self.sequencer (ap (λ (front : Front _). front.sequencer) c.in_err-open_seat.ensures.err)
