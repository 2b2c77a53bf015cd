use Rattle.std.proofs.Common.{sym, ap, subst}
use Rattle.placing.specs.Back.{CanGiveAll, GivesAll}
use Rattle.redis_core.specs.Sequencing.{Sequencing, TakesBack}
use Rattle.redis_core.specs.Stored.{IsBesideWith}
use Rattle.redis_core.proofs.ReturningLemmas.{IsAheadOf-back, beside-back, can-take_back}
use Rattle.redis_core.proofs.sequencer.Sequencer.accept_freed.Goals as goal

pub accept-requires-clause-room : goal.accept-requires-clause-room
accept-requires-clause-room g c =
    let expected = c.requires.expected in
    subst (λ (s : Sequencing). CanGiveAll s.room c.args.entries.now c.args.extents.now) (sym c.self.view_is)
    (can-take_back c.args.self.now expected.0 c.args.entries.now expected.1 c.args.extents.now expected.2 expected.3 expected.4)

pub accept-requires-clause-beside : goal.accept-requires-clause-beside
accept-requires-clause-beside g c =
    let expected = c.requires.expected in
    subst (λ (s : Sequencing). IsBesideWith s.table s.room c.args.entries.now) (sym c.self.view_is)
    (beside-back c.args.self.now expected.0 c.args.entries.now expected.1 c.args.extents.now expected.2 expected.3 expected.4)

pub returns-clause-stands : goal.returns-clause-stands
returns-clause-stands g c = λ contents rest others stands expects.
    let old = c.args.self.now in
    let room = c.accept.new.self.room in
    let takes : TakesBack old c.args.entries.now c.args.extents.now _ = record {
      room = subst (λ (s : Sequencing). GivesAll s.room c.args.entries.now c.args.extents.now room) c.self.view_is c.accept.ensures.room;
      after = rw (c.accept.ensures.table, c.accept.ensures.sessions, c.accept.ensures.copy) (ap (λ (s : Sequencing). record s { room = room }) c.self.view_is);
    } in
    IsAheadOf-back old contents c.args.entries.now rest c.args.extents.now others stands expects _ takes
