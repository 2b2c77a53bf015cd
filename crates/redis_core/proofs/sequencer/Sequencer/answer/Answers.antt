use Rattle.std.proofs.Common.{refl, sym, ◌∙◌}
use Rattle.model.specs.Call.{changes_of}
use Rattle.redis_core.specs.Sequencing.{state_of}
use Rattle.redis_core.specs.Turn.{call_of}
use Rattle.redis_core.proofs.AnswersLemmas.{Replied, replied-request, replied-fault, replied-open, replied-closed}
use Rattle.redis_core.proofs.ExpectingLemmas.{Expects-moves}
use Rattle.redis_core.proofs.StandingLemmas.{IsAheadOf-moves}
use Rattle.redis_core.proofs.sequencer.Sequencer.answer.Given.{Over}
use Rattle.redis_core.proofs.sequencer.Sequencer.answer.Goals as goal
use Rattle.redis_core.proofs.sequencer.Sequencer.answer.Goals.{Joined-item, in-Request, in-Fault}

replied : (g : Over) (c : Joined-item g) → Replied c.args.self.now c.args.seat.now c.args.item c.match-item.reply c.match-item.self
replied g c =
    let old = c.args.self.now in
    let seat = c.args.seat.now in
    elim c.match-item.branch [
      | in-Request w ↦ rw (w.reply-is, w.self-is, w.in-Request.is) (replied-request old seat w.in-Request.request w.answer_request-reply.result w.answer_request-reply.new.self w.answer_request-reply.ensures)
      | in-Fault w ↦ rw (w.reply-is, w.self-is, w.in-Fault.is) (replied-fault old seat w.in-Fault.fault w.fault_reply-reply.result c.requires.open w.fault_reply-reply.ensures)
    ]

pub returns-then-is_last-clause-answers : goal.returns-then-is_last-clause-answers
returns-then-is_last-clause-answers g c =
    replied-closed c.args.self.now c.args.seat.now c.args.item c.match-item.reply c.match-item.self _ (replied g (goal.at.returns-then-is_last-clause-answers g c).Joined-item)
    (sym c.closes-is_last.ensures ∙ c.if-is_last.true) (rw (← c.self.view_is) record {
      table = c.close.ensures.table;
      room = c.close.ensures.room;
      position = refl;
      epoch = refl;
      before = refl;
      waiting = refl;
      ended = refl;
      newest = refl;
      sessions = c.close.ensures.sessions;
      copy = c.close.ensures.copy;
    })

pub returns-then-is_last-clause-stands : goal.returns-then-is_last-clause-stands
returns-then-is_last-clause-stands g c =
    let answers = returns-then-is_last-clause-answers g c in
    IsAheadOf-moves (changes_of (state_of c.args.self.now) (call_of c.args.seat.now c.args.item c.match-item.reply)) c.args.self.now _ answers.moves answers.epoch answers.before

pub returns-else-is_last-clause-answers : goal.returns-else-is_last-clause-answers
returns-else-is_last-clause-answers g c =
    replied-open c.args.self.now c.args.seat.now c.args.item c.match-item.reply c.match-item.self (replied g (goal.at.returns-else-is_last-clause-answers g c).Joined-item)
    (sym c.closes-is_last.ensures ∙ c.if-is_last.false)

pub returns-else-is_last-clause-stands : goal.returns-else-is_last-clause-stands
returns-else-is_last-clause-stands g c =
    let answers = returns-else-is_last-clause-answers g c in
    IsAheadOf-moves (changes_of (state_of c.args.self.now) (call_of c.args.seat.now c.args.item c.match-item.reply)) c.args.self.now _ answers.moves answers.epoch answers.before

pub returns-then-is_last-clause-expects : goal.returns-then-is_last-clause-expects
returns-then-is_last-clause-expects g c =
    let answers = returns-then-is_last-clause-answers g c in
    Expects-moves (changes_of (state_of c.args.self.now) (call_of c.args.seat.now c.args.item c.match-item.reply)) c.args.self.now _ answers.moves

pub returns-else-is_last-clause-expects : goal.returns-else-is_last-clause-expects
returns-else-is_last-clause-expects g c =
    let answers = returns-else-is_last-clause-answers g c in
    Expects-moves (changes_of (state_of c.args.self.now) (call_of c.args.seat.now c.args.item c.match-item.reply)) c.args.self.now _ answers.moves
