use Rattle.std.proofs.Common.{◌≡◌, [], rules, List, ℕ, ◌++◌, inr, ap₂}
use Rattle.pipes.specs.Ring.{taken_at}
use Rattle.clients.specs.declared.writing.Round.{Round}
use Rattle.clients.specs.Texts.{unsent}
use Rattle.clients.specs.Rounds.{Releases, BreaksOff}
use Rattle.clients.proofs.OutboxLemmas.{first-of-three}
use Rattle.clients.proofs.CarriesLemmas.{releases-carries}
use Rattle.clients.proofs.RoundsLemmas.{round-releases, rounds-written, breaks-before, breaks-holding, breaks-after}
use Rattle.clients.proofs.writing.write_round.Goals as goal

pub returns-in_err-write_released-clause-breaks_off : goal.returns-in_err-write_released-clause-breaks_off
returns-in_err-write_released-clause-breaks_off g c =
    let broken : BreaksOff c.args.seen.now (taken_at c.args.replies.now) (taken_at c.args.replies.now) (g.W.Write.contents c.args.writer.now) (g.W.Write.contents c.write_released.new.writer) c.args.outbox.now.gate =
    breaks-before c.args.seen.now (taken_at c.args.replies.now) (g.W.Write.contents c.args.writer.now) (g.W.Write.contents c.write_released.new.writer) c.args.outbox.now.gate c.write_released.new.self.gate.pending
    c.write_released.ensures.sends in
    search rules

pub returns-in_err-taken-clause-breaks_off : goal.returns-in_err-taken-clause-breaks_off
returns-in_err-taken-clause-breaks_off g c =
    let broken : BreaksOff c.args.seen.now (taken_at c.args.replies.now) (taken_at c.hold_all.new.replies) (g.W.Write.contents c.args.writer.now) (g.W.Write.contents c.write_released.new.writer) c.args.outbox.now.gate =
    breaks-holding c.args.seen.now (taken_at c.args.replies.now) (taken_at c.hold_all.new.replies) (g.W.Write.contents c.args.writer.now) (g.W.Write.contents c.write_released.new.writer)
    c.args.outbox.now.gate c.write_released.new.self.gate c.hold_all.new.self.gate c.write_released.ensures.sends c.in_err-taken.ensures.lost in
    search rules

pub returns-in_err-write_covered-clause-breaks_off : goal.returns-in_err-write_covered-clause-breaks_off
returns-in_err-write_covered-clause-breaks_off g c =
    let broken : BreaksOff c.args.seen.now (taken_at c.args.replies.now) (taken_at c.hold_all.new.replies) (g.W.Write.contents c.args.writer.now) (g.W.Write.contents c.write_covered.new.writer) c.args.outbox.now.gate =
    breaks-after c.args.seen.now (taken_at c.args.replies.now) (taken_at c.hold_all.new.replies) (g.W.Write.contents c.args.writer.now) (g.W.Write.contents c.write_covered.new.writer) c.args.outbox.now.gate c.write_covered.new.self.gate
    (round-releases c.args.seen.now (taken_at c.args.replies.now) (taken_at c.hold_all.new.replies) (g.W.Write.contents c.args.writer.now) (g.W.Write.contents c.write_released.new.writer) (g.W.Write.contents c.write_covered.new.writer)
    c.args.outbox.now.gate c.write_released.new.self.gate c.hold_all.new.self.gate c.write_covered.new.self.gate c.write_released.ensures.sends c.write_released.ensures.waiting c.write_released.ensures.replies
    c.in_ok-taken.ensures.taken c.write_covered.ensures.sends c.write_covered.ensures.waiting c.write_covered.ensures.replies) in
    search rules

pub returns-then-not-branch-2-clause-rounds : goal.returns-then-not-branch-2-clause-rounds
returns-then-not-branch-2-clause-rounds g c =
    let releases : Releases c.args.seen.now (taken_at c.args.replies.now) (taken_at c.hold_all.new.replies) (g.W.Write.contents c.args.writer.now) (g.W.Write.contents c.write_covered.new.writer) c.args.outbox.now.gate c.write_covered.new.self.gate =
    round-releases c.args.seen.now (taken_at c.args.replies.now) (taken_at c.hold_all.new.replies) (g.W.Write.contents c.args.writer.now) (g.W.Write.contents c.write_released.new.writer) (g.W.Write.contents c.write_covered.new.writer)
    c.args.outbox.now.gate c.write_released.new.self.gate c.hold_all.new.self.gate c.write_covered.new.self.gate c.write_released.ensures.sends c.write_released.ensures.waiting c.write_released.ensures.replies
    c.in_ok-taken.ensures.taken c.write_covered.ensures.sends c.write_covered.ensures.waiting c.write_covered.ensures.replies in
    (search rules, inr releases)

pub returns-then-not-branch-2-clause-carries : goal.returns-then-not-branch-2-clause-carries
returns-then-not-branch-2-clause-carries g c =
    releases-carries c.args.seen.now (taken_at c.args.replies.now) (taken_at c.hold_all.new.replies) (g.W.Write.contents c.args.writer.now) (g.W.Write.contents c.write_covered.new.writer) c.args.outbox.now.gate c.write_covered.new.self.gate
    (round-releases c.args.seen.now (taken_at c.args.replies.now) (taken_at c.hold_all.new.replies) (g.W.Write.contents c.args.writer.now) (g.W.Write.contents c.write_released.new.writer) (g.W.Write.contents c.write_covered.new.writer)
    c.args.outbox.now.gate c.write_released.new.self.gate c.hold_all.new.self.gate c.write_covered.new.self.gate c.write_released.ensures.sends c.write_released.ensures.waiting c.write_released.ensures.replies
    c.in_ok-taken.ensures.taken c.write_covered.ensures.sends c.write_covered.ensures.waiting c.write_covered.ensures.replies)

pub returns-clause-rounds : goal.returns-clause-rounds
returns-clause-rounds g c =
    let none : c.write_covered.new.self.gate.pending ≡ [] = search rules in
    let last : c.round_of.result ≡ Round.Last → unsent c.write_covered.new.self.gate ≡ [] =
    λ is. ap₂ (λ (x y : List ℕ). x ++ y) none (c.write_covered.ensures.all (c.is_covered.ensures (first-of-three _ _ _ (c.round_of.ensures.last is)))) in
    rounds-written c.args.seen.now c.round_of.result (taken_at c.args.replies.now) (taken_at c.hold_all.new.replies) (g.W.Write.contents c.args.writer.now) (g.W.Write.contents c.write_covered.new.writer) c.args.outbox.now.gate c.write_covered.new.self.gate
    c.round_of.ensures.written last none
    (round-releases c.args.seen.now (taken_at c.args.replies.now) (taken_at c.hold_all.new.replies) (g.W.Write.contents c.args.writer.now) (g.W.Write.contents c.write_released.new.writer) (g.W.Write.contents c.write_covered.new.writer)
    c.args.outbox.now.gate c.write_released.new.self.gate c.hold_all.new.self.gate c.write_covered.new.self.gate c.write_released.ensures.sends c.write_released.ensures.waiting c.write_released.ensures.replies
    c.in_ok-taken.ensures.taken c.write_covered.ensures.sends c.write_covered.ensures.waiting c.write_covered.ensures.replies)

pub returns-clause-carries : goal.returns-clause-carries
returns-clause-carries g c =
    releases-carries c.args.seen.now (taken_at c.args.replies.now) (taken_at c.hold_all.new.replies) (g.W.Write.contents c.args.writer.now) (g.W.Write.contents c.write_covered.new.writer) c.args.outbox.now.gate c.write_covered.new.self.gate
    (round-releases c.args.seen.now (taken_at c.args.replies.now) (taken_at c.hold_all.new.replies) (g.W.Write.contents c.args.writer.now) (g.W.Write.contents c.write_released.new.writer) (g.W.Write.contents c.write_covered.new.writer)
    c.args.outbox.now.gate c.write_released.new.self.gate c.hold_all.new.self.gate c.write_covered.new.self.gate c.write_released.ensures.sends c.write_released.ensures.waiting c.write_released.ensures.replies
    c.in_ok-taken.ensures.taken c.write_covered.ensures.sends c.write_covered.ensures.waiting c.write_covered.ensures.replies)
