use Rattle.std.proofs.Common.{None, refl, sym, ◌∙◌}
use Rattle.connections.specs.declared.connections.Connections.{Connections}
use Rattle.connections.proofs.SessionLemmas.{none-goes, over-goes, with_connection}
use Rattle.connections.proofs.SequencerLemmas.{sequencer-moved, still-moved, still-same}
use Rattle.connections.proofs.SeatLemmas.{closes-own, follow-kept, left-follow, left-goes, left-keeps, none-seated, none-seated_past, own-taken}
use Rattle.connections.proofs.connections.Connections.leave.Goals as goal

pub returns-clause-goes : goal.returns-clause-goes
returns-clause-goes g c = λ transcript machines list stand.
    let old = c.args.self.now in
    let code = c.in-Some.connection.now in
    let seat = c.in-Some-leave.seat in
    let within = c.in-Some.ensures.item.3.0 in
    let own = sym c.leave.ensures.seat ∙ c.in-Some-leave.is in
    let now : Connections = record { lobby = c.leave-2.new.self; connections = (with_connection old c.args.c c.leave.new.self).connections; replies = old.replies } in
    left-goes machines list old now transcript c.args.c seat code c.leave.new.self stand within c.in-Some.ensures.value own c.leave.ensures.over
    (c.leave-2.ensures.moves (own-taken machines list old transcript c.args.c seat code stand within c.in-Some.ensures.value own)) refl refl

pub returns-clause-seats : goal.returns-clause-seats
returns-clause-seats g c = left-keeps c.args.self.now.connections.items c.args.c c.leave.new.self c.leave.ensures.over

pub returns-in_default-clause-goes : goal.returns-in_default-clause-goes
returns-in_default-clause-goes g c = λ transcript machines list stand. none-goes (λ b. b) machines list c.args.self.now transcript c.args.c c.in_default.ensures.item.3 refl stand

pub returns-in_default-leave-clause-goes : goal.returns-in_default-leave-clause-goes
returns-in_default-leave-clause-goes g c = λ transcript machines list stand.
    over-goes (λ b. b) machines list c.args.self.now transcript c.args.c c.in-Some.connection.now c.leave.new.self c.in-Some.ensures.item.3.0 c.in-Some.ensures.value
    (sym c.leave.ensures.seat ∙ c.in_default-leave.is) c.leave.ensures.over refl stand

pub returns-in_default-leave-clause-seats : goal.returns-in_default-leave-clause-seats
returns-in_default-leave-clause-seats g c = left-keeps c.args.self.now.connections.items c.args.c c.leave.new.self c.leave.ensures.over

pub returns-clause-closed : goal.returns-clause-closed
returns-clause-closed g c =
    let old = c.args.self.now in
    closes-own old.connections.items c.args.c c.in-Some-leave.seat c.in-Some.connection.now c.args.front.now.sequencer c.close_seat.new.self.sequencer c.in-Some.ensures.value
    (sym c.leave.ensures.seat ∙ c.in-Some-leave.is) c.close_seat.ensures.closed

pub returns-clause-follow : goal.returns-clause-follow
returns-clause-follow g c = λ transcript machines list stand follow.
    left-follow machines list c.args.self.now transcript c.args.c c.in-Some-leave.seat c.in-Some.connection.now c.leave.new.self c.args.front.now.sequencer c.close_seat.new.self.sequencer stand c.in-Some.ensures.item.3.0
    c.in-Some.ensures.value (sym c.leave.ensures.seat ∙ c.in-Some-leave.is) c.leave.ensures.over c.close_seat.ensures.closed follow

pub returns-clause-sequencer : goal.returns-clause-sequencer
returns-clause-sequencer g c = λ calls closed stands. sequencer-moved calls closed c.in-Some-leave.seat None c.args.front.now.sequencer c.close_seat.new.self.sequencer c.close_seat.ensures.closed stands

pub returns-in_default-clause-closed : goal.returns-in_default-clause-closed
returns-in_default-clause-closed g c = λ seat seated. absurd (none-seated_past c.args.self.now.connections.items c.args.c seat c.in_default.ensures.item.3 seated)

pub returns-in_default-leave-clause-closed : goal.returns-in_default-leave-clause-closed
returns-in_default-leave-clause-closed g c = λ seat seated.
    absurd (none-seated c.args.self.now.connections.items c.args.c seat c.in-Some.connection.now c.in-Some.ensures.value (sym c.leave.ensures.seat ∙ c.in_default-leave.is) seated)

pub returns-in_default-leave-clause-follow : goal.returns-in_default-leave-clause-follow
returns-in_default-leave-clause-follow g c = λ transcript machines list stand follow.
    follow-kept list c.args.self.now.connections.items _ c.args.front.now.sequencer (left-keeps c.args.self.now.connections.items c.args.c c.leave.new.self c.leave.ensures.over) follow

pub returns-clause-stands : goal.returns-clause-stands
returns-clause-stands g c =
    still-moved c.in-Some-leave.seat None c.args.front.now.sequencer c.close_seat.new.self.sequencer c.close_seat.ensures.closed c.close_seat.ensures.stands c.close_seat.ensures.expects

pub returns-in_default-clause-stands : goal.returns-in_default-clause-stands
returns-in_default-clause-stands g c = still-same c.args.front.now.sequencer c.args.front.now.sequencer refl

pub returns-in_default-leave-clause-stands : goal.returns-in_default-leave-clause-stands
returns-in_default-leave-clause-stands g c = still-same c.args.front.now.sequencer c.args.front.now.sequencer refl
