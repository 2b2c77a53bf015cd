use Rattle.std.proofs.Common.{ℕ, List, rules, refl, sym, ap, ◌∙◌}
use Rattle.std.specs.List.{remove}
use Rattle.serving.specs.Visiting.{floor_of}
use Rattle.serving.specs.declared.places.Places.{Places}
use Rattle.serving.proofs.TurnsLemmas.{serves-then}
use Rattle.serving.proofs.VisitLemmas.{visit-busy, visit-idle, visit-nobody, visit-over, visit-passed, visit-waits}
use Rattle.serving.proofs.open_connections.OpenConnections.serve_place.Goals as goal

pub returns-in_default-clause-visits : goal.returns-in_default-clause-visits
returns-in_default-clause-visits g c =
    visit-nobody c.args.share c.args.number.number c.args.at (floor_of c.args.self.now c.args.front.now.sequencer) _ (search rules) c.lift.ensures.rest c.take_out.ensures refl refl refl

pub returns-in-Over-clause-serves : goal.returns-in-Over-clause-serves
returns-in-Over-clause-serves g c = serves-then _ c.give_turns-any.new.front.sequencer _ c.give_turns-any.ensures.serves c.close-arrival.ensures.serves

pub returns-in-Over-clause-visits : goal.returns-in-Over-clause-visits
returns-in-Over-clause-visits g c =
    visit-over c.args.share c.args.number.number c.args.at (floor_of c.args.self.now c.args.front.now.sequencer) _ c.lift.new.self.connections.items
    c.give_turns-any.new.front.sequencer c.give_turns-any.new.connection c.give_turns-any.result.0 c.give_turns-any.result.1 c.give_turns-any.new.self.filling
    (record {
      connection = c.in-Some.connection;
      is = sym c.in-Some.ensures.lifted;
      of_seat = c.in-Some.ensures.seat;
      lifts = c.lift.ensures.rest;
      turns = c.give_turns-any.ensures.turns;
      is_working = c.args.is_working;
      needs = c.give_turns-any.ensures.needs;
      few = c.give_turns-any.ensures.few;
      ends = c.give_turns-any.ensures.ends;
    })
    c.in-Over.is refl (ap (λ (p : Places). p.connections.items) c.give_turns-any.ensures.places)
    (c.take_out-in-Over.ensures ∙ ap (λ (xs : List ℕ). remove xs c.args.at) c.give_turns-any.ensures.again) c.close-arrival.ensures.closed

pub returns-in-Busy-clause-visits : goal.returns-in-Busy-clause-visits
returns-in-Busy-clause-visits g c =
    visit-busy c.args.share c.args.number.number c.args.at (floor_of c.args.self.now c.args.front.now.sequencer) (floor_of c.give_turns-any.new.self c.give_turns-any.new.front.sequencer) (floor_of c.come_last.new.self c.give_turns-any.new.front.sequencer) c.lift.new.self.connections.items
    c.give_turns-any.new.front.sequencer c.give_turns-any.new.connection c.give_turns-any.result.0 c.give_turns-any.result.1 c.give_turns-any.new.self.filling
    (record {
      connection = c.in-Some.connection;
      is = sym c.in-Some.ensures.lifted;
      of_seat = c.in-Some.ensures.seat;
      lifts = c.lift.ensures.rest;
      turns = c.give_turns-any.ensures.turns;
      is_working = c.args.is_working;
      needs = c.give_turns-any.ensures.needs;
      few = c.give_turns-any.ensures.few;
      ends = c.give_turns-any.ensures.ends;
    })
    c.in-Busy.is c.come_last.ensures.filling (ap (λ (p : Places). p.connections.items) c.give_turns-any.ensures.places) c.give_turns-any.ensures.again
    (c.come_last.ensures.listed c.give_turns-any.new.front.sequencer) refl

pub returns-then-any-clause-visits : goal.returns-then-any-clause-visits
returns-then-any-clause-visits g c =
    visit-waits c.args.share c.args.number.number c.args.at (floor_of c.args.self.now c.args.front.now.sequencer) (floor_of c.give_turns-any.new.self c.give_turns-any.new.front.sequencer) (floor_of c.come_last-then-any.new.self c.give_turns-any.new.front.sequencer) c.lift.new.self.connections.items
    c.give_turns-any.new.front.sequencer c.give_turns-any.new.connection c.give_turns-any.result.0 c.give_turns-any.result.1 c.give_turns-any.new.self.filling
    (record {
      connection = c.in-Some.connection;
      is = sym c.in-Some.ensures.lifted;
      of_seat = c.in-Some.ensures.seat;
      lifts = c.lift.ensures.rest;
      turns = c.give_turns-any.ensures.turns;
      is_working = c.args.is_working;
      needs = c.give_turns-any.ensures.needs;
      few = c.give_turns-any.ensures.few;
      ends = c.give_turns-any.ensures.ends;
    })
    c.in-Waits.is c.if-any.true c.come_last-then-any.ensures.filling (ap (λ (p : Places). p.connections.items) c.give_turns-any.ensures.places) c.give_turns-any.ensures.again
    (c.come_last-then-any.ensures.listed c.give_turns-any.new.front.sequencer) refl

pub returns-else-any-clause-visits : goal.returns-else-any-clause-visits
returns-else-any-clause-visits g c =
    visit-passed c.args.share c.args.number.number c.args.at (floor_of c.args.self.now c.args.front.now.sequencer) _ c.lift.new.self.connections.items _
    c.give_turns-any.new.front.sequencer c.give_turns-any.new.connection c.give_turns-any.result.0 c.give_turns-any.result.1 c.give_turns-any.new.self.filling
    (record {
      connection = c.in-Some.connection;
      is = sym c.in-Some.ensures.lifted;
      of_seat = c.in-Some.ensures.seat;
      lifts = c.lift.ensures.rest;
      turns = c.give_turns-any.ensures.turns;
      is_working = c.args.is_working;
      needs = c.give_turns-any.ensures.needs;
      few = c.give_turns-any.ensures.few;
      ends = c.give_turns-any.ensures.ends;
    })
    c.in-Waits.is c.if-any.false refl (ap (λ (p : Places). p.connections.items) c.give_turns-any.ensures.places) c.put.ensures c.give_turns-any.ensures.again refl

pub returns-in-Idle-clause-visits : goal.returns-in-Idle-clause-visits
returns-in-Idle-clause-visits g c =
    visit-idle c.args.share c.args.number.number c.args.at (floor_of c.args.self.now c.args.front.now.sequencer) (floor_of c.put-in-Idle.new.self c.give_turns-any.new.front.sequencer) c.lift.new.self.connections.items c.give_turns-any.new.self.places.connections.items
    c.give_turns-any.new.front.sequencer c.give_turns-any.new.connection c.give_turns-any.result.0 c.give_turns-any.result.1 c.give_turns-any.new.self.filling
    (record {
      connection = c.in-Some.connection;
      is = sym c.in-Some.ensures.lifted;
      of_seat = c.in-Some.ensures.seat;
      lifts = c.lift.ensures.rest;
      turns = c.give_turns-any.ensures.turns;
      is_working = c.args.is_working;
      needs = c.give_turns-any.ensures.needs;
      few = c.give_turns-any.ensures.few;
      ends = c.give_turns-any.ensures.ends;
    })
    c.in-Idle.is c.put-in-Idle.ensures.filling (ap (λ (p : Places). p.connections.items) c.give_turns-any.ensures.places) c.put-in-Idle.ensures.put
    (c.put-in-Idle.ensures.again ∙ c.take_out-in-Idle.ensures ∙ ap (λ (xs : List ℕ). remove xs c.args.at) c.give_turns-any.ensures.again) refl
