use Rattle.std.proofs.Common.{true, refl}
use Rattle.machine.specs.Connection.{having_seen, get_connection}
use Rattle.connections.specs.declared.connection.Client.{Client}
use Rattle.connections.proofs.SessionLemmas.{client-at, client-keeps, over-stays, outbound-goes, none-goes, seen-kept}
use Rattle.connections.proofs.connections.Connections.read.Goals as goal

pub returns-in-Open-clause-goes : goal.returns-in-Open-clause-goes
returns-in-Open-clause-goes c = λ transcript machines list stand.
    outbound-goes (λ b. b) true machines list c.args.self.now transcript c.args.c c.in-Open.client c.read.new.self (having_seen c.args.mark c.args.marks)
    (seen-kept c.args.mark c.args.marks)
    c.in-Some.ensures.item.3.0 (client-at c.args.self.now.connections.items c.args.c c.in-Some.connection.now c.in-Open.client c.in-Some.ensures.value c.in-Open.is) stand
    (λ stands. record {
      done = refl;
      goes = λ _. c.read.ensures.stands list (get_connection machines c.args.c).outbound stands;
      stays = λ not_did. cc;
    })

pub returns-in-Open-clause-seats : goal.returns-in-Open-clause-seats
returns-in-Open-clause-seats c =
    let now : Client = record { seat = c.in-Open.client.seat; inbound = c.in-Open.client.inbound; outbound = c.read.new.self } in
    client-keeps c.args.self.now c.args.c c.in-Open.client now (client-at c.args.self.now.connections.items c.args.c c.in-Some.connection.now c.in-Open.client c.in-Some.ensures.value c.in-Open.is) refl

pub returns-in-Over-clause-goes : goal.returns-in-Over-clause-goes
returns-in-Over-clause-goes c = λ transcript machines list stand. over-stays (λ b. b) machines list c.args.self.now transcript c.args.c c.in-Some.connection.now c.in-Some.ensures.item.3.0 c.in-Some.ensures.value c.in-Over.is refl stand

pub returns-in-None-clause-goes : goal.returns-in-None-clause-goes
returns-in-None-clause-goes c = λ transcript machines list stand. none-goes (λ b. b) machines list c.args.self.now transcript c.args.c c.in-None.ensures.item.3 refl stand
