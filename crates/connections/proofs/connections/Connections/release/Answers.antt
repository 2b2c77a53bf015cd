use Rattle.std.proofs.Common.{◌&&◌, refl}
use Rattle.model.specs.Call.{is_nonempty}
use Rattle.machine.specs.Connection.{having_released, covered_prefix, get_connection}
use Rattle.connections.specs.declared.connection.Client.{Client}
use Rattle.connections.proofs.SessionLemmas.{client-at, client-keeps, over-stays, outbound-goes, none-goes}
use Rattle.connections.proofs.connections.Connections.release.Goals as goal

pub returns-in-Open-clause-goes : goal.returns-in-Open-clause-goes
returns-in-Open-clause-goes c = λ transcript machines list stand.
    let outbound = (get_connection machines c.args.c).outbound in
    outbound-goes (λ b. b && is_nonempty (covered_prefix outbound.seen outbound.held)) c.release.result machines list c.args.self.now transcript c.args.c c.in-Open.client c.release.new.self having_released (λ machine. refl)
    c.in-Some.ensures.item.3.0 (client-at c.args.self.now.connections.items c.args.c c.in-Some.connection.now c.in-Open.client c.in-Some.ensures.value c.in-Open.is) stand
    (λ stands. let went = c.release.ensures list outbound stands in record { done = went.done; goes = went.out; stays = went.stays })

pub returns-in-Open-clause-seats : goal.returns-in-Open-clause-seats
returns-in-Open-clause-seats c =
    let now : Client = record { seat = c.in-Open.client.seat; inbound = c.in-Open.client.inbound; outbound = c.release.new.self } in
    client-keeps c.args.self.now c.args.c c.in-Open.client now (client-at c.args.self.now.connections.items c.args.c c.in-Some.connection.now c.in-Open.client c.in-Some.ensures.value c.in-Open.is) refl

pub returns-in-Over-clause-goes : goal.returns-in-Over-clause-goes
returns-in-Over-clause-goes c = λ transcript machines list stand.
    let outbound = (get_connection machines c.args.c).outbound in
    over-stays (λ b. b && is_nonempty (covered_prefix outbound.seen outbound.held)) machines list c.args.self.now transcript c.args.c c.in-Some.connection.now c.in-Some.ensures.item.3.0 c.in-Some.ensures.value c.in-Over.is refl stand

pub returns-in-None-clause-goes : goal.returns-in-None-clause-goes
returns-in-None-clause-goes c = λ transcript machines list stand.
    let outbound = (get_connection machines c.args.c).outbound in
    none-goes (λ b. b && is_nonempty (covered_prefix outbound.seen outbound.held)) machines list c.args.self.now transcript c.args.c c.in-None.ensures.item.3 refl stand
