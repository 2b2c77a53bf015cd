use Rattle.std.proofs.Common.{◌&&◌, nat_lt, length, refl, sym, subst}
use Rattle.std.proofs.lemmas.Result.{IfOk-weaker, on_err_weaker}
use Rattle.machine.specs.Connection.{offered_next, asked, has_room, get_connection}
use Rattle.connections.specs.Asking.{AskingRefines}
use Rattle.connections.specs.declared.asking.Asking.{Asking}
use Rattle.connections.specs.declared.connection.Client.{Client}
use Rattle.connections.proofs.SessionLemmas.{client-at, client-keeps, over-stays, inbound-goes, none-goes, enabled-at, inbound-same, on_err_both}
use Rattle.connections.proofs.AskingLemmas.{may-offer}
use Rattle.connections.proofs.connections.Connections.offer.Goals as goal

pub returns-in-Open-clause-goes : goal.returns-in-Open-clause-goes
returns-in-Open-clause-goes c = λ transcript. IfOk-weaker c.offer.result _ _
    (λ did offers. λ machines list stand.
    let inbound = (get_connection machines c.args.c).inbound in
    inbound-goes (λ b. b && nat_lt inbound.offered (length (asked inbound.fed)) && has_room inbound.waiting) did machines list c.args.self.now transcript c.args.c c.in-Open.client c.offer.new.self offered_next
    c.in-Some.ensures.item.3.0 (client-at c.args.self.now.connections.items c.args.c c.in-Some.connection.now c.in-Open.client c.in-Some.ensures.value c.in-Open.is) stand
    (λ stands. let went = offers inbound stands in record { done = went.done; goes = went.offered; stays = went.stays }))
    c.offer.ensures.offers

pub returns-in-Open-clause-same : goal.returns-in-Open-clause-same
returns-in-Open-clause-same c = λ transcript. on_err_weaker c.offer.result
    (λ same. λ machines list stand. inbound-same machines list c.args.self.now transcript c.args.c c.in-Open.client c.offer.new.self c.in-Some.ensures.item.3.0 (client-at c.args.self.now.connections.items c.args.c c.in-Some.connection.now c.in-Open.client c.in-Some.ensures.value c.in-Open.is) (λ machine. subst (λ (code : Asking). AskingRefines code machine) (sym same)) stand) c.offer.ensures.same

pub returns-in-Open-clause-seats : goal.returns-in-Open-clause-seats
returns-in-Open-clause-seats c =
    let now : Client = record { seat = c.in-Open.client.seat; inbound = c.offer.new.self; outbound = c.in-Open.client.outbound } in
    client-keeps c.args.self.now c.args.c c.in-Open.client now (client-at c.args.self.now.connections.items c.args.c c.in-Some.connection.now c.in-Open.client c.in-Some.ensures.value c.in-Open.is) refl

pub returns-in-Over-clause-goes : goal.returns-in-Over-clause-goes
returns-in-Over-clause-goes c = λ transcript machines list stand.
    let inbound = (get_connection machines c.args.c).inbound in
    over-stays (λ b. b && nat_lt inbound.offered (length (asked inbound.fed)) && has_room inbound.waiting) machines list c.args.self.now transcript c.args.c c.in-Some.connection.now c.in-Some.ensures.item.3.0 c.in-Some.ensures.value c.in-Over.is refl stand

pub returns-in-None-clause-goes : goal.returns-in-None-clause-goes
returns-in-None-clause-goes c = λ transcript machines list stand.
    let inbound = (get_connection machines c.args.c).inbound in
    none-goes (λ b. b && nat_lt inbound.offered (length (asked inbound.fed)) && has_room inbound.waiting) machines list c.args.self.now transcript c.args.c c.in-None.ensures.item.3 refl stand

pub returns-in-Open-clause-enabled : goal.returns-in-Open-clause-enabled
returns-in-Open-clause-enabled c = λ transcript. on_err_both c.offer.result
    (λ some room. λ machines list stand.
    let inbound = (get_connection machines c.args.c).inbound in
    enabled-at (λ b. b && nat_lt inbound.offered (length (asked inbound.fed)) && has_room inbound.waiting) machines list c.args.self.now transcript c.args.c c.in-Open.client
    c.in-Some.ensures.item.3.0 (client-at c.args.self.now.connections.items c.args.c c.in-Some.connection.now c.in-Open.client c.in-Some.ensures.value c.in-Open.is) stand (λ stands. may-offer c.in-Open.client.inbound inbound stands.inbound some room))
    c.offer.ensures.some c.offer.ensures.room
