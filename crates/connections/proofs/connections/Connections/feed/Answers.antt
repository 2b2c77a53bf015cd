use Rattle.std.proofs.Common.{◌&&◌, ◌∙◌, not, sym, ap, refl}
use Rattle.std.proofs.lemmas.Result.{IfOk-weaker, on_err_weaker}
use Rattle.machine.specs.Connection.{fed_with, is_closed_by, get_connection}
use Rattle.connections.specs.declared.connection.Client.{Client}
use Rattle.connections.proofs.SessionLemmas.{client-at, client-keeps, over-stays, inbound-goes, none-goes, enabled-at, inbound-same}
use Rattle.connections.proofs.connections.Connections.feed.Goals as goal

pub returns-in-Open-clause-goes : goal.returns-in-Open-clause-goes
returns-in-Open-clause-goes c = λ transcript. IfOk-weaker c.feed.result _ _
    (λ did feeds. λ machines list stand.
    let inbound = (get_connection machines c.args.c).inbound in
    inbound-goes (λ b. b && not (is_closed_by inbound.fed)) did machines list c.args.self.now transcript c.args.c c.in-Open.client c.feed.new.self (fed_with c.args.piece.now)
    c.in-Some.ensures.item.3.0 (client-at c.args.self.now.connections.items c.args.c c.in-Some.connection.now c.in-Open.client c.in-Some.ensures.value c.in-Open.is) stand
    (λ stands. let went = feeds inbound stands in record { done = went.done; goes = went.taken; stays = went.stays }))
    c.feed.ensures.feeds

pub returns-in-Open-clause-same : goal.returns-in-Open-clause-same
returns-in-Open-clause-same c = λ transcript. on_err_weaker c.feed.result
    (λ same. λ machines list stand. inbound-same machines list c.args.self.now transcript c.args.c c.in-Open.client c.feed.new.self c.in-Some.ensures.item.3.0 (client-at c.args.self.now.connections.items c.args.c c.in-Some.connection.now c.in-Open.client c.in-Some.ensures.value c.in-Open.is) same stand) c.feed.ensures.same

pub returns-in-Open-clause-seats : goal.returns-in-Open-clause-seats
returns-in-Open-clause-seats c =
    let now : Client = record { seat = c.in-Open.client.seat; inbound = c.feed.new.self; outbound = c.in-Open.client.outbound } in
    client-keeps c.args.self.now c.args.c c.in-Open.client now (client-at c.args.self.now.connections.items c.args.c c.in-Some.connection.now c.in-Open.client c.in-Some.ensures.value c.in-Open.is) refl

pub returns-in-Over-clause-goes : goal.returns-in-Over-clause-goes
returns-in-Over-clause-goes c = λ transcript machines list stand.
    let inbound = (get_connection machines c.args.c).inbound in
    over-stays (λ b. b && not (is_closed_by inbound.fed)) machines list c.args.self.now transcript c.args.c c.in-Some.connection.now c.in-Some.ensures.item.3.0 c.in-Some.ensures.value c.in-Over.is refl stand

pub returns-in-None-clause-goes : goal.returns-in-None-clause-goes
returns-in-None-clause-goes c = λ transcript machines list stand.
    let inbound = (get_connection machines c.args.c).inbound in
    none-goes (λ b. b && not (is_closed_by inbound.fed)) machines list c.args.self.now transcript c.args.c c.in-None.ensures.item.3 refl stand

pub returns-in-Open-clause-enabled : goal.returns-in-Open-clause-enabled
returns-in-Open-clause-enabled c = λ transcript. on_err_weaker c.feed.result
    (λ is_open. λ machines list stand.
    let inbound = (get_connection machines c.args.c).inbound in
    enabled-at (λ b. b && not (is_closed_by inbound.fed)) machines list c.args.self.now transcript c.args.c c.in-Open.client c.in-Some.ensures.item.3.0 (client-at c.args.self.now.connections.items c.args.c c.in-Some.connection.now c.in-Open.client c.in-Some.ensures.value c.in-Open.is) stand
    (λ stands. ap not (sym stands.inbound.closed ∙ is_open)))
    c.feed.ensures.open
