use Rattle.std.proofs.Common.{◌&&◌, List, refl, sym, subst, ◌∙◌}
use Rattle.std.proofs.lemmas.Result.{IfOk-weaker, on_err_weaker}
use Rattle.model.specs.declared.call.Call.{Call}
use Rattle.model.specs.Call.{is_nonempty}
use Rattle.machine.specs.Connection.{held_first, get_connection}
use Rattle.connections.specs.declared.connection.Client.{Client}
use Rattle.connections.specs.declared.outbound.Outbound.{Outbound}
use Rattle.connections.specs.Outbound.{OutboundRefines, HoldsFirst}
use Rattle.connections.proofs.SessionLemmas.{client-at, client-keeps, over-stays, outbound-goes, none-goes, enabled-at, outbound-same}
use Rattle.connections.proofs.OutboundLemmas.{may-hold}
use Rattle.connections.proofs.connections.Connections.hold.Goals as goal

pub returns-in-Open-clause-goes : goal.returns-in-Open-clause-goes
returns-in-Open-clause-goes c = IfOk-weaker c.hold.result _ _
    (λ did holds. λ machines list stand.
    let outbound = (get_connection machines c.args.c).outbound in
    outbound-goes (λ b. b && is_nonempty outbound.made) did machines list c.args.self.now c.args.transcript.now c.args.c c.in-Open.client c.hold.new.self held_first (λ machine. refl)
    c.in-Some.ensures.item.3.0 (client-at c.args.self.now.connections.items c.args.c c.in-Some.connection.now c.in-Open.client c.in-Some.ensures.value c.in-Open.is) stand
    (λ stands.
    let went =
    subst (λ (calls : List Call). OutboundRefines calls c.in-Open.client.outbound outbound → HoldsFirst calls c.hold.new.self did outbound)
    (c.as_slice.ensures.value ∙ stand.told.calls_are) (holds outbound) stands in
    record { done = went.done; goes = went.held; stays = went.stays }))
    c.hold.ensures.stands

pub returns-in-Open-clause-same : goal.returns-in-Open-clause-same
returns-in-Open-clause-same c = on_err_weaker c.hold.result
    (λ same. λ machines list stand. outbound-same machines list c.args.self.now c.args.transcript.now c.args.transcript.now c.args.c c.in-Open.client c.hold.new.self c.in-Some.ensures.item.3.0 (client-at c.args.self.now.connections.items c.args.c c.in-Some.connection.now c.in-Open.client c.in-Some.ensures.value c.in-Open.is) (λ machine. subst (λ (code : Outbound). OutboundRefines list code machine) (sym same)) (λ told. told) stand) c.hold.ensures.same

pub returns-in-Open-clause-seats : goal.returns-in-Open-clause-seats
returns-in-Open-clause-seats c =
    let now : Client = record { seat = c.in-Open.client.seat; inbound = c.in-Open.client.inbound; outbound = c.hold.new.self } in
    client-keeps c.args.self.now c.args.c c.in-Open.client now (client-at c.args.self.now.connections.items c.args.c c.in-Some.connection.now c.in-Open.client c.in-Some.ensures.value c.in-Open.is) refl

pub returns-in-Over-clause-goes : goal.returns-in-Over-clause-goes
returns-in-Over-clause-goes c = λ machines list stand.
    let outbound = (get_connection machines c.args.c).outbound in
    over-stays (λ b. b && is_nonempty outbound.made) machines list c.args.self.now c.args.transcript.now c.args.c c.in-Some.connection.now c.in-Some.ensures.item.3.0 c.in-Some.ensures.value c.in-Over.is refl stand

pub returns-in-None-clause-goes : goal.returns-in-None-clause-goes
returns-in-None-clause-goes c = λ machines list stand.
    let outbound = (get_connection machines c.args.c).outbound in
    none-goes (λ b. b && is_nonempty outbound.made) machines list c.args.self.now c.args.transcript.now c.args.c c.in-None.ensures.item.3 refl stand

pub returns-in-Open-clause-enabled : goal.returns-in-Open-clause-enabled
returns-in-Open-clause-enabled c = on_err_weaker c.hold.result
    (λ some. λ machines list stand.
    let outbound = (get_connection machines c.args.c).outbound in
    enabled-at (λ b. b && is_nonempty outbound.made) machines list c.args.self.now c.args.transcript.now c.args.c c.in-Open.client c.in-Some.ensures.item.3.0 (client-at c.args.self.now.connections.items c.args.c c.in-Some.connection.now c.in-Open.client c.in-Some.ensures.value c.in-Open.is) stand
    (λ stands. may-hold list c.in-Open.client.outbound.made.items outbound.made some stands.outbound.made))
    c.hold.ensures.some
