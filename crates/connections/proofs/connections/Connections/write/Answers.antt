use Rattle.std.proofs.Common.{◌<◌, ◌≤◌, ◌&&◌, ◌∙◌, nat_le, length, ap, arith, refl}
use Rattle.std.proofs.lemmas.Bool.{le-leb}
use Rattle.std.proofs.lemmas.Result.{IfOk-weaker, on_err_weaker}
use Rattle.std.specs.Vec.{with_item}
use Rattle.machine.specs.Connection.{get_connection}
use Rattle.connections.specs.declared.connection.Client.{Client}
use Rattle.connections.proofs.SessionLemmas.{client-at, client-keeps, over-stays, none-goes, enabled-at, length-connections, length-released, on_err_both, outbound-same, same-bytes, told-with, with_released, written-goes}
use Rattle.connections.proofs.connections.Connections.write.Goals as goal

pub returns-in-Some-get_mut-clause-goes : goal.returns-in-Some-get_mut-clause-goes
returns-in-Some-get_mut-clause-goes c = IfOk-weaker c.write.result _ _
    (λ did writes. λ machines list stand.
    written-goes c.args.n did machines list c.args.self.now c.args.transcript.now c.args.c c.in-Open.client c.write.new.self c.in-Some-get_mut.released.now c.write.new.released
    c.in-Some.ensures.item.3.0 (client-at c.args.self.now.connections.items c.args.c c.in-Some.connection.now c.in-Open.client c.in-Some.ensures.value c.in-Open.is)
    c.in-Some-get_mut.ensures.item.3.0 c.in-Some-get_mut.ensures.value stand (λ machine stands before. writes list machine stands before))
    c.write.ensures.stands

pub returns-in-Some-get_mut-clause-same : goal.returns-in-Some-get_mut-clause-same
returns-in-Some-get_mut-clause-same c = on_err_both c.write.result
    (λ same kept. λ machines list stand.
    let released = c.args.transcript.now.released in
    let after = with_item released c.args.c c.write.new.released in
    outbound-same machines list c.args.self.now c.args.transcript.now (with_released c.args.transcript.now after) c.args.c c.in-Open.client c.write.new.self c.in-Some.ensures.item.3.0
    (client-at c.args.self.now.connections.items c.args.c c.in-Some.connection.now c.in-Open.client c.in-Some.ensures.value c.in-Open.is) (same list)
    (λ told. told-with c.args.transcript.now after machines machines list
    (same-bytes released.items c.args.c c.in-Some-get_mut.released.now c.write.new.released c.in-Some-get_mut.ensures.value kept ∙ told.released) told) stand)
    c.write.ensures.same c.write.ensures.released

pub returns-in-Some-get_mut-clause-told : goal.returns-in-Some-get_mut-clause-told
returns-in-Some-get_mut-clause-told c =
    on_err_weaker c.write.result (λ kept. record {
      calls = refl;
      released = same-bytes c.args.transcript.now.released.items c.args.c c.in-Some-get_mut.released.now c.write.new.released c.in-Some-get_mut.ensures.value kept;
    }) c.write.ensures.released

pub returns-in-Some-get_mut-clause-seats : goal.returns-in-Some-get_mut-clause-seats
returns-in-Some-get_mut-clause-seats c =
    let now : Client = record { seat = c.in-Open.client.seat; inbound = c.in-Open.client.inbound; outbound = c.write.new.self } in
    client-keeps c.args.self.now c.args.c c.in-Open.client now (client-at c.args.self.now.connections.items c.args.c c.in-Some.connection.now c.in-Open.client c.in-Some.ensures.value c.in-Open.is) refl

pub returns-in-Some-get_mut-clause-enabled : goal.returns-in-Some-get_mut-clause-enabled
returns-in-Some-get_mut-clause-enabled c = on_err_weaker c.write.result
    (λ enough. λ machines list stand.
    let outbound = (get_connection machines c.args.c).outbound in
    enabled-at (λ b. b && nat_le c.args.n (length outbound.pending)) machines list c.args.self.now c.args.transcript.now c.args.c c.in-Open.client c.in-Some.ensures.item.3.0
    (client-at c.args.self.now.connections.items c.args.c c.in-Some.connection.now c.in-Open.client c.in-Some.ensures.value c.in-Open.is) stand
    (λ stands. le-leb c.args.n (length outbound.pending) (omega (arith, enough, ap length stands.outbound.gate.pending))))
    c.write.ensures.enough

pub returns-in-None-get_mut-clause-goes : goal.returns-in-None-get_mut-clause-goes
returns-in-None-get_mut-clause-goes c = λ machines list stand.
    let within : c.args.c < length c.args.self.now.connections.items = c.in-Some.ensures.item.3.0 in
    let past : length c.args.transcript.now.released.items ≤ c.args.c = c.in-None-get_mut.ensures.item.3 in
    absurd (omega (arith, within, past, length-released list c.args.transcript.now machines stand.told, length-connections list c.args.self.now.connections.items machines stand.connections_stand))

pub returns-in-Over-clause-goes : goal.returns-in-Over-clause-goes
returns-in-Over-clause-goes c = λ machines list stand.
    let outbound = (get_connection machines c.args.c).outbound in
    over-stays (λ b. b && nat_le c.args.n (length outbound.pending)) machines list c.args.self.now c.args.transcript.now c.args.c c.in-Some.connection.now c.in-Some.ensures.item.3.0 c.in-Some.ensures.value c.in-Over.is refl stand

pub returns-in-None-clause-goes : goal.returns-in-None-clause-goes
returns-in-None-clause-goes c = λ machines list stand.
    let outbound = (get_connection machines c.args.c).outbound in
    none-goes (λ b. b && nat_le c.args.n (length outbound.pending)) machines list c.args.self.now c.args.transcript.now c.args.c c.in-None.ensures.item.3 refl stand
