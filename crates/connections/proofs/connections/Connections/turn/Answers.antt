use Rattle.std.proofs.Common.{◌≢◌, ◌<◌, length, drop, false, refl, sym, subst, ◌∙◌, arith}
use Rattle.machine.specs.declared.event.TheConstants.{PIPE_ITEMS}
use Rattle.machine.specs.Connection.{get_connection}
use Rattle.connections.specs.declared.connections.Connections.{Connections}
use Rattle.connections.specs.Running.{Runs}
use Rattle.connections.specs.Session.{ClientRefines, TakesTurn}
use Rattle.connections.proofs.SessionLemmas.{client-at, client-keeps, not-open}
use Rattle.connections.proofs.TurnLemmas.{first-asked, none-wait, client-stands, no-turn-over, no-turn-past, no-turn-unserved, turn-taken}
use Rattle.connections.proofs.PositionsLemmas.{pushed-in-room}
use Rattle.connections.proofs.SequencerLemmas.{still-same}
use Rattle.connections.proofs.connections.Connections.turn.Goals as goal
use Rattle.connections.proofs.connections.Connections.turn.Goals.{then-len-eq-PIPE_ITEMS-via-then-len-eq-PIPE_ITEMS, then-len-eq-PIPE_ITEMS-via-else-len-eq-PIPE_ITEMS+then-is_empty}

pub returns-in_default-clause-turns : goal.returns-in_default-clause-turns
returns-in_default-clause-turns g c = λ machines list closed sound stands sequencer follow. no-turn-past machines list closed c.args.c c.args.self.now c.args.transcript.now c.args.front.now.sequencer c.in_default.ensures.item.3 stands

pub returns-then-len-eq-PIPE_ITEMS-clause-turns : goal.returns-then-len-eq-PIPE_ITEMS-clause-turns
returns-then-len-eq-PIPE_ITEMS-clause-turns g c = λ machines list closed sound stands sequencer follow.
    let old = c.args.self.now in
    let code = c.in-Open.client in
    let s = c.args.front.now.sequencer in
    let lt : c.args.c < length old.connections.items = c.in-Some.ensures.item.3.0 in
    elim c.then-len-eq-PIPE_ITEMS.branch [
      | then-len-eq-PIPE_ITEMS-via-then-len-eq-PIPE_ITEMS b ↦
          subst (λ (x : Connections). TakesTurn machines list closed c.args.c false x c.args.transcript.now s s) (sym b.self-is)
          (no-turn-unserved machines list closed c.args.c old _ c.args.transcript.now code code s s lt (client-at c.args.self.now.connections.items c.args.c c.in-Some.connection.now c.in-Open.client c.in-Some.ensures.value c.in-Open.is) (λ may. absurd (omega (arith, may.room, b.if-len-eq-PIPE_ITEMS.true, c.len.ensures))) sound stands sequencer follow
          (record { lobby = refl; connections = refl; seat = refl; source = refl; gate = refl; seen = refl }) refl refl refl stands.no_reply refl)
      | then-len-eq-PIPE_ITEMS-via-else-len-eq-PIPE_ITEMS+then-is_empty b ↦
          subst (λ (x : Connections). TakesTurn machines list closed c.args.c false x c.args.transcript.now s s) (sym b.self-is)
          (no-turn-unserved machines list closed c.args.c old _ c.args.transcript.now code code s s lt (client-at c.args.self.now.connections.items c.args.c c.in-Some.connection.now c.in-Open.client c.in-Some.ensures.value c.in-Open.is) (λ may. absurd (may.waits (none-wait code.inbound.waiting.items (sym b.is_empty.ensures ∙ b.if-is_empty.true)))) sound stands sequencer follow
          (record { lobby = refl; connections = refl; seat = refl; source = refl; gate = refl; seen = refl }) refl refl refl stands.no_reply refl)
    ]

pub returns-in_default-first_reply-clause-turns : goal.returns-in_default-first_reply-clause-turns
returns-in_default-first_reply-clause-turns g c = λ machines list closed sound stands sequencer follow.
    let code = c.in-Open.client in
    let stays = c.in_default-first_reply.ensures.stays stands.no_reply in
    no-turn-unserved machines list closed c.args.c c.args.self.now _ c.args.transcript.now code _ c.args.front.now.sequencer c.first_reply.new.front.sequencer c.in-Some.ensures.item.3.0 (client-at c.args.self.now.connections.items c.args.c c.in-Some.connection.now c.in-Open.client c.in-Some.ensures.value c.in-Open.is)
    (λ may. cc (c.in_default-first_reply.ensures.otherwise stands.no_reply may.is_open may.few may.waits)) sound stands sequencer follow
    (record { lobby = refl; connections = refl; seat = refl; source = refl; gate = refl; seen = refl })
    refl stays.0 refl (c.in_default-first_reply.ensures.replies stands.no_reply) stays.1

pub returns-clause-turns : goal.returns-clause-turns
returns-clause-turns g c = λ machines list closed sound stands sequencer follow.
    let old = c.args.self.now in
    let code = c.in-Open.client in
    let held = c.in-Some-first_reply.held in
    let lt : c.args.c < length old.connections.items = c.in-Some.ensures.item.3.0 in
    let runs : Runs c.args.front.now.sequencer code.seat code.inbound.waiting.items held c.first_reply.new.waiting.items c.first_reply.new.front.sequencer = c.in-Some-first_reply.ensures.runs stands.no_reply in
    let here : ClientRefines list code (get_connection machines c.args.c) = client-stands machines list c.args.c old c.args.transcript.now code stands lt (client-at c.args.self.now.connections.items c.args.c c.in-Some.connection.now c.in-Open.client c.in-Some.ensures.value c.in-Open.is) in
    let full : c.len.result ≢ PIPE_ITEMS = c.if-len-eq-PIPE_ITEMS.false in
    let room : length code.outbound.made.items < PIPE_ITEMS = omega (arith, full, c.len.ensures, code.outbound.made.within) in
    let written = c.write_call.ensures.written runs.item (drop 1 code.inbound.asked.items)
    (first-asked code.inbound (get_connection machines c.args.c).inbound runs.item c.first_reply.new.waiting.items here.inbound runs.first) room in
    let added = pushed-in-room c.args.transcript.now.calls c.args.transcript.now.positions list held.position c.push.result c.push.new.self stands.told.calls_are stands.told.positions stands.told.positions_room c.requires
    c.push.ensures.items c.push.ensures.succeeds c.push.ensures.capacity in
    turn-taken machines list closed c.args.c old _ c.args.transcript.now _ code _ c.args.front.now.sequencer c.first_reply.new.front.sequencer held lt (client-at c.args.self.now.connections.items c.args.c c.in-Some.connection.now c.in-Open.client c.in-Some.ensures.value c.in-Open.is) room sound stands sequencer follow
    (record { lobby = refl; connections = refl; seat = refl; source = refl; gate = refl; seen = refl }) runs
    written.1 written.2 written.0 added.0 (omega (arith, added.1, c.write_call.ensures.room.room)) refl (c.in-Some-first_reply.ensures.replies stands.no_reply)

pub returns-in_default-connection-clause-turns : goal.returns-in_default-connection-clause-turns
returns-in_default-connection-clause-turns g c = λ machines list closed sound stands sequencer follow.
    no-turn-over machines list closed c.args.c c.args.self.now c.args.transcript.now c.in-Some.connection.now c.args.front.now.sequencer (not-open c.in-Some.connection.now c.in_default-connection.not-Open)
    c.in-Some.ensures.item.3.0 c.in-Some.ensures.value stands

pub returns-in_default-first_reply-clause-seats : goal.returns-in_default-first_reply-clause-seats
returns-in_default-first_reply-clause-seats g c = client-keeps c.args.self.now c.args.c c.in-Open.client _ (client-at c.args.self.now.connections.items c.args.c c.in-Some.connection.now c.in-Open.client c.in-Some.ensures.value c.in-Open.is) refl

pub returns-clause-seats : goal.returns-clause-seats
returns-clause-seats g c = client-keeps c.args.self.now c.args.c c.in-Open.client _ (client-at c.args.self.now.connections.items c.args.c c.in-Some.connection.now c.in-Open.client c.in-Some.ensures.value c.in-Open.is) refl

pub returns-clause-stands : goal.returns-clause-stands
returns-clause-stands g c = c.first_reply.ensures.stands

pub returns-in_default-first_reply-clause-stands : goal.returns-in_default-first_reply-clause-stands
returns-in_default-first_reply-clause-stands g c = c.first_reply.ensures.stands

pub returns-in_default-clause-stands : goal.returns-in_default-clause-stands
returns-in_default-clause-stands g c = still-same c.args.front.now.sequencer c.args.front.now.sequencer refl

pub returns-in_default-connection-clause-stands : goal.returns-in_default-connection-clause-stands
returns-in_default-connection-clause-stands g c = still-same c.args.front.now.sequencer c.args.front.now.sequencer refl

pub returns-then-len-eq-PIPE_ITEMS-clause-stands : goal.returns-then-len-eq-PIPE_ITEMS-clause-stands
returns-then-len-eq-PIPE_ITEMS-clause-stands g c = still-same c.args.front.now.sequencer c.args.front.now.sequencer refl
