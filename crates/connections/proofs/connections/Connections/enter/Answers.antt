use Rattle.std.proofs.Common.{◌≡◌, ℕ, ◌++◌, [], ◌∷◌, List, Some, Err, Vec, Global, refl, ap, ◌∙◌}
use Rattle.multi_watch.specs.Session.{idle_session}
use Rattle.connections.specs.declared.connection.Client.{Client}
use Rattle.connections.specs.declared.connection.Connection.{Connection}
use Rattle.connections.specs.declared.connection.Connection.TheVariants.{Open}
use Rattle.connections.specs.declared.connections.Connections.{Connections}
use Rattle.connections.proofs.SequencerLemmas.{sequencer-moved, still-same}
use Rattle.connections.proofs.SeatLemmas.{seated-goes, seated-follow, full-goes, may-enter, returned-stands}
use Rattle.connections.proofs.connections.Connections.enter.Goals as goal

pub returns-in-Ok-prepare-clause-goes : goal.returns-in-Ok-prepare-clause-goes
returns-in-Ok-prepare-clause-goes g c = λ machines list stand.
    let old = c.args.self.now in
    let now : Connections = record { lobby = c.enter.new.self; connections = c.push_reserved.new.self; replies = old.replies } in
    let client : Client = record { seat = c.in-Ok.seat; inbound = c.in-Ok-prepare.inbound; outbound = c.in-Ok-prepare.outbound } in
    let placed : c.push_reserved.new.self.items ≡ old.connections.items ++ Open client ∷ [] =
    c.push_reserved.ensures.items ∙ ap (λ (codes : List Connection). codes ++ Open client ∷ []) c.prepare.ensures.connections in
    let released : c.push_reserved-in-Ok-prepare.new.self.items ≡ c.args.transcript.now.released.items ++ c.new.result ∷ [] =
    c.push_reserved-in-Ok-prepare.ensures.items ∙ ap (λ (all : List (Vec ℕ Global)). all ++ c.new.result ∷ []) c.prepare.ensures.released in
    seated-goes machines list old now c.args.transcript.now c.in-Ok.seat c.in-Ok-prepare.inbound c.in-Ok-prepare.outbound c.push_reserved-in-Ok-prepare.new.self c.new.result stand c.in-Ok.ensures.moves
    c.in-Ok-prepare.ensures.inbound (c.in-Ok-prepare.ensures.outbound list)
    placed released c.new.ensures.items refl

pub returns-in-Ok-prepare-clause-follow : goal.returns-in-Ok-prepare-clause-follow
returns-in-Ok-prepare-clause-follow g c = λ machines list sound stand follow.
    let old = c.args.self.now in
    let now : Connections = record { lobby = c.enter.new.self; connections = c.push_reserved.new.self; replies = old.replies } in
    let client : Client = record { seat = c.in-Ok.seat; inbound = c.in-Ok-prepare.inbound; outbound = c.in-Ok-prepare.outbound } in
    let placed : c.push_reserved.new.self.items ≡ old.connections.items ++ Open client ∷ [] =
    c.push_reserved.ensures.items ∙ ap (λ (codes : List Connection). codes ++ Open client ∷ []) c.prepare.ensures.connections in
    seated-follow machines list old now c.args.transcript.now client c.args.front.now.sequencer c.prepare.new.front.sequencer sound stand c.in-Ok.ensures.moves
    placed
    c.in-Ok-prepare.ensures.opens follow

pub returns-in-Ok-prepare-clause-sequencer : goal.returns-in-Ok-prepare-clause-sequencer
returns-in-Ok-prepare-clause-sequencer g c = λ calls closed stands. sequencer-moved calls closed c.in-Ok.seat (Some idle_session) c.args.front.now.sequencer c.prepare.new.front.sequencer c.in-Ok-prepare.ensures.opens stands

pub returns-in-Err-clause-same : goal.returns-in-Err-clause-same
returns-in-Err-clause-same g c = λ machines list.
    let old = c.args.self.now in
    let now : Connections = record { lobby = c.leave.new.self; connections = c.prepare.new.connections; replies = old.replies } in
    returned-stands machines list old now c.args.transcript.now c.prepare.new.released c.enter.new.self c.in-Ok.seat c.in-Ok.ensures.moves c.leave.ensures.moves c.prepare.ensures.connections
    c.prepare.ensures.released refl

pub returns-in-Err-clause-enabled : goal.returns-in-Err-clause-enabled
returns-in-Err-clause-enabled g c = λ machines list stand. may-enter machines list c.args.self.now c.args.transcript.now _ c.in-Ok.seat stand c.in-Ok.ensures.moves

pub returns-in_default-clause-goes : goal.returns-in_default-clause-goes
returns-in_default-clause-goes g c = λ machines list stand.
    let old = c.args.self.now in
    let now : Connections = record { lobby = c.enter.new.self; connections = old.connections; replies = old.replies } in
    full-goes machines list old now c.args.transcript.now stand (c.in_default.ensures.full.0 (ap Err c.in_default.ensures.err.0)) c.in_default.ensures.err.1 refl refl

pub returns-in_default-clause-stands : goal.returns-in_default-clause-stands
returns-in_default-clause-stands g c = still-same c.args.front.now.sequencer c.args.front.now.sequencer refl
