-- The bytes fed to a connection are the pieces of the feeds that did their step, by kinds of change.
use Rattle.std.proofs.Common.{◌≡◌, ℕ, ◌<◌, true, cond, List, [], ◌++◌, length, map, refl, sym, ap, ◌∙◌, append-nil, eq-eqb, ne_eqb}
use Rattle.machine.specs.declared.event.Node.{Node}
use Rattle.machine.specs.declared.event.Node.TheVariants as nodes
use Rattle.machine.specs.declared.event.Event.{Event}
use Rattle.machine.specs.declared.event.Event.TheVariants.{Feed}
use Rattle.machine.specs.Event.{Connection, Remains, At, AsPrimary, AsFollower, World, get_connection, crashed, entered, Turns, connection_of, changed_at, with_connections, with_inbound, with_outbound, on_inbound, with_call, fed_with, taken_first, left}
use Rattle.machine.specs.Promise.{fed_by}
use Rattle.machine.proofs.ConnectionLemmas.{each-changed, get-entered, same-changed}
use Rattle.machine.proofs.CrashLemmas.{get-over}
use Rattle.machine.proofs.StandingLemmas.{Behind}

abbrev pub fed_in : World → ℕ → List ℕ
fed_in w c = (connection_of w c).inbound.fed

-- ---- the events that feed nothing

-- the event has no piece
abbrev pub FeedsNothing : Event → Type 0
FeedsNothing event = (c : ℕ) → fed_by c event true ≡ []

pub fed-nothing : {before after : List ℕ} (event : Event) (d : ℕ) → FeedsNothing event → after ≡ before → after ≡ before ++ fed_by d event true
fed-nothing {before} event d none same = same ∙ sym (append-nil before) ∙ ap (λ piece. before ++ piece) (sym (none d))

pub fed-same : (w : World) (c d : ℕ) (change : Connection → Connection) → ((connection : Connection) → (change connection).inbound.fed ≡ connection.inbound.fed)
    → fed_in (with_connections (changed_at c change w.primary.connections) w) d ≡ fed_in w d
fed-same w c d change same = same-changed (λ connection. connection.inbound.fed) c change w.primary.connections same d

pub fed-behind : (w new : World) (d : ℕ) → Behind w new → fed_in new d ≡ fed_in w d
fed-behind w new d behind = ap (λ connections. (get_connection connections d).inbound.fed) behind.connections

pub fed-entered : (w : World) (d : ℕ) → fed_in (entered w) d ≡ fed_in w d
fed-entered w d = get-entered (λ connection. connection.inbound.fed) refl w.primary.connections d

pub fed-called : (w new : World) (c d : ℕ) → Turns w c new → fed_in new d ≡ fed_in w d
fed-called w new c d turns =
    let called_once = on_inbound c taken_first (with_call turns.call w) in
    ap (λ x. fed_in x d) turns.now ∙ fed-same called_once c d (with_outbound _) (λ connection. refl) ∙ fed-same (with_call turns.call w) c d (with_inbound taken_first) (λ connection. refl)

pub fed-over : (w : World) (d : ℕ) → (get_connection (map left w.primary.connections) d).inbound.fed ≡ fed_in w d
fed-over w d = ap (λ (x : Connection). x.inbound.fed) (get-over w.primary.connections d)

pub fed-crashed : (w : World) (d : ℕ) (node : Node) (remain : Remains) → fed_in (crashed node remain w) d ≡ fed_in w d
fed-crashed w d nodes.Primary (At position) = fed-over w d
fed-crashed w d nodes.Primary AsPrimary = refl
fed-crashed w d nodes.Standby (At position) = refl
fed-crashed w d nodes.Standby AsPrimary = fed-over w d
fed-crashed w d nodes.Primary (AsFollower position) = refl
fed-crashed w d nodes.Standby (AsFollower position) = refl

-- ---- the one that does

pub fed-Feed : (w : World) (c d : ℕ) (piece : List ℕ) → c < length w.primary.connections → fed_in (on_inbound c (fed_with piece) w) d ≡ fed_in w d ++ fed_by d (Feed c piece) true
fed-Feed w c d piece lt =
    each-changed (λ e connection. connection.inbound.fed ≡ fed_in w e ++ fed_by e (Feed c piece) true) c (with_inbound (fed_with piece)) w.primary.connections lt
    (ap (λ b. fed_in w c ++ cond b piece []) (sym (eq-eqb c c refl)))
    (λ e differ. sym (append-nil (fed_in w e)) ∙ ap (λ b. fed_in w e ++ cond b piece []) (sym (ne_eqb c e differ))) d
