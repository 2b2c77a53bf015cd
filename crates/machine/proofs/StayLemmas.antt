-- A connection that is over stays as it was, and at most one enters, by kinds of change.
use Rattle.std.proofs.Common.{◌≡◌, ◌≢◌, ℕ, ◌+◌, ◌<◌, ◌≤◌, ◌-◌, true, false, List, [], ◌∷◌, ◌++◌, length, map, refl, sym, ap, subst, ◌∙◌, arith, length-append}
use Rattle.model.specs.declared.call.Call.{Call}
use Rattle.model.specs.Call.{IsPrefix, calls_of, cut_at, position_of}
use Rattle.std.proofs.lemmas.List.{length-map}
use Rattle.model.proofs.CallsLemmas.{IsPrefix-cut_at}
use Rattle.model.proofs.PrefixLemmas.{IsPrefix-itself, IsPrefix-trans}
use Rattle.model.proofs.ServesLemmas.{IsPrefix-calls_of, calls_of-push_other}
use Rattle.machine.specs.declared.event.Node.{Node}
use Rattle.machine.specs.declared.event.Node.TheVariants as nodes
use Rattle.machine.specs.Event.{Connection, Remains, At, AsPrimary, AsFollower, World, get_connection, crashed, promoted, entered, OpensPrimary, new_connection, connection_of, changed_at, with_inbound, with_outbound, with_connections, is_open, taken_first, Turns, with_made, left}
use Rattle.machine.specs.Law.{StaysOver}
use Rattle.machine.specs.Sound.{HasNothing}
use Rattle.machine.proofs.ConnectionLemmas.{get-before, get-changed_other, length-changed_at}
use Rattle.machine.proofs.SoundConnection.{both_ways}
use Rattle.machine.proofs.CrashLemmas.{get-over}
use Rattle.machine.proofs.StandingLemmas.{Behind}

pub stays-itself : (c : ℕ) (w : World) → c < length w.primary.connections → StaysOver c w w
stays-itself c w lt = record { entered = lt; connection = refl; calls = IsPrefix-itself (calls_of c w.primary.calls) }

pub stays-trans : {c : ℕ} {first second third : World} → StaysOver c first second → StaysOver c second third → StaysOver c first third
stays-trans f g = record { entered = g.entered; connection = g.connection ∙ f.connection; calls = IsPrefix-trans g.calls f.calls }

-- one of which nothing is left loses nothing more
left-over : (connection : Connection) → connection.is_open ≡ false → HasNothing connection → left connection ≡ connection
left-over connection shut nothing =
    let i = connection.inbound in
    let o = connection.outbound in
    let all : i.offered - 0 ≡ i.offered = omega arith in
    let same : left connection ≡ record {
      is_open = connection.is_open;
      inbound = record { fed = i.fed; offered = i.offered; waiting = i.waiting };
      outbound = record { made = o.made; held = o.held; pending = o.pending; released = o.released; seen = o.seen };
    } = simp (shut, nothing.waiting, nothing.made, nothing.held, nothing.pending, all) in
    same

-- an open connection is another one
differs : (w : World) (c d : ℕ) → is_open w c ≡ false → is_open w d ≡ true → d ≢ c
differs w c d shut is_one same = both_ways (is_open w c) (subst (λ e. is_open w e ≡ true) same is_one) shut

-- a change to an open connection, which is another one
pub stays-changed : (w new : World) (c d : ℕ) (change : Connection → Connection) → c < length w.primary.connections → is_open w c ≡ false → is_open w d ≡ true → new ≡ with_connections (changed_at d change w.primary.connections) w → StaysOver c w new
stays-changed w new c d change lt shut is_one now =
    subst (StaysOver c w) (sym now) (search (arith, length-changed_at d change w.primary.connections, get-changed_other d c change w.primary.connections (differs w c d shut is_one), IsPrefix-itself (calls_of c w.primary.calls)))

pub stays-called : (w new : World) (c d : ℕ) (turns : Turns w d new) → c < length w.primary.connections → is_open w c ≡ false → is_open w d ≡ true → StaysOver c w new
stays-called w new c d turns lt shut is_one =
    let differ = differs w c d shut is_one in
    let kept = calls_of-push_other c w.primary.calls turns.call (λ same. differ (sym turns.connection ∙ same)) in
    let made = with_outbound (with_made (record { reply = turns.call.reply; position = position_of (w.primary.calls ++ turns.call ∷ []) })) in
    let once = get-changed_other d c (with_inbound taken_first) w.primary.connections differ in
    let twice = get-changed_other d c made (changed_at d (with_inbound taken_first) w.primary.connections) differ in
    subst (StaysOver c w) (sym turns.now) (search (
      arith,
      length-changed_at d (with_inbound taken_first) w.primary.connections,
      length-changed_at d made (changed_at d (with_inbound taken_first) w.primary.connections),
      twice ∙ once,
      subst (λ (xs : List Call). IsPrefix xs (calls_of c w.primary.calls)) (sym kept) (IsPrefix-itself (calls_of c w.primary.calls)),
    ))

pub stays-behind : (c : ℕ) (w new : World) → c < length w.primary.connections → Behind w new → StaysOver c w new
stays-behind c w new lt behind =
    record {
      entered = omega (arith, lt, ap (λ (xs : List Connection). length xs) behind.connections);
      connection = ap (λ connections. get_connection connections c) behind.connections;
      calls = subst (λ (xs : List Call). IsPrefix (calls_of c xs) (calls_of c w.primary.calls)) (sym behind.calls) (IsPrefix-itself (calls_of c w.primary.calls));
    }

pub stays-entered : (c : ℕ) (w : World) → c < length w.primary.connections → StaysOver c w (entered w)
stays-entered c w lt =
    let connections = w.primary.connections in
    search (arith, length-append connections (new_connection ∷ []), get-before connections (new_connection ∷ []) c lt, IsPrefix-itself (calls_of c w.primary.calls))

-- the list is cut, and all connections are over
stays-cut : (c position : ℕ) (w new : World) → HasNothing (connection_of w c) → c < length w.primary.connections → is_open w c ≡ false → new.primary.calls ≡ cut_at w.primary.calls position
    → new.primary.connections ≡ map left w.primary.connections → StaysOver c w new
stays-cut c position w new nothing lt shut calls connections =
    record {
      entered = omega (arith, lt, ap (λ (xs : List Connection). length xs) connections, length-map w.primary.connections left);
      connection = ap (λ connections. get_connection connections c) connections ∙ (get-over w.primary.connections c ∙ left-over (connection_of w c) shut nothing);
      calls = subst (λ (xs : List Call). IsPrefix (calls_of c xs) (calls_of c w.primary.calls)) (sym calls) (IsPrefix-calls_of c (IsPrefix-cut_at w.primary.calls position));
    }

pub stays-promoted : (c : ℕ) (w : World) → HasNothing (connection_of w c) → c < length w.primary.connections → is_open w c ≡ false → StaysOver c w (promoted w)
stays-promoted c w nothing lt shut = stays-cut c w.standby.position w (promoted w) nothing lt shut refl refl

pub stays-crashed : (c : ℕ) (w : World) (node : Node) (remain : Remains) → HasNothing (connection_of w c) → c < length w.primary.connections → is_open w c ≡ false → StaysOver c w (crashed node remain w)
stays-crashed c w nodes.Primary (At position) nothing lt shut = stays-cut c position w (crashed nodes.Primary (At position) w) nothing lt shut refl refl
stays-crashed c w nodes.Primary AsPrimary nothing lt shut = stays-itself c w lt
stays-crashed c w nodes.Standby (At position) nothing lt shut = search (stays-itself c w lt)
stays-crashed c w nodes.Standby AsPrimary nothing lt shut = stays-promoted c w nothing lt shut
stays-crashed c w nodes.Primary (AsFollower position) nothing lt shut = stays-itself c w lt
stays-crashed c w nodes.Standby (AsFollower position) nothing lt shut = search (stays-itself c w lt)

pub stays-opens : {made : ℕ} (c : ℕ) (old w new : World) → OpensPrimary made w new → StaysOver c old w → StaysOver c old new
stays-opens c old w new opens stays = subst (StaysOver c old) (sym opens.now) (search stays)

-- ---- at most one connection enters

abbrev pub count : World → ℕ
count w = length w.primary.connections

pub few-behind : (w new : World) → Behind w new → count new ≤ count w + 1
few-behind w new behind = omega (arith, ap (λ (xs : List Connection). length xs) behind.connections)

pub few-entered : (w : World) → count (entered w) ≤ count w + 1
few-entered w = omega (arith, length-append w.primary.connections (new_connection ∷ []))

pub few-changed : (w : World) (c : ℕ) (change : Connection → Connection) → count (with_connections (changed_at c change w.primary.connections) w) ≤ count w + 1
few-changed w c change = omega (arith, length-changed_at c change w.primary.connections)

pub few-called : (w new : World) (c : ℕ) → Turns w c new → count new ≤ count w + 1
few-called w new c turns = omega (arith, ap count turns.now, length-changed_at)

pub few-promoted : (w : World) → count (promoted w) ≤ count w + 1
few-promoted w = omega (arith, length-map w.primary.connections left)

pub few-crashed : (w : World) (node : Node) (remain : Remains) → count (crashed node remain w) ≤ count w + 1
few-crashed w nodes.Primary (At position) = omega (arith, length-map w.primary.connections left)
few-crashed w nodes.Primary AsPrimary = omega arith
few-crashed w nodes.Standby (At position) = omega arith
few-crashed w nodes.Standby AsPrimary = omega (arith, length-map w.primary.connections left)
few-crashed w nodes.Primary (AsFollower position) = omega arith
few-crashed w nodes.Standby (AsFollower position) = omega arith
