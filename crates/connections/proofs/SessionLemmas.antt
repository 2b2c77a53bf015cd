-- Connections and the list of calls still refine the machine's after each step.
use Rattle.std.proofs.Common.{◌≡◌, ℕ, zero, suc, ◌<◌, ◌≤◌, ◌++◌, ◌&&◌, Bool, true, false, nat_le, List, [], ◌∷◌, length, map, Option, Some, None, Result, Ok, Err, Vec, Global, slice_get, refl, sym, ap, ap₂, subst, ◌∙◌, arith}
use Rattle.std.proofs.Math.Seq.{map-set_same}
use Rattle.std.proofs.lemmas.List.{length-map}
use Rattle.std.specs.Prelude.{slice_index_or, slice_set, OnErr}
use Rattle.std.specs.Vec.{with_item}
use Rattle.kv_types.specs.declared.reply.Held.{Held}
use Rattle.kv_types.specs.declared.seen.Seen.{Seen}
use Rattle.model.specs.declared.call.Call.{Call}
use Rattle.machine.specs.declared.event.Mark.{Mark}
use Rattle.machine.specs.declared.event.Mark.TheVariants.{Local, Remote}
use Rattle.machine.specs.Connection.{Inbound as MachineInbound, Outbound as MachineOutbound, Connection as MachineConnection, is_open_at, get_connection, changed_at, having_seen, with_inbound, with_outbound, written}
use Rattle.machine.proofs.ConnectionLemmas.{get-past}
use Rattle.connections.specs.declared.asking.Asking.{Asking}
use Rattle.connections.specs.declared.outbound.Made.{Made}
use Rattle.connections.specs.declared.outbound.Outbound.{Outbound}
use Rattle.connections.specs.declared.connection.Client.{Client}
use Rattle.connections.specs.declared.connection.Connection.{Connection}
use Rattle.connections.specs.declared.connection.Connection.TheVariants.{Open, Over}
use Rattle.connections.specs.declared.connections.Connections.{Connections}
use Rattle.connections.specs.declared.transcript.Transcript.{Transcript}
use Rattle.connections.specs.Going.{Goes}
use Rattle.connections.specs.Asking.{AskingRefines}
use Rattle.connections.specs.Outbound.{IsMade, AreMade, OutboundRefines, Writes}
use Rattle.connections.specs.Session.{ClientRefines, ConnectionRefines, ConnectionsRefine, HasSeat, KeepsSeats, SeatsRefine, SessionsRefine, TranscriptRefines, released_of, seat_of, seats_of}

-- ---- the list of calls grows

slice_get-grows : (calls more : List Call) (index : ℕ) (call : Call) → slice_get calls index ≡ Some call → slice_get (calls ++ more) index ≡ Some call
slice_get-grows [] more index call stands = cc
slice_get-grows (first ∷ calls) more zero call stands = stands
slice_get-grows (first ∷ calls) more (suc index) call stands = slice_get-grows calls more index call stands

pub IsMade-grows : (calls more : List Call) (made : Made) (held : Held) → IsMade calls made held → IsMade (calls ++ more) made held
IsMade-grows calls more made held is = record {
  call = is.call;
  stands = slice_get-grows calls more made.call is.call is.stands;
  reply = is.reply;
  position = is.position;
}

pub AreMade-grows : (calls more : List Call) (mades : List Made) (helds : List Held) → AreMade calls mades helds → AreMade (calls ++ more) mades helds
AreMade-grows calls more [] [] are = tt
AreMade-grows calls more [] (held ∷ helds) are = absurd are
AreMade-grows calls more (made ∷ mades) [] are = absurd are
AreMade-grows calls more (made ∷ mades) (held ∷ helds) are = (IsMade-grows calls more made held are.0, AreMade-grows calls more mades helds are.1)

pub OutboundRefines-grows : (calls more : List Call) (code : Outbound) (machine : MachineOutbound) → OutboundRefines calls code machine → OutboundRefines (calls ++ more) code machine
OutboundRefines-grows calls more code machine stands = record {
  made = AreMade-grows calls more code.made.items machine.made stands.made;
  gate = stands.gate;
  seen = stands.seen;
}

pub ConnectionRefines-grows : (calls more : List Call) (code : Connection) (machine : MachineConnection) → ConnectionRefines calls code machine → ConnectionRefines (calls ++ more) code machine
ConnectionRefines-grows calls more (Open client) machine stands = record {
  is_open = stands.is_open;
  inbound = stands.inbound;
  outbound = OutboundRefines-grows calls more client.outbound machine.outbound stands.outbound;
}
ConnectionRefines-grows calls more Over machine stands = stands

pub ConnectionsRefine-grows : (calls more : List Call) (codes : List Connection) (machines : List MachineConnection) → ConnectionsRefine calls codes machines → ConnectionsRefine (calls ++ more) codes machines
ConnectionsRefine-grows calls more [] [] stand = tt
ConnectionsRefine-grows calls more [] (machine ∷ machines) stand = absurd stand
ConnectionsRefine-grows calls more (code ∷ codes) [] stand = absurd stand
ConnectionsRefine-grows calls more (code ∷ codes) (machine ∷ machines) stand =
    (ConnectionRefines-grows calls more code machine stand.0, ConnectionsRefine-grows calls more codes machines stand.1)

-- ---- one of the connections

pub length-connections : (calls : List Call) (codes : List Connection) (machines : List MachineConnection) → ConnectionsRefine calls codes machines → length codes ≡ length machines
length-connections calls [] [] stand = refl
length-connections calls [] (machine ∷ machines) stand = absurd stand
length-connections calls (code ∷ codes) [] stand = absurd stand
length-connections calls (code ∷ codes) (machine ∷ machines) stand = ap suc (length-connections calls codes machines stand.1)

pub ConnectionRefines-at : (calls : List Call) (c : ℕ) (codes : List Connection) (machines : List MachineConnection) (default : Connection) → c < length codes → ConnectionsRefine calls codes machines
    → ConnectionRefines calls (slice_index_or codes c default) (get_connection machines c)
ConnectionRefines-at calls c [] machines default within stand = absurd (omega arith)
ConnectionRefines-at calls c (code ∷ codes) [] default within stand = absurd stand
ConnectionRefines-at calls zero (code ∷ codes) (machine ∷ machines) default within stand = stand.0
ConnectionRefines-at calls (suc c) (code ∷ codes) (machine ∷ machines) default within stand = ConnectionRefines-at calls c codes machines default (omega arith) stand.1

-- this connection, which is at index c
pub connection-stands : (calls : List Call) (c : ℕ) (codes : List Connection) (machines : List MachineConnection) (code : Connection) → c < length codes → code ≡ slice_index_or codes c code → ConnectionsRefine calls codes machines
    → ConnectionRefines calls code (get_connection machines c)
connection-stands calls c codes machines code within is stand =
    subst (λ (x : Connection). ConnectionRefines calls x (get_connection machines c)) (sym is) (ConnectionRefines-at calls c codes machines code within stand)

-- another connection replaces it, and refines the machine's changed one
pub ConnectionsRefine-changed : (calls : List Call) (c : ℕ) (codes : List Connection) (machines : List MachineConnection) (new : Connection) (change : MachineConnection → MachineConnection)
    → ConnectionsRefine calls codes machines → ConnectionRefines calls new (change (get_connection machines c)) → ConnectionsRefine calls (slice_set codes c new) (changed_at c change machines)
ConnectionsRefine-changed calls c [] [] new change stand stands = tt
ConnectionsRefine-changed calls c [] (machine ∷ machines) new change stand stands = absurd stand
ConnectionsRefine-changed calls c (code ∷ codes) [] new change stand stands = absurd stand
ConnectionsRefine-changed calls zero (code ∷ codes) (machine ∷ machines) new change stand stands = (stands, stand.1)
ConnectionsRefine-changed calls (suc c) (code ∷ codes) (machine ∷ machines) new change stand stands = (stand.0, ConnectionsRefine-changed calls c codes machines new change stand.1 stands)

-- one that refines the same replaces it
pub ConnectionsRefine-replaced : (calls : List Call) (c : ℕ) (codes : List Connection) (machines : List MachineConnection) (new : Connection)
    → ConnectionsRefine calls codes machines → ConnectionRefines calls new (get_connection machines c) → ConnectionsRefine calls (slice_set codes c new) machines
ConnectionsRefine-replaced calls c codes machines new stand stands =
    subst (ConnectionsRefine calls (slice_set codes c new)) (changed_at-itself c machines) (ConnectionsRefine-changed calls c codes machines new (λ machine. machine) stand stands)
  where
    changed_at-itself : (c : ℕ) (machines : List MachineConnection) → changed_at c (λ machine. machine) machines ≡ machines
    changed_at-itself c [] = refl
    changed_at-itself zero (machine ∷ machines) = refl
    changed_at-itself (suc c) (machine ∷ machines) = ap (λ ms. machine ∷ ms) (changed_at-itself c machines)

-- ---- what was released

-- the bytes released to each of the machine's connections
abbrev pub released_by : List MachineConnection → List (List ℕ)
released_by = map (λ (machine : MachineConnection). machine.outbound.released)

-- the transcript with these bytes released
abbrev pub with_released : Transcript → Vec (Vec ℕ Global) Global → Transcript
with_released transcript released = record { calls = transcript.calls; positions = transcript.positions; released = released }

released-at : (machines : List MachineConnection) (c : ℕ) → slice_index_or (released_by machines) c [] ≡ (get_connection machines c).outbound.released
released-at [] c = refl
released-at (machine ∷ machines) zero = refl
released-at (machine ∷ machines) (suc c) = released-at machines c

pub released-told : (calls : List Call) (transcript : Transcript) (machines : List MachineConnection) → TranscriptRefines transcript machines calls → (c : ℕ)
    → slice_index_or (released_of transcript) c [] ≡ (get_connection machines c).outbound.released
released-told calls transcript machines told c = ap (λ (all : List (List ℕ)). slice_index_or all c []) told.released ∙ released-at machines c

pub length-released : (calls : List Call) (transcript : Transcript) (machines : List MachineConnection) → TranscriptRefines transcript machines calls → length transcript.released.items ≡ length machines
length-released calls transcript machines told =
    sym (length-map transcript.released.items (λ (bytes : Vec ℕ Global). bytes.items)) ∙ ap length told.released ∙ length-map machines (λ (machine : MachineConnection). machine.outbound.released)

released-kept : (c : ℕ) (change : MachineConnection → MachineConnection) (machines : List MachineConnection)
    → ((machine : MachineConnection) → (change machine).outbound.released ≡ machine.outbound.released) → released_by (changed_at c change machines) ≡ released_by machines
released-kept c change [] same = refl
released-kept zero change (machine ∷ machines) same = ap (λ (bytes : List ℕ). bytes ∷ released_by machines) (same machine)
released-kept (suc c) change (machine ∷ machines) same = ap (λ (all : List (List ℕ)). machine.outbound.released ∷ all) (released-kept c change machines same)

-- nothing was released by a change of this connection
pub told-changed : (transcript : Transcript) (machines : List MachineConnection) (list : List Call) (c : ℕ) (change : MachineConnection → MachineConnection)
    → ((machine : MachineConnection) → (change machine).outbound.released ≡ machine.outbound.released) → TranscriptRefines transcript machines list → TranscriptRefines transcript (changed_at c change machines) list
told-changed transcript machines list c change same told = record {
  calls_are = told.calls_are;
  positions = told.positions;
  positions_room = told.positions_room;
  released = told.released ∙ sym (released-kept c change machines same);
}

-- these bytes are released now
pub told-with : (transcript : Transcript) (released : Vec (Vec ℕ Global) Global) (machines machines' : List MachineConnection) (list : List Call) → map (λ (bytes : Vec ℕ Global). bytes.items) released.items ≡ released_by machines'
    → TranscriptRefines transcript machines list → TranscriptRefines (with_released transcript released) machines' list
told-with transcript released machines machines' list are told = record {
  calls_are = told.calls_are;
  positions = told.positions;
  positions_room = told.positions_room;
  released = are;
}

released-changed : (released : List (Vec ℕ Global)) (machines : List MachineConnection) (c : ℕ) (bytes : Vec ℕ Global) (change : MachineConnection → MachineConnection) → map (λ (bs : Vec ℕ Global). bs.items) released ≡ released_by machines
    → bytes.items ≡ (change (get_connection machines c)).outbound.released → map (λ (bs : Vec ℕ Global). bs.items) (slice_set released c bytes) ≡ released_by (changed_at c change machines)
released-changed [] [] c bytes change are is = refl
released-changed [] (machine ∷ machines) c bytes change are is = cc
released-changed (first ∷ released) [] c bytes change are is = cc
released-changed (first ∷ released) (machine ∷ machines) zero bytes change are is =
    let rest : map (λ (bs : Vec ℕ Global). bs.items) released ≡ released_by machines = cc in
    ap₂ (λ (b : List ℕ) bs. b ∷ bs) is rest
released-changed (first ∷ released) (machine ∷ machines) (suc c) bytes change are is =
    let head : first.items ≡ machine.outbound.released = cc in
    let rest : map (λ (bs : Vec ℕ Global). bs.items) released ≡ released_by machines = cc in
    ap₂ (λ (b : List ℕ) bs. b ∷ bs) head (released-changed released machines c bytes change rest is)

-- the same bytes were released to this connection, so to each
pub same-bytes : (released : List (Vec ℕ Global)) (c : ℕ) (old bytes : Vec ℕ Global) → old ≡ slice_index_or released c old → bytes.items ≡ old.items
    → map (λ (bs : Vec ℕ Global). bs.items) (slice_set released c bytes) ≡ map (λ (bs : Vec ℕ Global). bs.items) released
same-bytes released c old bytes is same = map-set_same (λ (bs : Vec ℕ Global). bs.items) released c bytes old (same ∙ ap (λ (bs : Vec ℕ Global). bs.items) is)

-- ---- an event at one of the connections

-- the sessions with this connection at index c
abbrev pub with_connection : Connections → ℕ → Connection → Connections
with_connection sessions c connection = record {
  lobby = sessions.lobby;
  connections = with_item sessions.connections c connection;
  replies = sessions.replies;
}

-- it has the seat of the one that it replaces
pub same-seats : (sessions : Connections) (c : ℕ) (old new : Connection) → old ≡ slice_index_or sessions.connections.items c old → seat_of new ≡ seat_of old
    → seats_of (slice_set sessions.connections.items c new) ≡ seats_of sessions.connections.items
same-seats sessions c old new is same = map-set_same seat_of sessions.connections.items c new old (same ∙ ap seat_of is)

pub keeps-seats : (old new : List Connection) → seats_of new ≡ seats_of old → KeepsSeats old new
keeps-seats old new same = λ c seat has. subst (λ (seats : List (Option ℕ)). HasSeat seats c seat) same has

-- The event's test asks first whether the connection is open. What was done to the connection is done to the sessions; `after` is the transcript after it.
pub connection-goes : (test : Bool → Bool) (did : Bool) (machines : List MachineConnection) (list : List Call) (sessions : Connections) (transcript after : Transcript) (c : ℕ) (old new : Client) (change : MachineConnection → MachineConnection)
    → c < length sessions.connections.items → Open old ≡ slice_index_or sessions.connections.items c (Open old) → SessionsRefine sessions transcript machines list → new.seat ≡ old.seat
    → (ClientRefines list old (get_connection machines c)
    → Goes (test true) did (ClientRefines list new (change (get_connection machines c)) × TranscriptRefines after (changed_at c change machines) list)
    (ClientRefines list new (get_connection machines c) × TranscriptRefines after machines list))
    → Goes (test (is_open_at machines c)) did (SessionsRefine (with_connection sessions c (Open new)) after (changed_at c change machines) list)
    (SessionsRefine (with_connection sessions c (Open new)) after machines list)
connection-goes test did machines list sessions transcript after c old new change within is stand seat went =
    let codes = sessions.connections.items in
    let here : ClientRefines list old (get_connection machines c) = connection-stands list c codes machines (Open old) within is stand.connections_stand in
    let goes = went here in
    let seats = subst (SeatsRefine sessions.lobby.statuses) (sym (same-seats sessions c (Open old) (Open new) is (ap Some seat))) stand.seats in
    record {
      done = goes.done ∙ ap test (sym here.is_open);
      goes = λ yes_did. record {
        seats = seats;
        connections_stand = ConnectionsRefine-changed list c codes machines (Open new) change stand.connections_stand (goes.goes yes_did).0;
        told = (goes.goes yes_did).1;
        no_reply = stand.no_reply;
      };
      stays = λ not_did. record {
        seats = seats;
        connections_stand = ConnectionsRefine-replaced list c codes machines (Open new) stand.connections_stand (goes.stays not_did).0;
        told = (goes.stays not_did).1;
        no_reply = stand.no_reply;
      };
    }

pub inbound-goes : (test : Bool → Bool) (did : Bool) (machines : List MachineConnection) (list : List Call) (sessions : Connections) (transcript : Transcript) (c : ℕ) (client : Client) (new : Asking) (change : MachineInbound → MachineInbound)
    → c < length sessions.connections.items → Open client ≡ slice_index_or sessions.connections.items c (Open client) → SessionsRefine sessions transcript machines list
    → (let machine = (get_connection machines c).inbound in AskingRefines client.inbound machine → Goes (test true) did (AskingRefines new (change machine)) (AskingRefines new machine))
    → let now = with_connection sessions c (Open (record { seat = client.seat; inbound = new; outbound = client.outbound })) in
    Goes (test (is_open_at machines c)) did (SessionsRefine now transcript (changed_at c (with_inbound change) machines) list) (SessionsRefine now transcript machines list)
inbound-goes test did machines list sessions transcript c client new change within is stand went =
    connection-goes test did machines list sessions transcript transcript c client (record { seat = client.seat; inbound = new; outbound = client.outbound }) (with_inbound change) within is stand refl (λ stands.
    let goes = went stands.inbound in
    record {
      done = goes.done;
      goes = λ yes_did. (
        record { is_open = stands.is_open; inbound = goes.goes yes_did; outbound = stands.outbound },
        told-changed transcript machines list c (with_inbound change) (λ machine. refl) stand.told,
      );
      stays = λ not_did. (record { is_open = stands.is_open; inbound = goes.stays not_did; outbound = stands.outbound }, stand.told);
    })

-- what was released is kept
pub outbound-goes : (test : Bool → Bool) (did : Bool) (machines : List MachineConnection) (list : List Call) (sessions : Connections) (transcript : Transcript) (c : ℕ) (client : Client) (new : Outbound) (change : MachineOutbound → MachineOutbound)
    → ((machine : MachineOutbound) → (change machine).released ≡ machine.released)
    → c < length sessions.connections.items → Open client ≡ slice_index_or sessions.connections.items c (Open client) → SessionsRefine sessions transcript machines list
    → (let machine = (get_connection machines c).outbound in
    OutboundRefines list client.outbound machine → Goes (test true) did (OutboundRefines list new (change machine)) (OutboundRefines list new machine))
    → let now = with_connection sessions c (Open (record { seat = client.seat; inbound = client.inbound; outbound = new })) in
    Goes (test (is_open_at machines c)) did (SessionsRefine now transcript (changed_at c (with_outbound change) machines) list) (SessionsRefine now transcript machines list)
outbound-goes test did machines list sessions transcript c client new change keeps within is stand went =
    connection-goes test did machines list sessions transcript transcript c client (record { seat = client.seat; inbound = client.inbound; outbound = new }) (with_outbound change) within is stand refl (λ stands.
    let goes = went stands.outbound in
    record {
      done = goes.done;
      goes = λ yes_did. (
        record { is_open = stands.is_open; inbound = stands.inbound; outbound = goes.goes yes_did },
        told-changed transcript machines list c (with_outbound change) (λ machine. keeps machine.outbound) stand.told,
      );
      stays = λ not_did. (record { is_open = stands.is_open; inbound = stands.inbound; outbound = goes.stays not_did }, stand.told);
    })

pub seen-kept : (mark : Mark) (marks : Seen) (machine : MachineOutbound) → (having_seen mark marks machine).released ≡ machine.released
seen-kept Local marks machine = refl
seen-kept Remote marks machine = refl

-- the bytes `old` were released to it, and these are now
pub written-goes : (n : ℕ) (did : Bool) (machines : List MachineConnection) (list : List Call) (sessions : Connections) (transcript : Transcript) (c : ℕ) (client : Client) (new : Outbound) (old bytes : Vec ℕ Global)
    → c < length sessions.connections.items → Open client ≡ slice_index_or sessions.connections.items c (Open client) → c < length transcript.released.items → old ≡ slice_index_or transcript.released.items c old
    → SessionsRefine sessions transcript machines list
    → ((machine : MachineOutbound) → OutboundRefines list client.outbound machine → old.items ≡ machine.released → Writes n list new bytes.items did machine)
    → let now = with_connection sessions c (Open (record { seat = client.seat; inbound = client.inbound; outbound = new })) in
    let after = with_released transcript (with_item transcript.released c bytes) in
    Goes (is_open_at machines c && nat_le n (length (get_connection machines c).outbound.pending)) did (SessionsRefine now after (changed_at c (with_outbound (written n)) machines) list) (SessionsRefine now after machines list)
written-goes n did machines list sessions transcript c client new old bytes within is written_within was stand writes =
    let released = transcript.released.items in
    let outbound = (get_connection machines c).outbound in
    let after = with_item transcript.released c bytes in
    let before : old.items ≡ outbound.released = bytes-at released c old written_within was ∙ released-told list transcript machines stand.told c in
    connection-goes (λ b. b && nat_le n (length outbound.pending)) did machines list sessions transcript (with_released transcript after) c client (record { seat = client.seat; inbound = client.inbound; outbound = new })
    (with_outbound (written n)) within is stand refl (λ stands.
    let went = writes outbound stands.outbound before in
    record {
      done = went.done;
      goes = λ yes_did. (
        record { is_open = stands.is_open; inbound = stands.inbound; outbound = (went.out yes_did).0 },
        told-with transcript after machines (changed_at c (with_outbound (written n)) machines) list
            (released-changed released machines c bytes (with_outbound (written n)) stand.told.released (went.out yes_did).1) stand.told,
      );
      stays = λ not_did. (
        record { is_open = stands.is_open; inbound = stands.inbound; outbound = (went.stays not_did).0 },
        told-with transcript after machines machines list (same-bytes released c old bytes was ((went.stays not_did).1 ∙ sym before) ∙ stand.told.released) stand.told,
      );
    })
  where
    bytes-at : (released : List (Vec ℕ Global)) (c : ℕ) (bytes : Vec ℕ Global) → c < length released → bytes ≡ slice_index_or released c bytes → bytes.items ≡ slice_index_or (map (λ (bs : Vec ℕ Global). bs.items) released) c []
    bytes-at [] c bytes lt at = absurd (omega arith)
    bytes-at (first ∷ released) zero bytes lt at = ap (λ (bs : Vec ℕ Global). bs.items) at
    bytes-at (first ∷ released) (suc c) bytes lt at = bytes-at released c bytes (omega arith) at

-- one of the connections changed, and stands for what it stood for
client-same : (machines : List MachineConnection) (list : List Call) (sessions : Connections) (transcript after : Transcript) (c : ℕ) (old new : Client) → c < length sessions.connections.items → Open old ≡ slice_index_or sessions.connections.items c (Open old) → new.seat ≡ old.seat
    → (ClientRefines list old (get_connection machines c) → ClientRefines list new (get_connection machines c)) → TranscriptRefines after machines list → SessionsRefine sessions transcript machines list → SessionsRefine (with_connection sessions c (Open new)) after machines list
client-same machines list sessions transcript after c old new within is seat same told stand =
    (connection-goes (λ b. false) false machines list sessions transcript after c old new (λ machine. machine) within is stand seat
    (λ stands. record { done = refl; goes = λ yes_did. cc; stays = λ not_did. (same stands, told) })).stays refl

pub inbound-same : (machines : List MachineConnection) (list : List Call) (sessions : Connections) (transcript : Transcript) (c : ℕ) (client : Client) (new : Asking) → c < length sessions.connections.items → Open client ≡ slice_index_or sessions.connections.items c (Open client)
    → ((machine : MachineInbound) → AskingRefines client.inbound machine → AskingRefines new machine) → SessionsRefine sessions transcript machines list
    → SessionsRefine (with_connection sessions c (Open (record { seat = client.seat; inbound = new; outbound = client.outbound }))) transcript machines list
inbound-same machines list sessions transcript c client new within is same stand =
    client-same machines list sessions transcript transcript c client (record { seat = client.seat; inbound = new; outbound = client.outbound }) within is refl
    (λ stands. record { is_open = stands.is_open; inbound = same _ stands.inbound; outbound = stands.outbound }) stand.told stand

pub outbound-same : (machines : List MachineConnection) (list : List Call) (sessions : Connections) (transcript after : Transcript) (c : ℕ) (client : Client) (new : Outbound) → c < length sessions.connections.items → Open client ≡ slice_index_or sessions.connections.items c (Open client)
    → ((machine : MachineOutbound) → OutboundRefines list client.outbound machine → OutboundRefines list new machine) → (TranscriptRefines transcript machines list → TranscriptRefines after machines list) → SessionsRefine sessions transcript machines list
    → SessionsRefine (with_connection sessions c (Open (record { seat = client.seat; inbound = client.inbound; outbound = new }))) after machines list
outbound-same machines list sessions transcript after c client new within is same told stand =
    client-same machines list sessions transcript after c client (record { seat = client.seat; inbound = client.inbound; outbound = new }) within is refl
    (λ stands. record { is_open = stands.is_open; inbound = stands.inbound; outbound = same _ stands.outbound }) (told stand.told) stand

-- the event is enabled: the connection is open, and so is the rest of the test
pub enabled-at : (test : Bool → Bool) (machines : List MachineConnection) (list : List Call) (sessions : Connections) (transcript : Transcript) (c : ℕ) (old : Client) → c < length sessions.connections.items → Open old ≡ slice_index_or sessions.connections.items c (Open old)
    → SessionsRefine sessions transcript machines list → (ClientRefines list old (get_connection machines c) → test true ≡ true) → test (is_open_at machines c) ≡ true
enabled-at test machines list sessions transcript c old within is stand rest =
    let here : ClientRefines list old (get_connection machines c) = connection-stands list c sessions.connections.items machines (Open old) within is stand.connections_stand in
    ap test here.is_open ∙ rest here

-- where the connection is not open, the event is not enabled
shut-goes : (test : Bool → Bool) (machines : List MachineConnection) (list : List Call) (sessions : Connections) (transcript : Transcript) (c : ℕ) {Moved : Type 0} → is_open_at machines c ≡ false → test false ≡ false → SessionsRefine sessions transcript machines list
    → Goes (test (is_open_at machines c)) false Moved (SessionsRefine sessions transcript machines list)
shut-goes test machines list sessions transcript c shut refused stand =
    record { done = sym refused ∙ ap test (sym shut); goes = λ yes_did. cc; stays = λ _. stand }

-- there is no such connection
pub none-open : (machines : List MachineConnection) (list : List Call) (sessions : Connections) (transcript : Transcript) (c : ℕ) → length sessions.connections.items ≤ c → SessionsRefine sessions transcript machines list → is_open_at machines c ≡ false
none-open machines list sessions transcript c past stand =
    let over : length machines ≤ c = omega (arith, length-connections list sessions.connections.items machines stand.connections_stand) in
    ap (λ (machine : MachineConnection). machine.is_open) (get-past machines c over)

pub none-goes : (test : Bool → Bool) (machines : List MachineConnection) (list : List Call) (sessions : Connections) (transcript : Transcript) (c : ℕ) {Moved : Type 0} → length sessions.connections.items ≤ c → test false ≡ false → SessionsRefine sessions transcript machines list
    → Goes (test (is_open_at machines c)) false Moved (SessionsRefine sessions transcript machines list)
none-goes test machines list sessions transcript c past refused stand = shut-goes test machines list sessions transcript c (none-open machines list sessions transcript c past stand) refused stand

-- the connection is over
pub over-shut : (machines : List MachineConnection) (list : List Call) (sessions : Connections) (transcript : Transcript) (c : ℕ) (old : Connection) → seat_of old ≡ None → c < length sessions.connections.items → old ≡ slice_index_or sessions.connections.items c old
    → SessionsRefine sessions transcript machines list → is_open_at machines c ≡ false
over-shut machines list sessions transcript c old none within is stand = by old none (connection-stands list c sessions.connections.items machines old within is stand.connections_stand)
  where
    by : (old : Connection) → seat_of old ≡ None → ConnectionRefines list old (get_connection machines c) → is_open_at machines c ≡ false
    by (Open client) none stands = cc
    by Over none stands = stands

over-same : (calls : List Call) (old new : Connection) (machine : MachineConnection) → seat_of old ≡ None → seat_of new ≡ None → ConnectionRefines calls old machine → ConnectionRefines calls new machine
over-same calls old (Open client) machine was none stands = cc
over-same calls (Open client) Over machine was none stands = cc
over-same calls Over Over machine was none stands = stands

pub over-goes : (test : Bool → Bool) (machines : List MachineConnection) (list : List Call) (sessions : Connections) (transcript : Transcript) (c : ℕ) (old new : Connection) {Moved : Type 0} → c < length sessions.connections.items → old ≡ slice_index_or sessions.connections.items c old
    → seat_of old ≡ None → seat_of new ≡ None → test false ≡ false → SessionsRefine sessions transcript machines list
    → Goes (test (is_open_at machines c)) false Moved (SessionsRefine (with_connection sessions c new) transcript machines list)
over-goes test machines list sessions transcript c old new within is was none refused stand =
    let codes = sessions.connections.items in
    shut-goes test machines list (with_connection sessions c new) transcript c (over-shut machines list sessions transcript c old was within is stand) refused (record {
      seats = subst (SeatsRefine sessions.lobby.statuses) (sym (same-seats sessions c old new is (none ∙ sym was))) stand.seats;
      connections_stand = ConnectionsRefine-replaced list c codes machines new stand.connections_stand
          (over-same list old new (get_connection machines c) was none (connection-stands list c codes machines old within is stand.connections_stand));
      told = stand.told;
      no_reply = stand.no_reply;
    })

-- nothing was done to one that is over
pub over-stays : (test : Bool → Bool) (machines : List MachineConnection) (list : List Call) (sessions : Connections) (transcript : Transcript) (c : ℕ) (code : Connection) {Moved : Type 0} → c < length sessions.connections.items → code ≡ slice_index_or sessions.connections.items c code
    → code ≡ Over → test false ≡ false → SessionsRefine sessions transcript machines list
    → Goes (test (is_open_at machines c)) false Moved (SessionsRefine (with_connection sessions c code) transcript machines list)
over-stays test machines list sessions transcript c code within is over refused stand = over-goes test machines list sessions transcript c code code within is (ap seat_of over) (ap seat_of over) refused stand

pub not-open : (code : Connection) → ((client : Client) → code ≡ Open client → ⊥) → seat_of code ≡ None
not-open (Open client) never = absurd (never client refl)
not-open Over never = refl

-- ---- one that is open

pub client-at : (codes : List Connection) (c : ℕ) (code : Connection) (client : Client) → code ≡ slice_index_or codes c code → code ≡ Open client → Open client ≡ slice_index_or codes c (Open client)
client-at codes c code client is at = subst (λ (x : Connection). x ≡ slice_index_or codes c x) at is

pub client-keeps : (sessions : Connections) (c : ℕ) (old new : Client) → Open old ≡ slice_index_or sessions.connections.items c (Open old) → new.seat ≡ old.seat
    → KeepsSeats sessions.connections.items (slice_set sessions.connections.items c (Open new))
client-keeps sessions c old new is seat =
    keeps-seats sessions.connections.items (slice_set sessions.connections.items c (Open new)) (same-seats sessions c (Open old) (Open new) is (ap Some seat))

-- ---- where it failed

pub on_err_from : {T E P : Type 0} (r : Result T E) → P → OnErr r P
on_err_from (Ok value) p = tt
on_err_from (Err e) p = p

pub on_err_both : {T E P Q R : Type 0} (r : Result T E) → (P → Q → R) → OnErr r P → OnErr r Q → OnErr r R
on_err_both (Ok value) both p q = tt
on_err_both (Err e) both p q = both p q
