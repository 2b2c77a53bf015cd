-- A turn of the sequencer takes the connections, the list of calls and the sequencer to those of the machine after it.
use Rattle.std.proofs.Common.{◌≡◌, ◌≢◌, ℕ, zero, suc, ◌<◌, ◌≤◌, ◌++◌, ◌-◌, ◌&&◌, ◌==◌, Bool, true, false, nat_lt, List, [], ◌∷◌, length, take, drop, slice_get, slice_index_or, slice_set, map, Option, Some, None, Vec, Global, refl, sym, ap, ap₂, subst, ◌∙◌, arith}
use Rattle.std.specs.Vec.{vec_capacity}
use Rattle.std.proofs.lemmas.Bool.{eqb-true, ltb-true, lt-ltb, and_from, both_ways, false_from_ne_true}
use Rattle.std.specs.List.{list_any}
use Rattle.kv_types.specs.declared.item.Item.{Item}
use Rattle.kv_types.specs.declared.reply.Held.{Held}
use Rattle.kv_types.specs.declared.limits.TheConstants.{REQUEST_LIMITS}
use Rattle.kv_types.specs.Reading.{items_at}
use Rattle.lobby.specs.Book.{Book}
use Rattle.multi_watch.specs.Sessions.{session_at}
use Rattle.model.specs.declared.call.Call.{Call}
use Rattle.model.specs.declared.group.TheConstants.{MAX_PARTS}
use Rattle.model.specs.Call.{is_nonempty, items_of, position_of, state_after}
use Rattle.model.specs.Command.{closes}
use Rattle.model.proofs.CallsLemmas.{MayReply-alike}
use Rattle.machine.specs.declared.event.TheConstants.{PIPE_ITEMS, OPEN_CHANGES}
use Rattle.machine.specs.Connection.{Inbound as MachineInbound, may_turn, Outbound as MachineOutbound, Connection as MachineConnection, asked, changed_at, get_connection, has_room, is_open_at, taken_first, with_inbound, with_made, with_outbound}
use Rattle.redis_core.specs.Sequencing.{Sequencing, is_closed, state_of}
use Rattle.redis_core.specs.Turn.{Answers, call_of}
use Rattle.inbound.specs.declared.inbound.Inbound.{Inbound}
use Rattle.inbound.specs.ToCome.{HasGiven}
use Rattle.connections.specs.declared.connection.Client.{Client}
use Rattle.connections.specs.declared.connection.Connection.{Connection}
use Rattle.connections.specs.declared.connection.Connection.TheVariants.{Open}
use Rattle.connections.specs.declared.asking.Asking.{Asking}
use Rattle.connections.specs.declared.outbound.Made.{Made}
use Rattle.connections.specs.declared.outbound.Outbound.{Outbound}
use Rattle.connections.specs.declared.connections.Connections.{Connections}
use Rattle.connections.specs.declared.transcript.Transcript.{Transcript}
use Rattle.connections.specs.Asking.{AskingRefines}
use Rattle.connections.specs.Outbound.{IsMade, AreMade, GateRefines, OutboundRefines}
use Rattle.connections.specs.Running.{Runs}
use Rattle.connections.specs.Session.{ClientRefines, ConnectionRefines, ConnectionsRefine, HasSeat, SeatsRefine, SessionsRefine, SeatsFollow, SequencerRefines, IsListOf, TakesTurn, seat_of, seats_of}
use Rattle.connections.proofs.AskingLemmas.{same-stands}
use Rattle.connections.proofs.SessionLemmas.{AreMade-grows, ConnectionsRefine-grows, ConnectionsRefine-replaced, connection-stands, none-open, over-goes, over-shut, same-seats, told-changed, with_connection}
use Rattle.connections.proofs.PositionsLemmas.{positions-pushed}
use Rattle.connections.proofs.SeatLemmas.{has-at}
use Rattle.connections.proofs.SequencerLemmas.{alike-state, follow-answered, open-before, sequencer-answered}

-- ---- the list of calls grows

slice_get-last : (calls : List Call) (call : Call) → slice_get (calls ++ call ∷ []) (length calls) ≡ Some call
slice_get-last [] call = refl
slice_get-last (first ∷ calls) call = slice_get-last calls call

-- ---- one of the connections

-- it is changed twice
stand-changed : (calls : List Call) (codes : List Connection) (machines : List MachineConnection) (c : ℕ) (code : Connection) (first second : MachineConnection → MachineConnection) → ConnectionsRefine calls codes machines
    → ConnectionRefines calls code (second (first (get_connection machines c))) → ConnectionsRefine calls (slice_set codes c code) (changed_at c second (changed_at c first machines))
stand-changed calls [] [] c code first second stand at = tt
stand-changed calls [] (machine ∷ machines) c code first second stand at = absurd stand
stand-changed calls (old ∷ codes) [] c code first second stand at = absurd stand
stand-changed calls (old ∷ codes) (machine ∷ machines) zero code first second stand at = (at, stand.1)
stand-changed calls (old ∷ codes) (machine ∷ machines) (suc c) code first second stand at = (stand.0, stand-changed calls codes machines c code first second stand.1 at)

-- ---- what a turn takes

asked-first : (asked_items waiting rest : List Item) (item : Item) → take (length waiting) asked_items ≡ waiting → waiting ≡ item ∷ rest → asked_items ≡ item ∷ drop 1 asked_items
asked-first [] [] rest item first is = cc
asked-first [] (w ∷ waiting) rest item first is = cc
asked-first (a ∷ asked_items) [] rest item first is = cc
asked-first (a ∷ asked_items) (w ∷ waiting) rest item first is =
    let head : a ≡ w = cc in
    let same : w ≡ item = cc in
    ap (λ x. x ∷ asked_items) (head ∙ same)

-- the first of the items asked for is the first that waits
pub first-asked : (code : Asking) (machine : MachineInbound) (item : Item) (rest : List Item) → AskingRefines code machine → code.waiting.items ≡ item ∷ rest → code.asked.items ≡ item ∷ drop 1 code.asked.items
first-asked code machine item rest stands is = asked-first code.asked.items machine.waiting rest item stands.first (sym stands.waits ∙ is)

drop-more : (n : ℕ) (xs ys : List Item) (x : Item) → drop n xs ≡ x ∷ ys → drop (suc n) xs ≡ ys
drop-more zero [] ys x e = cc
drop-more zero (y ∷ xs) ys x e = cc
drop-more (suc n) [] ys x e = cc
drop-more (suc n) (y ∷ xs) ys x e = drop-more n xs ys x e

drop-within : (n : ℕ) (xs ys : List Item) (x : Item) → drop n xs ≡ x ∷ ys → n < length xs
drop-within zero [] ys x e = cc
drop-within zero (y ∷ xs) ys x e = omega arith
drop-within (suc n) [] ys x e = cc
drop-within (suc n) (y ∷ xs) ys x e = omega (arith, drop-within n xs ys x e)

take-rest : (xs ys : List Item) (x : Item) → take (length (x ∷ ys)) (x ∷ xs) ≡ x ∷ ys → take (length ys) xs ≡ ys
take-rest xs ys x e = cc

inbound-taken : (old new : Asking) (machine : MachineInbound) (item : Item) (rest others : List Item) → AskingRefines old machine → old.waiting.items ≡ item ∷ rest → old.asked.items ≡ item ∷ others
    → new.source ≡ old.source → new.asked.items ≡ others → new.waiting.items ≡ rest → AskingRefines new (taken_first machine)
inbound-taken old new machine item rest others stands is asks source asked_now waiting_now =
    let waits : machine.waiting ≡ item ∷ rest = sym stands.waits ∙ is in
    let left : drop 1 machine.waiting ≡ rest = ap (drop 1) waits in
    let kept : drop stands.run (asked machine.fed) ≡ item ∷ others = stands.kept ∙ asks in
    let first : take (length (item ∷ rest)) (item ∷ others) ≡ item ∷ rest = ap₂ (λ (xs ys : List Item). take (length xs) ys) (sym waits) (sym asks) ∙ stands.first ∙ waits in
    record {
      given = subst (HasGiven machine.fed) (sym source) stands.given;
      closed = ap (λ (inbound : Inbound). inbound.is_closed) source ∙ stands.closed;
      run = suc stands.run;
      within = drop-within stands.run (asked machine.fed) others item kept;
      counted = omega (arith, stands.counted, ap length waits, ap length left);
      kept = drop-more stands.run (asked machine.fed) others item kept ∙ sym asked_now;
      waits = waiting_now ∙ sym left;
      first = ap₂ (λ (xs ys : List Item). take (length xs) ys) left asked_now ∙ take-rest others rest item first ∙ sym left;
    }

AreMade-push : (calls : List Call) (mades : List Made) (helds : List Held) (made : Made) (held : Held) → AreMade calls mades helds → IsMade calls made held → AreMade calls (mades ++ made ∷ []) (helds ++ held ∷ [])
AreMade-push calls [] [] made held are is = (is, tt)
AreMade-push calls [] (h ∷ helds) made held are is = absurd are
AreMade-push calls (m ∷ mades) [] made held are is = absurd are
AreMade-push calls (m ∷ mades) (h ∷ helds) made held are is = (are.0, AreMade-push calls mades helds made held are.1 is)

outbound-made : (calls : List Call) (call : Call) (position : ℕ) (old new : Outbound) (machine : MachineOutbound) → OutboundRefines calls old machine → position ≡ position_of (calls ++ call ∷ [])
    → new.made.items ≡ old.made.items ++ record { call = length calls; position = position } ∷ [] → new.gate ≡ old.gate → new.seen ≡ old.seen
    → OutboundRefines (calls ++ call ∷ []) new (with_made (record { reply = call.reply; position = position_of (calls ++ call ∷ []) }) machine)
outbound-made calls call position old new machine stands at made gate seen =
    let calls' = calls ++ call ∷ [] in
    let held : Held = record { reply = call.reply; position = position_of calls' } in
    let same : GateRefines new.gate machine = subst (λ g. GateRefines g machine) (sym gate) stands.gate in
    let is : IsMade calls' (record { call = length calls; position = position }) held = record { call = call; stands = slice_get-last calls call; reply = refl; position = sym at } in
    record {
      made = subst (λ (mades : List Made). AreMade calls' mades (machine.made ++ held ∷ [])) (sym made)
          (AreMade-push calls' old.made.items machine.made _ held (AreMade-grows calls (call ∷ []) old.made.items machine.made stands.made) is);
      gate = record { pending = same.pending; waiting = same.waiting; held = same.held };
      seen = seen ∙ stands.seen;
    }

-- ---- where a turn is enabled

four : (a b c d : Bool) → (a && b && c && d) ≡ true → (a ≡ true) × (b ≡ true) × (c ≡ true) × (d ≡ true)
four true true true d e = (refl, refl, refl, e)
four true true false d e = cc
four true false c d e = cc
four false b c d e = cc

-- what it requires of the code
pub record MayRun (code : Client) (sequencer : Sequencing) : Type 0 where
  pub waits : code.inbound.waiting.items ≢ []
  pub room : length code.outbound.made.items < PIPE_ITEMS
  pub few : length sequencer.waiting < MAX_PARTS
  pub is_open : is_closed sequencer code.seat ≡ false

length-made : (calls : List Call) (mades : List Made) (helds : List Held) → AreMade calls mades helds → length mades ≡ length helds
length-made calls [] [] are = refl
length-made calls [] (held ∷ helds) are = absurd are
length-made calls (made ∷ mades) [] are = absurd are
length-made calls (made ∷ mades) (held ∷ helds) are = ap suc (length-made calls mades helds are.1)

open-while-waiting : (machines : List MachineConnection) (list : List Call) (closed c seat : ℕ) (seats : List (Option ℕ)) (s : Sequencing) → IsListOf machines list → SeatsFollow list seats s → HasSeat seats c seat → is_open_at machines c ≡ true → is_nonempty (get_connection machines c).inbound.waiting ≡ true
    → is_closed s seat ≡ false
open-while-waiting machines list closed c seat seats s sound follow own is_one waits =
    let inbound = (get_connection machines c).inbound in
    false_from_ne_true (is_closed s seat) (λ closed. both_ways (list_any closes (items_of c list)) (none inbound.waiting waits (sound.order c is_one)) (follow.by_call c seat own closed))
  where
    none : (waiting : List Item) → is_nonempty waiting ≡ true → items_of c list ++ waiting ≡ take (get_connection machines c).inbound.offered (asked (get_connection machines c).inbound.fed) → list_any closes (items_of c list) ≡ false
    none [] some order = cc
    none (item ∷ items) some order = open-before (get_connection machines c).inbound.offered (items_at REQUEST_LIMITS (get_connection machines c).inbound.fed) (items_of c list) items item order

is_nonempty-some : {X : Type 0} (xs : List X) → is_nonempty xs ≡ true → xs ≢ []
is_nonempty-some [] e = λ h. cc
is_nonempty-some (x ∷ xs) e = λ h. cc

enabled-runs : (machines : List MachineConnection) (list : List Call) (closed c : ℕ) (code : Client) (seats : List (Option ℕ)) (s : Sequencing) → IsListOf machines list → SequencerRefines list closed s → SeatsFollow list seats s → HasSeat seats c code.seat
    → ClientRefines list code (get_connection machines c)
    → may_turn machines c (position_of list - closed) ≡ true → MayRun code s
enabled-runs machines list closed c code seats s sound stands follow own connection e =
    let machine = get_connection machines c in
    let parts = four (is_open_at machines c) (is_nonempty machine.inbound.waiting) (has_room machine.outbound.made) (nat_lt (position_of list - closed) OPEN_CHANGES) e in
    record {
      waits = λ h. is_nonempty-some machine.inbound.waiting parts.1 (sym connection.inbound.waits ∙ h);
      room = omega (arith, ltb-true (length machine.outbound.made) PIPE_ITEMS parts.2, length-made list code.outbound.made.items machine.outbound.made connection.outbound.made);
      few = omega (arith, ltb-true (position_of list - closed) OPEN_CHANGES parts.3, stands.count);
      is_open = open-while-waiting machines list closed c code.seat seats s sound follow own parts.0 parts.1;
    }

enabled-open : (machines : List MachineConnection) (list : List Call) (closed c : ℕ) → may_turn machines c (position_of list - closed) ≡ true → is_open_at machines c ≡ true
enabled-open machines list closed c e =
    let machine = get_connection machines c in
    (four (is_open_at machines c) (is_nonempty machine.inbound.waiting) (has_room machine.outbound.made) (nat_lt (position_of list - closed) OPEN_CHANGES) e).0

runs-enabled : (machines : List MachineConnection) (list : List Call) (closed c : ℕ) (code : Client) (s : Sequencing) → SequencerRefines list closed s → ClientRefines list code (get_connection machines c)
    → code.inbound.waiting.items ≢ [] → length code.outbound.made.items < PIPE_ITEMS → length s.waiting < MAX_PARTS → may_turn machines c (position_of list - closed) ≡ true
runs-enabled machines list closed c code s stands connection waits room few =
    let machine = get_connection machines c in
    let some : is_nonempty machine.inbound.waiting ≡ true = nonempty machine.inbound.waiting (λ h. waits (connection.inbound.waits ∙ h)) in
    let fits : has_room machine.outbound.made ≡ true =
    lt-ltb (length machine.outbound.made) PIPE_ITEMS (omega (arith, length-made list code.outbound.made.items machine.outbound.made connection.outbound.made)) in
    let below : nat_lt (position_of list - closed) OPEN_CHANGES ≡ true = lt-ltb (position_of list - closed) OPEN_CHANGES (omega (arith, stands.count)) in
    and_from (is_open_at machines c && is_nonempty machine.inbound.waiting && has_room machine.outbound.made) _
    (and_from (is_open_at machines c && is_nonempty machine.inbound.waiting) _ (and_from (is_open_at machines c) _ connection.is_open some) fits) below
  where
    nonempty : (xs : List Item) → xs ≢ [] → is_nonempty xs ≡ true
    nonempty [] differ = absurd (differ refl)
    nonempty (x ∷ xs) differ = refl

pub none-wait : (items : List Item) → (length items == 0) ≡ true → items ≡ []
none-wait [] e = refl
none-wait (item ∷ items) e = absurd (omega (arith, eqb-true (suc (length items)) 0 e))

-- ---- no turn

-- nothing changed where it is not enabled
pub no-turn : (machines : List MachineConnection) (list : List Call) (closed c : ℕ) (sessions : Connections) (transcript : Transcript) (s s' : Sequencing) → (may_turn machines c (position_of list - closed) ≡ true → ⊥)
    → SessionsRefine sessions transcript machines list → s' ≡ s → TakesTurn machines list closed c false sessions transcript s s'
no-turn machines list closed c sessions transcript s s' never stands same = record {
  done = sym (false_from_ne_true (may_turn machines c (position_of list - closed)) never);
  goes = λ did. cc;
  stays = λ did. (stands, same);
}

-- there is no such connection
pub no-turn-past : (machines : List MachineConnection) (list : List Call) (closed c : ℕ) (sessions : Connections) (transcript : Transcript) (s : Sequencing) → length sessions.connections.items ≤ c → SessionsRefine sessions transcript machines list → TakesTurn machines list closed c false sessions transcript s s
no-turn-past machines list closed c sessions transcript s past stands =
    no-turn machines list closed c sessions transcript s s (λ e. both_ways (is_open_at machines c) (none-open machines list sessions transcript c past stands) (enabled-open machines list closed c e)) stands refl

-- the connection is over
pub no-turn-over : (machines : List MachineConnection) (list : List Call) (closed c : ℕ) (sessions : Connections) (transcript : Transcript) (code : Connection) (s : Sequencing) → seat_of code ≡ None → c < length sessions.connections.items → code ≡ slice_index_or sessions.connections.items c code
    → SessionsRefine sessions transcript machines list → TakesTurn machines list closed c false (with_connection sessions c code) transcript s s
no-turn-over machines list closed c sessions transcript code s none lt is stands =
    let shut = over-shut machines list sessions transcript c code none lt is stands in
    let stays = over-goes (λ b. b) machines list sessions transcript c code code {Moved = Unit {0}} lt is none none refl stands in
    no-turn machines list closed c (with_connection sessions c code) transcript s s (λ e. both_ways (is_open_at machines c) shut (enabled-open machines list closed c e)) (stays.stays refl) refl

-- the connection of a number that there is
pub client-stands : (machines : List MachineConnection) (list : List Call) (c : ℕ) (sessions : Connections) (transcript : Transcript) (code : Client) → SessionsRefine sessions transcript machines list → c < length sessions.connections.items
    → Open code ≡ slice_index_or sessions.connections.items c (Open code) → ClientRefines list code (get_connection machines c)
client-stands machines list c sessions transcript code stands lt is = connection-stands list c sessions.connections.items machines (Open code) lt is stands.connections_stand

-- what a turn leaves alone
pub record LeavesRest (old new : Connections) (c : ℕ) (code code' : Client) : Type 0 where
  pub lobby : new.lobby ≡ old.lobby
  pub connections : new.connections.items ≡ slice_set old.connections.items c (Open code')
  pub seat : code'.seat ≡ code.seat
  pub source : code'.inbound.source ≡ code.inbound.source
  pub gate : code'.outbound.gate ≡ code.outbound.gate
  pub seen : code'.outbound.seen ≡ code.outbound.seen

-- no connection has another seat
pub turn-seats : (old new : Connections) (c : ℕ) (code code' : Client) → Open code ≡ slice_index_or old.connections.items c (Open code) → LeavesRest old new c code code' → seats_of new.connections.items ≡ seats_of old.connections.items
turn-seats old new c code code' is rest = ap seats_of rest.connections ∙ same-seats old c (Open code) (Open code') is (ap Some rest.seat)

turn-seated : (old new : Connections) (c : ℕ) (code code' : Client) → Open code ≡ slice_index_or old.connections.items c (Open code) → LeavesRest old new c code code' → SeatsRefine old.lobby.statuses (seats_of old.connections.items)
    → SeatsRefine new.lobby.statuses (seats_of new.connections.items)
turn-seated old new c code code' is rest stand =
    subst (λ (lobby : Book). SeatsRefine lobby.statuses (seats_of new.connections.items)) (sym rest.lobby) (subst (SeatsRefine old.lobby.statuses) (sym (turn-seats old new c code code' is rest)) stand)

-- the sequencer ran nothing
pub no-turn-unserved : (machines : List MachineConnection) (list : List Call) (closed c : ℕ) (old new : Connections) (transcript : Transcript) (code code' : Client) (s s' : Sequencing) → c < length old.connections.items → Open code ≡ slice_index_or old.connections.items c (Open code)
    → (MayRun code s → ⊥) → IsListOf machines list → SessionsRefine old transcript machines list → SequencerRefines list closed s
    → SeatsFollow list (seats_of old.connections.items) s → LeavesRest old new c code code'
    → code'.inbound.asked.items ≡ code.inbound.asked.items → code'.inbound.waiting.items ≡ code.inbound.waiting.items → code'.outbound.made.items ≡ code.outbound.made.items
    → new.replies.items ≡ [] → s' ≡ s → TakesTurn machines list closed c false new transcript s s'
no-turn-unserved machines list closed c old new transcript code code' s s' lt is never sound stands sequencer follow rest asked_same waiting_same made_same replies same =
    let here : ClientRefines list code (get_connection machines c) = client-stands machines list c old transcript code stands lt is in
    let own = has-at old.connections.items c code.seat (Open code) lt is refl in
    let machine = get_connection machines c in
    let at : ClientRefines list code' machine = record {
      is_open = here.is_open;
      inbound = same-stands code.inbound code'.inbound machine.inbound here.inbound rest.source asked_same waiting_same;
      outbound = record {
        made = subst (λ (mades : List Made). AreMade list mades machine.outbound.made) (sym made_same) here.outbound.made;
        gate = subst (λ g. GateRefines g machine.outbound) (sym rest.gate) here.outbound.gate;
        seen = rest.seen ∙ here.outbound.seen;
      };
    } in
    no-turn machines list closed c new transcript s s' (λ e. never (enabled-runs machines list closed c code (seats_of old.connections.items) s sound sequencer follow own here e)) (record {
      seats = turn-seated old new c code code' is rest stands.seats;
      connections_stand = subst (λ (codes : List Connection). ConnectionsRefine list codes machines) (sym rest.connections)
          (ConnectionsRefine-replaced list c old.connections.items machines (Open code') stands.connections_stand at);
      told = stands.told;
      no_reply = replies;
    }) same

-- ---- a turn

-- the sequencer ran the first item that waits
pub turn-taken : (machines : List MachineConnection) (list : List Call) (closed c : ℕ) (old new : Connections) (transcript after_it : Transcript) (code code' : Client) (s s' : Sequencing) (held : Held) → c < length old.connections.items → Open code ≡ slice_index_or old.connections.items c (Open code)
    → length code.outbound.made.items < PIPE_ITEMS → IsListOf machines list → SessionsRefine old transcript machines list → SequencerRefines list closed s
    → SeatsFollow list (seats_of old.connections.items) s → LeavesRest old new c code code'
    → (runs : Runs s code.seat code.inbound.waiting.items held code'.inbound.waiting.items s')
    → code'.inbound.asked.items ≡ drop 1 code.inbound.asked.items → code'.outbound.made.items ≡ code.outbound.made.items ++ record { call = length transcript.calls.items; position = held.position } ∷ []
    → after_it.calls.items ≡ transcript.calls.items ++ call_of c runs.item held.reply ∷ [] → after_it.positions.items ≡ transcript.positions.items ++ held.position ∷ [] → vec_capacity after_it.calls ≤ vec_capacity after_it.positions
    → after_it.released ≡ transcript.released → new.replies.items ≡ [] → TakesTurn machines list closed c true new after_it s s'
turn-taken machines list closed c old new transcript after_it code code' s s' held lt is room sound stands sequencer follow rest runs asked_now made_now calls_now positions_now positions_room released_same replies =
    let machine = get_connection machines c in
    let here : ClientRefines list code machine = client-stands machines list c old transcript code stands lt is in
    let own = has-at old.connections.items c code.seat (Open code) lt is refl in
    let call = call_of c runs.item held.reply in
    let calls' = list ++ call ∷ [] in
    let answers : Answers s code.seat runs.item held.reply s' = runs.answers in
    let session : session_at s.sessions code.seat ≡ (state_after list).sessions c = follow.session c code.seat own in
    let after : SequencerRefines calls' closed s' = sequencer-answered list closed s s' c code.seat runs.item held.reply sequencer session answers in
    let asks = first-asked code.inbound machine.inbound runs.item code'.inbound.waiting.items here.inbound runs.first in
    let reply : Held = record { reply = held.reply; position = position_of calls' } in
    let at : ClientRefines calls' code' (with_outbound (with_made reply) (with_inbound taken_first machine)) = record {
      is_open = here.is_open;
      inbound = inbound-taken code.inbound code'.inbound machine.inbound runs.item code'.inbound.waiting.items (drop 1 code.inbound.asked.items) here.inbound runs.first asks
          rest.source asked_now refl;
      outbound = outbound-made list call held.position code.outbound code'.outbound machine.outbound here.outbound (runs.position ∙ after.position)
          (made_now ∙ ap (λ (calls : List Call). code.outbound.made.items ++ record { call = length calls; position = held.position } ∷ []) stands.told.calls_are) rest.gate rest.seen;
    } in
    let taken = changed_at c (with_inbound taken_first) machines in
    let waits : (get_connection machines c).inbound.waiting ≡ runs.item ∷ code'.inbound.waiting.items = sym here.inbound.waits ∙ runs.first in
    record {
      done = sym (runs-enabled machines list closed c code s sequencer here (λ none. absurd (not_both runs.item code'.inbound.waiting.items (sym runs.first ∙ none))) room runs.few);
      goes = λ did. (
        call,
        record {
          connection = refl;
          first = ap (take 1) waits;
          reply = MayReply-alike (state_of s) (state_after list) (call_of code.seat runs.item held.reply) call
              (alike-state list closed s c code.seat runs.item held.reply sequencer session) answers.legal;
        },
        record {
          seats = turn-seated old new c code code' is rest stands.seats;
          connections_stand = subst (λ (codes : List Connection). ConnectionsRefine calls' codes (changed_at c (with_outbound (with_made reply)) taken)) (sym rest.connections)
              (stand-changed calls' old.connections.items machines c (Open code') (with_inbound taken_first) (with_outbound (with_made reply))
              (ConnectionsRefine-grows list (call ∷ []) old.connections.items machines stands.connections_stand) at);
          told = record {
            calls_are = calls_now ∙ ap (λ (calls : List Call). calls ++ call ∷ []) stands.told.calls_are;
            positions = positions_now ∙ positions-pushed transcript.positions.items list call held.position stands.told.positions (runs.position ∙ after.position);
            positions_room = positions_room;
            released = ap (λ (all : Vec (Vec ℕ Global) Global). map (λ (bytes : Vec ℕ Global). bytes.items) all.items) released_same
                ∙ (told-changed transcript taken list c (with_outbound (with_made reply)) (λ machine. refl)
                (told-changed transcript machines list c (with_inbound taken_first) (λ machine. refl) stands.told)).released;
          };
          no_reply = replies;
        },
        after,
        subst (λ (seats : List (Option ℕ)). SeatsFollow calls' seats s') (sym (turn-seats old new c code code' is rest))
            (follow-answered list closed (seats_of old.connections.items) s s' c code.seat runs.item held.reply own stands.seats.are_apart sequencer follow answers),
      );
      stays = λ did. cc;
    }
  where
    not_both : (item : Item) (items : List Item) → item ∷ items ≡ [] → ⊥
    not_both item items e = cc
