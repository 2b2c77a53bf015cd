-- Seats are given and given back.
use Rattle.std.proofs.Common.{◌≡◌, ◌≢◌, ℕ, zero, suc, ◌+◌, ◌<◌, ◌≤◌, ◌++◌, Bool, true, false, not, cond, nat_lt, List, [], ◌∷◌, length, Option, Some, None, Vec, Global, is_some, All, inl, inr, ◌⊎◌, slice_get, slice_index_or, slice_set, map, refl, sym, ap, ap₂, subst, ◌∙◌, arith}
use Rattle.std.proofs.lemmas.Bool.{lt-ltb, le-ltb, both_ways}
use Rattle.std.proofs.lemmas.List.{length-map, map-append}
use Rattle.std.proofs.lemmas.List.Elements.{All-head, All-tail}
use Rattle.lobby.specs.Book.{Book, Status, Moves, free, taken}
use Rattle.multi_watch.specs.Session.{Session, idle_session}
use Rattle.multi_watch.specs.Sessions.{session_of, slot}
use Rattle.model.specs.declared.call.Call.{Call}
use Rattle.model.proofs.SessionLemmas.{session_of_new}
use Rattle.machine.specs.declared.event.TheConstants.{SEATS}
use Rattle.machine.specs.Connection.{Connection as MachineConnection, new_connection, count_open, is_open_at, get_connection, changed_at, left}
use Rattle.redis_core.specs.Sequencing.{Sequencing, MovesSeat, is_closed}
use Rattle.connections.specs.declared.asking.Asking.{Asking}
use Rattle.connections.specs.declared.outbound.Outbound.{Outbound}
use Rattle.connections.specs.declared.connection.Client.{Client}
use Rattle.connections.specs.declared.connection.Connection.{Connection}
use Rattle.connections.specs.declared.connection.Connection.TheVariants.{Open, Over}
use Rattle.connections.specs.declared.connections.Connections.{Connections}
use Rattle.connections.specs.declared.transcript.Transcript.{Transcript}
use Rattle.connections.specs.Going.{Goes}
use Rattle.connections.specs.Asking.{AskingRefines}
use Rattle.connections.specs.Outbound.{OutboundRefines}
use Rattle.connections.specs.Session.{ConnectionRefines, ConnectionsRefine, HasSeat, KeepsSeats, SeatsRefine, SessionsRefine, TranscriptRefines, SeatsFollow, IsListOf, count_seated, count_taken, seat_of, seats_of}
use Rattle.connections.proofs.SessionLemmas.{ConnectionsRefine-changed, connection-stands, length-connections, told-changed, told-with, with_released}
use Rattle.connections.proofs.SequencerLemmas.{follow-same}

-- ---- the statuses

get-set_same : {X : Type 0} (xs : List X) (i : ℕ) (old new : X) → slice_get xs i ≡ Some old → slice_get (slice_set xs i new) i ≡ Some new
get-set_same [] i old new was = cc
get-set_same (x ∷ xs) zero old new was = refl
get-set_same (x ∷ xs) (suc i) old new was = get-set_same xs i old new was

get-set_other : {X : Type 0} (xs : List X) (i j : ℕ) (new : X) → j ≢ i → slice_get (slice_set xs i new) j ≡ slice_get xs j
get-set_other [] i j new differ = refl
get-set_other (x ∷ xs) zero zero new differ = absurd (differ refl)
get-set_other (x ∷ xs) zero (suc j) new differ = refl
get-set_other (x ∷ xs) (suc i) zero new differ = refl
get-set_other (x ∷ xs) (suc i) (suc j) new differ = get-set_other xs i j new (λ same. differ (ap suc same))

free-not_taken : (status : Option Status) → status ≡ Some free → status ≡ Some taken → ⊥
free-not_taken status is_free is_taken = cc

taken-more : (statuses : List Status) (seat : ℕ) → slice_get statuses seat ≡ Some free → count_taken (slice_set statuses seat taken) ≡ suc (count_taken statuses)
taken-more [] seat was = cc
taken-more (free ∷ statuses) zero was = refl
taken-more (taken ∷ statuses) zero was = cc
taken-more (free ∷ statuses) (suc seat) was = taken-more statuses seat was
taken-more (taken ∷ statuses) (suc seat) was = ap suc (taken-more statuses seat was)

taken-less : (statuses : List Status) (seat : ℕ) → slice_get statuses seat ≡ Some taken → count_taken statuses ≡ suc (count_taken (slice_set statuses seat free))
taken-less [] seat was = cc
taken-less (free ∷ statuses) zero was = cc
taken-less (taken ∷ statuses) zero was = refl
taken-less (free ∷ statuses) (suc seat) was = taken-less statuses seat was
taken-less (taken ∷ statuses) (suc seat) was = ap suc (taken-less statuses seat was)

-- where one is free, fewer are taken than there are
taken-lt : (statuses : List Status) (seat : ℕ) → slice_get statuses seat ≡ Some free → count_taken statuses < length statuses
taken-lt [] seat was = cc
taken-lt (free ∷ statuses) seat was = omega (arith, taken-le statuses)
  where
    taken-le : (statuses : List Status) → count_taken statuses ≤ length statuses
    taken-le [] = omega arith
    taken-le (free ∷ statuses) = omega (arith, taken-le statuses)
    taken-le (taken ∷ statuses) = omega (arith, taken-le statuses)
taken-lt (taken ∷ statuses) zero was = cc
taken-lt (taken ∷ statuses) (suc seat) was = omega (arith, taken-lt statuses seat was)

all-taken : (statuses : List Status) → All (λ status. status ≡ taken) statuses → count_taken statuses ≡ length statuses
all-taken [] all = refl
all-taken (free ∷ statuses) all = let first : free ≡ taken = All-head (λ (status : Status). status ≡ taken) free statuses all in cc
all-taken (taken ∷ statuses) all = ap suc (all-taken statuses (All-tail (λ (status : Status). status ≡ taken) taken statuses all))

-- ---- the seats of connections

seated-more : (seats : List (Option ℕ)) (seat : ℕ) → count_seated (seats ++ Some seat ∷ []) ≡ suc (count_seated seats)
seated-more [] seat = refl
seated-more (Some other ∷ seats) seat = ap suc (seated-more seats seat)
seated-more (None ∷ seats) seat = seated-more seats seat

seated-less : (seats : List (Option ℕ)) (c seat : ℕ) → HasSeat seats c seat → count_seated seats ≡ suc (count_seated (slice_set seats c None))
seated-less [] c seat has = cc
seated-less (Some other ∷ seats) zero seat has = refl
seated-less (None ∷ seats) zero seat has = cc
seated-less (Some other ∷ seats) (suc c) seat has = ap suc (seated-less seats c seat has)
seated-less (None ∷ seats) (suc c) seat has = seated-less seats c seat has

-- as many are open as have a seat
pub open-seated : (calls : List Call) (codes : List Connection) (machines : List MachineConnection) → ConnectionsRefine calls codes machines → count_open machines ≡ count_seated (seats_of codes)
open-seated calls [] [] stand = refl
open-seated calls [] (machine ∷ machines) stand = absurd stand
open-seated calls (code ∷ codes) [] stand = absurd stand
open-seated calls (Open client ∷ codes) (machine ∷ machines) stand =
    let rest = open-seated calls codes machines stand.1 in
    let one : count_open (machine ∷ machines) ≡ 1 + count_open machines = ap (λ b. cond b 1 0 + count_open machines) stand.0.is_open in
    omega (arith, rest, one)
open-seated calls (Over ∷ codes) (machine ∷ machines) stand =
    let rest = open-seated calls codes machines stand.1 in
    let none : count_open (machine ∷ machines) ≡ 0 + count_open machines = ap (λ b. cond b 1 0 + count_open machines) stand.0 in
    omega (arith, rest, none)

-- the last has this seat, and the others have theirs
has-pushed : (seats : List (Option ℕ)) (last c seat : ℕ) → HasSeat (seats ++ Some last ∷ []) c seat → HasSeat seats c seat ⊎ ((c ≡ length seats) × (seat ≡ last))
has-pushed [] last zero seat has = inr (refl, cc)
has-pushed [] last (suc c) seat has = cc
has-pushed (first ∷ seats) last zero seat has = inl has
has-pushed (first ∷ seats) last (suc c) seat has =
    elim (has-pushed seats last c seat has) [
      | inl before ↦ inl before
      | inr own ↦ inr (ap suc own.0, own.1)
    ]

-- the connection at this index has none, and the others have theirs
pub has-cleared : (seats : List (Option ℕ)) (c d seat : ℕ) → HasSeat (slice_set seats c None) d seat → HasSeat seats d seat × (d ≢ c)
has-cleared [] c d seat has = cc
has-cleared (first ∷ seats) zero zero seat has = cc
has-cleared (first ∷ seats) zero (suc d) seat has = (has, λ same. cc)
has-cleared (first ∷ seats) (suc c) zero seat has = (has, λ same. cc)
has-cleared (first ∷ seats) (suc c) (suc d) seat has = let rest = has-cleared seats c d seat has in (rest.0, λ same. rest.1 (omega (arith, same)))

-- ---- the start

none-taken : (statuses : List Status) → All (λ status. status ≡ free) statuses → count_taken statuses ≡ 0
none-taken [] all = refl
none-taken (free ∷ statuses) all = none-taken statuses (All-tail (λ (status : Status). status ≡ free) free statuses all)
none-taken (taken ∷ statuses) all = let first : taken ≡ free = All-head (λ (status : Status). status ≡ free) taken statuses all in cc

pub sessions-start : (sessions : Connections) (transcript : Transcript) → All (λ status. status ≡ free) sessions.lobby.statuses → sessions.connections.items ≡ [] → sessions.replies.items ≡ []
    → TranscriptRefines transcript [] [] → SessionsRefine sessions transcript [] []
sessions-start sessions transcript all_free none no_reply told =
    record {
      seats = subst (λ (codes : List Connection). SeatsRefine sessions.lobby.statuses (seats_of codes)) (sym none) (record {
        complete = sessions.lobby.complete;
        are_taken = λ c seat has. cc;
        are_apart = λ c d seat has has'. cc;
        count = none-taken sessions.lobby.statuses all_free;
      });
      connections_stand = subst (λ (codes : List Connection). ConnectionsRefine [] codes []) (sym none) tt;
      told = told;
      no_reply = no_reply;
    }

-- ---- a connection enters

SeatsRefine-more : (before after : Book) (seats : List (Option ℕ)) (seat : ℕ) → SeatsRefine before.statuses seats → Moves before seat free taken after → SeatsRefine after.statuses (seats ++ Some seat ∷ [])
SeatsRefine-more before after seats seat stand moves =
    let differ : (d : ℕ) → HasSeat seats d seat → ⊥ = λ d has. free-not_taken (slice_get before.statuses seat) moves.was (stand.are_taken d seat has) in
    subst (λ (statuses : List Status). SeatsRefine statuses (seats ++ Some seat ∷ [])) (sym moves.becomes) (record {
      complete = ap length (sym moves.becomes) ∙ after.complete;
      are_taken = λ d other has. elim (has-pushed seats seat d other has) [
        | inl before_has ↦ get-set_other before.statuses seat other taken (λ same. differ d (subst (HasSeat seats d) same before_has)) ∙ stand.are_taken d other before_has
        | inr own ↦ ap (slice_get (slice_set before.statuses seat taken)) own.1 ∙ get-set_same before.statuses seat free taken moves.was
      ];
      are_apart = λ c d other has has'. elim (has-pushed seats seat c other has) [
        | inl first ↦ elim (has-pushed seats seat d other has') [
          | inl second ↦ stand.are_apart c d other first second
          | inr own ↦ absurd (differ c (subst (HasSeat seats c) own.1 first))
        ]
        | inr own ↦ elim (has-pushed seats seat d other has') [
          | inl second ↦ absurd (differ d (subst (HasSeat seats d) own.1 second))
          | inr own' ↦ own.0 ∙ sym own'.0
        ]
      ];
      count = taken-more before.statuses seat moves.was ∙ ap suc stand.count ∙ sym (seated-more seats seat);
    })

ConnectionsRefine-push : (calls : List Call) (codes : List Connection) (machines : List MachineConnection) (code : Connection) (machine : MachineConnection)
    → ConnectionsRefine calls codes machines → ConnectionRefines calls code machine → ConnectionsRefine calls (codes ++ code ∷ []) (machines ++ machine ∷ [])
ConnectionsRefine-push calls [] [] code machine stand stands = (stands, tt)
ConnectionsRefine-push calls [] (other ∷ machines) code machine stand stands = absurd stand
ConnectionsRefine-push calls (other ∷ codes) [] code machine stand stands = absurd stand
ConnectionsRefine-push calls (first ∷ codes) (other ∷ machines) code machine stand stands = (stand.0, ConnectionsRefine-push calls codes machines code machine stand.1 stands)

-- where a seat was free, a connection may enter
pub may-enter : (machines : List MachineConnection) (list : List Call) (old : Connections) (transcript : Transcript) (after : Book) (seat : ℕ) → SessionsRefine old transcript machines list → Moves old.lobby seat free taken after → nat_lt (count_open machines) SEATS ≡ true
may-enter machines list old transcript after seat stand moves =
    lt-ltb (count_open machines) SEATS (omega (
      arith,
      taken-lt old.lobby.statuses seat moves.was,
      old.lobby.complete,
      stand.seats.count,
      open-seated list old.connections.items machines stand.connections_stand,
    ))

seats-pushed : (codes : List Connection) (client : Client) → seats_of (codes ++ Open client ∷ []) ≡ seats_of codes ++ Some client.seat ∷ []
seats-pushed codes client = map-append seat_of codes (Open client ∷ [])

-- it took a free seat
pub seated-goes : (machines : List MachineConnection) (list : List Call) (old new : Connections) (transcript : Transcript) (seat : ℕ) (inbound : Asking) (outbound : Outbound) (released : Vec (Vec ℕ Global) Global) (bytes : Vec ℕ Global) {Stayed : Type 0}
    → SessionsRefine old transcript machines list
    → Moves old.lobby seat free taken new.lobby → AskingRefines inbound new_connection.inbound → OutboundRefines list outbound new_connection.outbound
    → new.connections.items ≡ old.connections.items ++ Open (record { seat = seat; inbound = inbound; outbound = outbound }) ∷ [] → released.items ≡ transcript.released.items ++ bytes ∷ [] → bytes.items ≡ [] → new.replies.items ≡ old.replies.items
    → Goes (nat_lt (count_open machines) SEATS) true (SessionsRefine new (with_released transcript released) (machines ++ new_connection ∷ []) list) Stayed
seated-goes machines list old new transcript seat inbound outbound released bytes stand moves inbound_stands outbound_stands connections pushed none replies =
    let client : Client = record { seat = seat; inbound = inbound; outbound = outbound } in
    record {
      done = sym (may-enter machines list old transcript new.lobby seat stand moves);
      goes = λ _. record {
        seats = subst (SeatsRefine new.lobby.statuses) (sym (ap seats_of connections ∙ seats-pushed old.connections.items client)) (SeatsRefine-more old.lobby new.lobby (seats_of old.connections.items) seat stand.seats moves);
        connections_stand = subst (λ codes. ConnectionsRefine list codes (machines ++ new_connection ∷ [])) (sym connections)
            (ConnectionsRefine-push list old.connections.items machines (Open client) new_connection stand.connections_stand
            (record { is_open = refl; inbound = inbound_stands; outbound = outbound_stands }));
        told = told-with transcript released machines (machines ++ new_connection ∷ []) list
            (ap (map (λ (bs : Vec ℕ Global). bs.items)) pushed ∙ map-append (λ (bs : Vec ℕ Global). bs.items) transcript.released.items (bytes ∷ [])
            ∙ ap₂ (λ (all : List (List ℕ)) (one : List ℕ). all ++ one ∷ []) stand.told.released none
            ∙ sym (map-append (λ (machine : MachineConnection). machine.outbound.released) machines (new_connection ∷ []))) stand.told;
        no_reply = replies ∙ stand.no_reply;
      };
      stays = λ not_did. cc;
    }

-- and the sequencer finds its seat open, with an idle session, as it is before the first call of a connection
pub seated-follow : (machines : List MachineConnection) (list : List Call) (old new : Connections) (transcript : Transcript) (client : Client) (s s' : Sequencing) → IsListOf machines list → SessionsRefine old transcript machines list → Moves old.lobby client.seat free taken new.lobby
    → new.connections.items ≡ old.connections.items ++ Open client ∷ [] → MovesSeat s client.seat (Some idle_session) s'
    → SeatsFollow list (seats_of old.connections.items) s → SeatsFollow list (seats_of new.connections.items) s'
seated-follow machines list old new transcript client s s' sound stand moves connections opens follow =
    subst (λ (seats : List (Option ℕ)). SeatsFollow list seats s') (sym (ap seats_of connections ∙ seats-pushed old.connections.items client)) (record {
      by_call = λ c other has shut. elim (has-pushed seats client.seat c other has) [
        | inl before ↦ follow.by_call c other before (ap is_shut (sym (kept c other before)) ∙ shut)
        | inr own ↦ absurd (both_ways (is_closed s' other) (ap is_shut (moved other own.1)) shut)
      ];
      session = λ c other has. elim (has-pushed seats client.seat c other has) [
        | inl before ↦ ap session_of (kept c other before) ∙ follow.session c other before
        | inr own ↦ ap session_of (moved other own.1) ∙ sym (session_of_new list c (sound.none c (omega (arith, own.0, length-map old.connections.items seat_of, entered))))
      ];
    })
  where
    seats : List (Option ℕ)
    seats = seats_of old.connections.items

    is_shut : Option Session → Bool
    is_shut session = not (is_some session)

    entered : length old.connections.items ≡ length machines
    entered = length-connections list old.connections.items machines stand.connections_stand

    moved : (other : ℕ) → other ≡ client.seat → slot s'.sessions other ≡ Some idle_session
    moved other same = ap (slot s'.sessions) same ∙ opens.sessions.moved

    kept : (c other : ℕ) → HasSeat seats c other → slot s'.sessions other ≡ slot s.sessions other
    kept c other has =
        opens.sessions.others other (λ same. free-not_taken (slice_get old.lobby.statuses client.seat) moves.was (stand.seats.are_taken c client.seat (subst (HasSeat seats c) same has)))

-- all seats are taken
pub full-goes : (machines : List MachineConnection) (list : List Call) (old new : Connections) (transcript : Transcript) {Moved : Type 0} → SessionsRefine old transcript machines list → All (λ status. status ≡ taken) old.lobby.statuses
    → new.lobby ≡ old.lobby → new.connections.items ≡ old.connections.items → new.replies.items ≡ old.replies.items
    → Goes (nat_lt (count_open machines) SEATS) false Moved (SessionsRefine new transcript machines list)
full-goes machines list old new transcript stand all lobby connections replies =
    record {
      done = sym (le-ltb (count_open machines) SEATS (omega (
        arith,
        all-taken old.lobby.statuses all,
        old.lobby.complete,
        stand.seats.count,
        open-seated list old.connections.items machines stand.connections_stand,
      )));
      goes = λ yes_did. cc;
      stays = λ _. record {
        seats = subst (λ (lobby : Book). SeatsRefine lobby.statuses (seats_of new.connections.items)) (sym lobby)
            (subst (λ codes. SeatsRefine old.lobby.statuses (seats_of codes)) (sym connections) stand.seats);
        connections_stand = subst (λ codes. ConnectionsRefine list codes machines) (sym connections) stand.connections_stand;
        told = stand.told;
        no_reply = replies ∙ stand.no_reply;
      };
    }

-- ---- none enters

set-back : {X : Type 0} (xs : List X) (i : ℕ) (old new : X) → slice_get xs i ≡ Some old → slice_set (slice_set xs i new) i old ≡ xs
set-back [] i old new was = refl
set-back (x ∷ xs) zero old new was = ap (λ y. y ∷ xs) (sym (some-same x old was))
  where
    some-same : {X : Type 0} (a b : X) → Some a ≡ Some b → a ≡ b
    some-same a b e = cc
set-back (x ∷ xs) (suc i) old new was = ap (λ ys. x ∷ ys) (set-back xs i old new was)

-- the seat that was taken is given back
pub returned-stands : (machines : List MachineConnection) (list : List Call) (old new : Connections) (transcript : Transcript) (released : Vec (Vec ℕ Global) Global) (between : Book) (seat : ℕ) → Moves old.lobby seat free taken between → (slice_get between.statuses seat ≡ Some taken → Moves between seat taken free new.lobby)
    → new.connections.items ≡ old.connections.items → released.items ≡ transcript.released.items → new.replies.items ≡ old.replies.items → SessionsRefine old transcript machines list → SessionsRefine new (with_released transcript released) machines list
returned-stands machines list old new transcript released between seat moves back connections same_released replies stand =
    let returns = back (ap (λ statuses. slice_get statuses seat) moves.becomes ∙ get-set_same old.lobby.statuses seat free taken moves.was) in
    let same : new.lobby.statuses ≡ old.lobby.statuses =
    returns.becomes ∙ ap (λ statuses. slice_set statuses seat free) moves.becomes ∙ set-back old.lobby.statuses seat free taken moves.was in
    record {
      seats = subst (λ (statuses : List Status). SeatsRefine statuses (seats_of new.connections.items)) (sym same)
          (subst (λ codes. SeatsRefine old.lobby.statuses (seats_of codes)) (sym connections) stand.seats);
      connections_stand = subst (λ codes. ConnectionsRefine list codes machines) (sym connections) stand.connections_stand;
      told = told-with transcript released machines machines list (ap (map (λ (bs : Vec ℕ Global). bs.items)) same_released ∙ stand.told.released) stand.told;
      no_reply = replies ∙ stand.no_reply;
    }

-- ---- a connection leaves

pub SeatsRefine-less : (before after : Book) (seats : List (Option ℕ)) (c seat : ℕ) → SeatsRefine before.statuses seats → HasSeat seats c seat → Moves before seat taken free after → SeatsRefine after.statuses (slice_set seats c None)
SeatsRefine-less before after seats c seat stand own moves =
    subst (λ (statuses : List Status). SeatsRefine statuses (slice_set seats c None)) (sym moves.becomes) (record {
      complete = ap length (sym moves.becomes) ∙ after.complete;
      are_taken = λ d other has.
          let before_has = has-cleared seats c d other has in
          get-set_other before.statuses seat other free (λ same. before_has.1 (stand.are_apart d c seat (subst (HasSeat seats d) same before_has.0) own)) ∙ stand.are_taken d other before_has.0;
      are_apart = λ d e other has has'. stand.are_apart d e other (has-cleared seats c d other has).0 (has-cleared seats c e other has').0;
      count = omega (arith, taken-less before.statuses seat moves.was, stand.count, seated-less seats c seat own);
    })

-- the connection at this index is now one without a seat
pub seats-cleared : (codes : List Connection) (c : ℕ) (new : Connection) → seat_of new ≡ None → seats_of (slice_set codes c new) ≡ slice_set (seats_of codes) c None
seats-cleared [] c new none = refl
seats-cleared (code ∷ codes) zero new none = ap (λ (seat : Option ℕ). seat ∷ seats_of codes) none
seats-cleared (code ∷ codes) (suc c) new none = ap (λ (seats : List (Option ℕ)). seat_of code ∷ seats) (seats-cleared codes c new none)

pub left-keeps : (codes : List Connection) (c : ℕ) (new : Connection) → seat_of new ≡ None → KeepsSeats codes (slice_set codes c new)
left-keeps codes c new none = λ d seat has. (has-cleared (seats_of codes) c d seat (subst (λ (seats : List (Option ℕ)). HasSeat seats d seat) (seats-cleared codes c new none) has)).0

pub has-at : (codes : List Connection) (c seat : ℕ) (code : Connection) → c < length codes → code ≡ slice_index_or codes c code → seat_of code ≡ Some seat → HasSeat (seats_of codes) c seat
has-at [] c seat code within is own = absurd (omega arith)
has-at (first ∷ codes) zero seat code within is own = ap (λ (x : Connection). Some (seat_of x)) (sym is) ∙ ap Some own
has-at (first ∷ codes) (suc c) seat code within is own = has-at codes c seat code (omega arith) is own

-- its seat was taken
pub own-taken : (machines : List MachineConnection) (list : List Call) (old : Connections) (transcript : Transcript) (c seat : ℕ) (code : Connection) → SessionsRefine old transcript machines list → c < length old.connections.items
    → code ≡ slice_index_or old.connections.items c code → seat_of code ≡ Some seat → slice_get old.lobby.statuses seat ≡ Some taken
own-taken machines list old transcript c seat code stand within is own = stand.seats.are_taken c seat (has-at old.connections.items c seat code within is own)

over-left : (calls : List Call) (new : Connection) (machine : MachineConnection) → seat_of new ≡ None → ConnectionRefines calls new (left machine)
over-left calls (Open client) machine none = cc
over-left calls Over machine none = refl

open-seated_one : (calls : List Call) (code : Connection) (seat : ℕ) (machine : MachineConnection) → seat_of code ≡ Some seat → ConnectionRefines calls code machine → machine.is_open ≡ true
open-seated_one calls (Open client) seat machine own stands = stands.is_open
open-seated_one calls Over seat machine own stands = cc

-- the connection had a seat, which is free again
pub left-goes : (machines : List MachineConnection) (list : List Call) (old new : Connections) (transcript : Transcript) (c seat : ℕ) (code code' : Connection) {Stayed : Type 0} → SessionsRefine old transcript machines list → c < length old.connections.items
    → code ≡ slice_index_or old.connections.items c code → seat_of code ≡ Some seat → seat_of code' ≡ None
    → Moves old.lobby seat taken free new.lobby → new.connections.items ≡ slice_set old.connections.items c code' → new.replies.items ≡ old.replies.items
    → Goes (is_open_at machines c) true (SessionsRefine new transcript (changed_at c left machines) list) Stayed
left-goes machines list old new transcript c seat code code' stand within is own none moves connections replies =
    let codes = old.connections.items in
    let here = connection-stands list c codes machines code within is stand.connections_stand in
    record {
      done = sym (open-seated_one list code seat (get_connection machines c) own here);
      goes = λ _. record {
        seats = subst (SeatsRefine new.lobby.statuses) (sym (ap seats_of connections ∙ seats-cleared codes c code' none))
            (SeatsRefine-less old.lobby new.lobby (seats_of codes) c seat stand.seats (has-at codes c seat code within is own) moves);
        connections_stand = subst (λ codes'. ConnectionsRefine list codes' (changed_at c left machines)) (sym connections)
            (ConnectionsRefine-changed list c codes machines code' left stand.connections_stand (over-left list code' (get_connection machines c) none));
        told = told-changed transcript machines list c left (λ machine. refl) stand.told;
        no_reply = replies ∙ stand.no_reply;
      };
      stays = λ not_did. cc;
    }

-- the connection at this index has no other seat
has-own : (codes : List Connection) (c seat : ℕ) (code : Connection) → code ≡ slice_index_or codes c code → HasSeat (seats_of codes) c seat → seat_of code ≡ Some seat
has-own [] c seat code is has = cc
has-own (first ∷ codes) zero seat code is has = ap seat_of is ∙ some-same (seat_of first) (Some seat) has
  where
    some-same : (a b : Option ℕ) → Some a ≡ Some b → a ≡ b
    some-same a b e = cc
has-own (first ∷ codes) (suc c) seat code is has = has-own codes c seat code is has

pub none-seated : (codes : List Connection) (c seat : ℕ) (code : Connection) → code ≡ slice_index_or codes c code → seat_of code ≡ None → HasSeat (seats_of codes) c seat → ⊥
none-seated codes c seat code is none has = let own : seat_of code ≡ Some seat = has-own codes c seat code is has in cc

-- nor has one that there is not
pub none-seated_past : (codes : List Connection) (c seat : ℕ) → length codes ≤ c → HasSeat (seats_of codes) c seat → ⊥
none-seated_past [] c seat past has = cc
none-seated_past (code ∷ codes) zero seat past has = absurd (omega arith)
none-seated_past (code ∷ codes) (suc c) seat past has = none-seated_past codes c seat (omega arith) has

-- its seat is the one that it gave back
pub closes-own : (codes : List Connection) (c own : ℕ) (code : Connection) (s s' : Sequencing) → code ≡ slice_index_or codes c code → seat_of code ≡ Some own → MovesSeat s own None s'
    → (seat : ℕ) → HasSeat (seats_of codes) c seat → MovesSeat s seat None s'
closes-own codes c own code s s' is has moves seat seated =
    let its : seat_of code ≡ Some seat = has-own codes c seat code is seated in
    let same : own ≡ seat = cc in
    subst (λ n. MovesSeat s n None s') same moves

-- the seats of the other connections are others, so they follow as before
pub left-follow : (machines : List MachineConnection) (list : List Call) (old : Connections) (transcript : Transcript) (c seat : ℕ) (code code' : Connection) (s s' : Sequencing) → SessionsRefine old transcript machines list → c < length old.connections.items
    → code ≡ slice_index_or old.connections.items c code → seat_of code ≡ Some seat → seat_of code' ≡ None → MovesSeat s seat None s'
    → SeatsFollow list (seats_of old.connections.items) s → SeatsFollow list (seats_of (slice_set old.connections.items c code')) s'
left-follow machines list old transcript c seat code code' s s' stand within is own none closes follow =
    let codes = old.connections.items in
    follow-same list (seats_of codes) (seats_of (slice_set codes c code')) s s' (λ d other has.
    let before = has-cleared (seats_of codes) c d other (subst (λ (seats : List (Option ℕ)). HasSeat seats d other) (seats-cleared codes c code' none) has) in (
      before.0,
      closes.sessions.others other (λ same. before.1 (stand.seats.are_apart d c seat (subst (HasSeat (seats_of codes) d) same before.0) (has-at codes c seat code within is own))),
    )) follow

-- ---- no seat is given

-- they stay what they are while no connection gets another seat
pub follow-kept : (calls : List Call) (old new : List Connection) (s : Sequencing) → KeepsSeats old new → SeatsFollow calls (seats_of old) s → SeatsFollow calls (seats_of new) s
follow-kept calls old new s keeps follow = follow-same calls (seats_of old) (seats_of new) s s (λ c seat has. (keeps c seat has, refl)) follow
