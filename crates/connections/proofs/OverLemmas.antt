-- All connections are over, and their seats are free.
use Rattle.std.proofs.Common.{◌≡◌, ℕ, suc, ◌+◌, ◌<◌, ◌≤◌, ◌++◌, true, false, nat_lt, List, [], ◌∷◌, length, map, take, Option, Some, None, Vec, Global, slice_get, slice_index_or, slice_set, refl, sym, ap, subst, ◌∙◌, arith}
use Rattle.std.specs.Vec.{vec_capacity}
use Rattle.std.proofs.Math.Seq.{map-set_same, take-append_seam}
use Rattle.std.proofs.lemmas.Bool.{ltb-true, ltb-false}
use Rattle.lobby.specs.Book.{Book, Moves, free, taken}
use Rattle.model.specs.declared.call.Call.{Call}
use Rattle.model.specs.Call.{cut_at}
use Rattle.machine.specs.Connection.{Connection as MachineConnection, left}
use Rattle.connections.specs.declared.connection.Connection.{Connection}
use Rattle.connections.specs.declared.connection.Connection.TheVariants.{Open, Over}
use Rattle.connections.specs.declared.connections.Connections.{Connections}
use Rattle.connections.specs.declared.transcript.Transcript.{Transcript}
use Rattle.connections.specs.Session.{ConnectionRefines, ConnectionsRefine, HasSeat, SeatsRefine, SessionsRefine, positions_of, seat_of, seats_of}
use Rattle.connections.proofs.SessionLemmas.{released_by}
use Rattle.connections.proofs.SeatLemmas.{SeatsRefine-less, has-at, has-cleared, none-seated_past, seats-cleared}

-- none of the first connections has a seat
abbrev pub NoneSeated : List (Option ℕ) → ℕ → Type 0
NoneSeated seats count = (c seat : ℕ) → c < count → HasSeat seats c seat → ⊥

-- the next one has none any more
pub none-seated_next : (codes : List Connection) (count : ℕ) (new : Connection) → seat_of new ≡ None → NoneSeated (seats_of codes) count → NoneSeated (seats_of (slice_set codes count new)) (count + 1)
none-seated_next codes count new none before c seat lt has =
    let was = has-cleared (seats_of codes) count c seat (subst (λ (seats : List (Option ℕ)). HasSeat seats c seat) (seats-cleared codes count new none) has) in
    before c seat (omega (arith, lt, was.1)) was.0

-- none has one where none of the first ones has, as many as there are
pub none-seated : (codes rest : List Connection) (count n : ℕ) → n ≡ length codes → length codes ≤ count → NoneSeated (seats_of codes) count → (c seat : ℕ) → HasSeat (seats_of (take n (codes ++ rest))) c seat → ⊥
none-seated codes rest count n all within none c seat has =
    let same : take n (codes ++ rest) ≡ codes = ap (λ m. take m (codes ++ rest)) all ∙ take-append_seam codes rest in
    let own : HasSeat (seats_of codes) c seat = subst (λ (xs : List Connection). HasSeat (seats_of xs) c seat) same has in
    elim (nat_lt c (length codes)) as (λ b. nat_lt c (length codes) ≡ b → ⊥) [
      | true ↦ λ e. none c seat (omega (arith, within, ltb-true c (length codes) e)) own
      | false ↦ λ e. none-seated_past codes c seat (ltb-false c (length codes) e) own
    ] refl

-- its seat is free again
pub ended-seats : (before after : Book) (codes : List Connection) (c seat : ℕ) (code new : Connection) → c < length codes → code ≡ slice_index_or codes c code → seat_of code ≡ Some seat → seat_of new ≡ None
    → (slice_get before.statuses seat ≡ Some taken → Moves before seat taken free after) → SeatsRefine before.statuses (seats_of codes) → SeatsRefine after.statuses (seats_of (slice_set codes c new))
ended-seats before after codes c seat code new within is own none moves stand =
    let has = has-at codes c seat code within is own in
    subst (SeatsRefine after.statuses) (sym (seats-cleared codes c new none)) (SeatsRefine-less before after (seats_of codes) c seat stand has (moves (stand.are_taken c seat has)))

-- it had none
pub over-seats : (book : Book) (codes : List Connection) (c : ℕ) (code new : Connection) → code ≡ slice_index_or codes c code → seat_of code ≡ None → seat_of new ≡ None
    → SeatsRefine book.statuses (seats_of codes) → SeatsRefine book.statuses (seats_of (slice_set codes c new))
over-seats book codes c code new is was none stand =
    subst (SeatsRefine book.statuses) (sym (map-set_same seat_of codes c new code (none ∙ sym was ∙ ap seat_of is))) stand

-- ---- all of them

one-over : (later : List Call) (new : Connection) (machine : MachineConnection) → ((seat : ℕ) → seat_of new ≡ Some seat → ⊥) → ConnectionRefines later new (left machine)
one-over later (Open client) machine none = absurd (none client.seat refl)
one-over later Over machine none = refl

all-over : (calls later : List Call) (old new : List Connection) (machines : List MachineConnection) → ((c seat : ℕ) → HasSeat (seats_of new) c seat → ⊥) → length new ≡ length old
    → ConnectionsRefine calls old machines → ConnectionsRefine later new (map left machines)
all-over calls later [] [] [] none same stand = tt
all-over calls later [] [] (machine ∷ machines) none same stand = absurd stand
all-over calls later [] (code' ∷ new) machines none same stand = cc
all-over calls later (code ∷ old) [] machines none same stand = cc
all-over calls later (code ∷ old) (code' ∷ new) [] none same stand = absurd stand
all-over calls later (code ∷ old) (code' ∷ new) (machine ∷ machines) none same stand =
    (one-over later code' machine (λ seat own. none 0 seat (ap Some own)), all-over calls later old new machines (λ c seat has. none (suc c) seat has) (omega (arith, same)) stand.1)

left-released : (machines : List MachineConnection) → released_by (map left machines) ≡ released_by machines
left-released [] = refl
left-released (machine ∷ machines) = ap (λ (all : List (List ℕ)). machine.outbound.released ∷ all) (left-released machines)

-- the connections and the list of calls after a crash
pub crashed-stands : (old new : Connections) (transcript after : Transcript) (machines : List MachineConnection) (calls : List Call) (position : ℕ) → SessionsRefine old transcript machines calls
    → (SeatsRefine old.lobby.statuses (seats_of old.connections.items) → SeatsRefine new.lobby.statuses (seats_of new.connections.items))
    → ((c seat : ℕ) → HasSeat (seats_of new.connections.items) c seat → ⊥) → length new.connections.items ≡ length old.connections.items
    → (transcript.positions.items ≡ positions_of transcript.calls.items → after.calls.items ≡ cut_at transcript.calls.items position)
    → (transcript.positions.items ≡ positions_of transcript.calls.items → after.positions.items ≡ positions_of after.calls.items)
    → (vec_capacity after.calls ≡ vec_capacity transcript.calls) × (vec_capacity after.positions ≡ vec_capacity transcript.positions) → after.released ≡ transcript.released → new.replies.items ≡ old.replies.items
    → SessionsRefine new after (map left machines) (cut_at calls position)
crashed-stands old new transcript after machines calls position stand seats none count calls_now positions_now room released replies =
    let told = stand.told in
    let before : transcript.positions.items ≡ positions_of transcript.calls.items = told.positions ∙ ap positions_of (sym told.calls_are) in
    let now : after.calls.items ≡ cut_at calls position = calls_now before ∙ ap (λ (cs : List Call). cut_at cs position) told.calls_are in
    record {
      seats = seats stand.seats;
      connections_stand = all-over calls (cut_at calls position) old.connections.items new.connections.items machines none count stand.connections_stand;
      told = record {
        calls_are = now;
        positions = positions_now before ∙ ap positions_of now;
        positions_room = omega (arith, room.0, room.1, told.positions_room);
        released = ap (λ (all : Vec (Vec ℕ Global) Global). map (λ (bytes : Vec ℕ Global). bytes.items) all.items) released ∙ told.released ∙ sym (left-released machines);
      };
      no_reply = replies ∙ stand.no_reply;
    }
