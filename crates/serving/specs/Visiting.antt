-- How connections are visited that somebody called for, or that were not done.
use Rattle.std.specs.Prelude.{◌≡◌, ◌⊎◌, ℕ, zero, suc, ◌+◌, ◌≤◌, if◌then◌else◌, Bool, true, false, List, [], ◌∷◌, ◌++◌, length, map, Option, Some, None}
use Rattle.std.specs.List.{remove}
use Rattle.multi_watch.specs.Session.{idle_session}
use Rattle.redis_core.specs.Sequencing.{MovesSeat, Sequencing}
use Rattle.serving.specs.Again.{Lists, StandsAt}
use Rattle.serving.specs.Callers.{answers_of}
use Rattle.serving.specs.Ending.{EndTurns}
use Rattle.serving.specs.Filling.{closed_at, free_parts, share_of}
use Rattle.serving.specs.Places.{PutsAt, connection_at}
use Rattle.serving.specs.Roomed.{TurnsByNeed}
use Rattle.serving.specs.Turns.{TakesTurns}
use Rattle.serving.specs.declared.filling.Filling.{Filling}
use Rattle.serving.specs.declared.open_connection.OpenConnection.{OpenConnection}
use Rattle.serving.specs.declared.open_connections.OpenConnections.{OpenConnections}
use Rattle.serving.specs.declared.open_connections.TheConstants.{MOST_CALLS}
use Rattle.serving.specs.declared.turns.Served.{Served}
use Rattle.serving.specs.declared.turns.Served.TheVariants as ended

-- What a visit may change: the places, the seats that wait to be served, who has waited longest first, whether a request waits for room, what waits to be in the
-- next group, and the sequencer.
pub record Floor : Type 0 where
  pub places : List (Option OpenConnection)
  pub again : List ℕ
  pub is_short : Bool
  pub filling : Filling
  pub sequencer : Sequencing

abbrev pub floor_of : OpenConnections → Sequencing → Floor
floor_of connections s = record {
  places = connections.places.connections.items;
  again = connections.again;
  is_short = connections.is_short;
  filling = connections.filling;
  sequencer = s;
}

-- The connection is back at its place, and comes last in the list, unless as many are there as there are seats.
abbrev pub StaysListed : OpenConnection → ℕ → Floor → Floor → Type 0
StaysListed connection number old new =
    (is_listed : Bool) × PutsAt number (Some (record connection { is_again = is_listed })) old.places new.places × Lists number old.again new.again is_listed

-- who stands there in the list is taken out of it
abbrev pub without : ℕ → Floor → Floor
without at old = record old { again = remove old.again at }

-- whether who was visited is passed over: it waits, and was answered nothing
abbrev pub is_passed : Served → Bool → Bool
is_passed ended.Waits false = true
is_passed _ _ = false

-- Where a connection goes that stood there in the list, whose turns ended so: one that waits and was answered nothing keeps where it stands; one that is to be
-- served again comes last; one that is over leaves its place, and its seat is closed.
abbrev pub Goes : Served → Bool → OpenConnection → ℕ → ℕ → Floor → Sequencing → Floor → Type 0
Goes ended.Over any connection number at old between new =
    PutsAt number None old.places new.places × (new.again ≡ remove old.again at) × MovesSeat between connection.arrival.seat None new.sequencer
Goes ended.Idle any connection number at old between new =
    PutsAt number (Some (record connection { is_again = false })) old.places new.places × (new.again ≡ remove old.again at) × (new.sequencer ≡ between)
Goes ended.Busy any connection number at old between new = StaysListed connection number (without at old) new × (new.sequencer ≡ between)
Goes ended.Waits true connection number at old between new = StaysListed connection number (without at old) new × (new.sequencer ≡ between)
Goes ended.Waits false connection number at old between new = PutsAt number (Some connection) old.places new.places × (new.again ≡ old.again) × (new.sequencer ≡ between)

-- The connection of this seat, which stands there in the list, got its turns: of the group no more than its share.
pub record VisitsOne (share number at : ℕ) (connection : OpenConnection) (old new : Floor) (passed : Bool) : Type 0 where
  pub of_seat : connection.arrival.seat ≡ number
  pub between : Sequencing
  pub after : OpenConnection
  pub any : Bool
  pub came : Served
  pub turns : TakesTurns old.sequencer connection any between after
  pub is_working : Bool
  pub needs : TurnsByNeed is_working old.is_short old.sequencer connection old.filling after new.filling
  pub few : between.position ≤ old.sequencer.position + share
  pub ends : EndTurns share new.filling old.is_short old.sequencer connection any between after came
  pub goes : Goes came any after number at old between new
  pub passed_is : passed ≡ is_passed came any

-- nobody is anywhere else
pub record Stays (old new : Floor) : Type 0 where
  pub places : (k : ℕ) → connection_at new.places k ≡ connection_at old.places k
  pub again : new.again ≡ old.again
  pub is_short : new.is_short ≡ old.is_short
  pub filling : new.filling ≡ old.filling
  pub sequencer : new.sequencer ≡ old.sequencer

-- Who is at the place of this seat, which stands there in the list, is visited; where nobody is, the seat leaves the list.
abbrev pub VisitsPlace : Option OpenConnection → ℕ → ℕ → ℕ → Floor → Floor → Bool → Type 0
VisitsPlace None share number at old new passed = Stays (without at old) new × (passed ≡ false)
VisitsPlace (Some connection) share number at old new passed = VisitsOne share number at connection old new passed

abbrev pub Visits : ℕ → ℕ → ℕ → Floor → Floor → Bool → Type 0
Visits share number at old new passed = VisitsPlace (connection_at old.places number) share number at old new passed

-- how much of the group the next of so many gets
abbrev pub share_at : Floor → ℕ → ℕ
share_at floor waiting = share_of (free_parts floor.filling.closed floor.sequencer.position) waiting

-- So many of the list are still to be visited, one after the other, behind those that were passed over: each gets its share of what is then free of the group.
-- Where nothing is free, all that are left wait where they stand. So who was passed over, or not reached, stands before all that were answered something.
abbrev pub VisitsFrom : ℕ → ℕ → Floor → Floor → Type 0
VisitsFrom zero at old new = new ≡ old
VisitsFrom (suc left) at old new =
    ((share_at old (suc left) ≡ 0) × (new ≡ old)) ⊎ (StandsAt old.again at None × (new ≡ old))
    ⊎ ((number : ℕ) × (passed : Bool) × (between : Floor) × StandsAt old.again at (Some number) × Visits (share_at old (suc left)) number at old between passed
    × VisitsFrom left (if passed then at + 1 else at) between new)

-- A connection comes last in the list of those that wait to be served.
pub record IsListed (connection : OpenConnection) (number : ℕ) (old new : Floor) : Type 0 where
  pub put : StaysListed connection number old new
  pub is_short : new.is_short ≡ old.is_short
  pub filling : new.filling ≡ old.filling
  pub sequencer : new.sequencer ≡ old.sequencer

-- Who was called waits to be served, if it does not already.
abbrev pub HeedsPlace : Option OpenConnection → ℕ → Floor → Floor → Type 0
HeedsPlace None number old new = Stays old new
HeedsPlace (Some connection) number old new = ((connection.is_again ≡ true) × Stays old new) ⊎ ((connection.is_again ≡ false) × IsListed connection number old new)

abbrev pub Heeds : ℕ → Floor → Floor → Type 0
Heeds number old new = HeedsPlace (connection_at old.places number) number old new

-- Those who were called are, one after the other.
abbrev pub HeedsEach : List ℕ → Floor → Floor → Type 0
HeedsEach [] old new = new ≡ old
HeedsEach (number ∷ numbers) old new = (between : Floor) × Heeds number old between × HeedsEach numbers between new

-- The list of those who called was asked until it answered that nobody had, or most were heeded; and all whom it answered were heeded, in order.
pub record HeedsCalls (asked asked' : List (Option ℕ)) (old new : Floor) : Type 0 where
  pub numbers : List ℕ
  pub heeds : HeedsEach numbers old new
  pub asks : ((asked' ≡ asked ++ map Some numbers) × (length numbers ≡ MOST_CALLS)) ⊎ (asked' ≡ (asked ++ map Some numbers) ++ None ∷ [])

-- A connection that has arrived is admitted: its seat is opened, with an idle session, and it is served in the next round.
pub record Admits (old new : Floor) : Type 0 where
  pub connection : OpenConnection
  pub opened : MovesSeat old.sequencer connection.arrival.seat (Some idle_session) new.sequencer
  pub put : StaysListed connection connection.arrival.seat old new
  pub is_short : new.is_short ≡ old.is_short
  pub filling : new.filling ≡ old.filling

-- The entrance was asked once who waits there. Where nobody does, nothing is done.
pub record AsksEntrance (asked asked' : List (Option ℕ)) (old new : Floor) : Type 0 where
  pub answer : Option ℕ
  pub asks : asked' ≡ asked ++ answer ∷ []
  pub nobody : answer ≡ None → Stays old new

-- Somebody may have been admitted, and who was called is listed; then all that are in the list are visited, in the order in which they have waited. All changes
-- up to `closed` are in groups.
pub record ServesRound (closed : ℕ) (before after : OpenConnections) (old new : Sequencing) : Type 0 where
  pub admitted : Floor
  pub admits : Admits (floor_of before old) admitted ⊎ Stays (floor_of before old) admitted
  pub asks : AsksEntrance (answers_of before.callers.arrivals) (answers_of after.callers.arrivals) (floor_of before old) admitted
  pub called : Floor
  pub heeds : HeedsCalls (answers_of before.callers.answers) (answers_of after.callers.answers) admitted called
  pub visits : VisitsFrom (length called.again) 0 (record called { is_short = false; filling = closed_at called.filling closed }) (floor_of after new)
