-- The laws of every run, stated.
use Rattle.std.specs.Prelude.{◌≡◌, ◌⊎◌, ℕ, ◌+◌, ◌<◌, ◌≤◌, Bool, true, false, List, [], ◌∷◌, ◌++◌, length, take, drop, All}
use Rattle.kv_types.specs.declared.limits.TheConstants.{REQUEST_LIMITS}
use Rattle.kv_types.specs.declared.reply.Held.{Held}
use Rattle.kv_types.specs.Reading.{items_at}
use Rattle.model.specs.declared.call.Call.{Call}
use Rattle.model.specs.Call.{IsLegal, IsPrefix, Serves, calls_of, cut_at, items_of, keyspace_after, position_of, replies_to}
use Rattle.machine.specs.declared.event.Event.{Event}
use Rattle.machine.specs.declared.event.Event.TheVariants.{AckDelivered, Apply, Crash, Deliver, FailFence, OpenLink, Promote, RaiseRemote, Reopen, Send}
use Rattle.machine.specs.declared.event.Node.TheVariants as node
use Rattle.machine.specs.Event.{Follower, Uncopied, due_from, Allowed, World, Span, Step, may_happen, next_to_send, Run, start_with, last_world, connection_of, is_open, count_open, asked, spans_of, texts_of, is_enabled, is_retired, is_running, safe_position}
use Rattle.machine.specs.Promise.{IsReleased, released_in, fed_to}
use Rattle.machine.specs.Sound.{HasNothing, IsChain, IsFrameWithin, IsToldWithin, Sound, answers_to}
use Rattle.machine.specs.declared.event.TheConstants.{SEATS}

-- `P` holds of the world after every run, and so of each world of a run, since a prefix of a run is a run
abbrev pub AfterEveryRun : (World → Type 0) → Type 0
AfterEveryRun P = (allowed : Allowed) (events : List Event) (done : List Bool) (worlds : List World) → Run (start_with allowed) events done worlds → P (last_world (start_with allowed) worlds)

-- ---- runs

abbrev pub EveryWorldIsSound : Type 0
EveryWorldIsSound = (allowed : Allowed) (events : List Event) (done : List Bool) (worlds : List World) → Run (start_with allowed) events done worlds → All Sound (start_with allowed ∷ worlds)

-- a prefix of a run is a run, and the rest is a run from where the prefix ends
abbrev pub PrefixesAreRuns : Type 0
PrefixesAreRuns =
    (n : ℕ) (w : World) (events : List Event) (done : List Bool) (worlds : List World) → Run w events done worlds
    → Run w (take n events) (take n done) (take n worlds) × Run (last_world w (take n worlds)) (drop n events) (drop n done) (drop n worlds)

-- a run followed by a step is a run
abbrev pub RunsGoOn : Type 0
RunsGoOn =
    (w : World) (events : List Event) (done : List Bool) (worlds : List World) (event : Event) (did : Bool) (new : World)
    → Run w events done worlds → Step (last_world w worlds) event did new → Run w (events ++ event ∷ []) (done ++ did ∷ []) (worlds ++ new ∷ [])

-- A later world of the same primary: what its image holds of the list of calls stays in it, and its position does not fall.
abbrev pub GrowsWithin : World → World → Type 0
GrowsWithin old new =
    IsPrefix (cut_at old.primary.calls old.primary.committer.position) new.primary.calls × (old.primary.committer.position ≤ new.primary.committer.position)

-- A later world, perhaps of a later primary: the list keeps its calls up to the position that is safe, and other lists only grow at the end.
pub record Grows (old new : World) : Type 0 where
  pub epoch : old.primary.epoch ≤ new.primary.epoch
  pub safe : safe_position old ≤ safe_position new
  pub kept : IsPrefix (cut_at old.primary.calls (safe_position old)) new.primary.calls
  pub released : (c : ℕ) → IsPrefix (released_in old c) (released_in new c)
  pub came : old.came ≤ new.came
  -- while the same node follows
  pub frames : new.came ≡ old.came → IsPrefix old.wire.frames new.wire.frames
  pub acknowledgements : new.came ≡ old.came → IsPrefix old.wire.acknowledgements new.wire.acknowledgements
  -- of the same primary
  pub within : new.primary.epoch ≡ old.primary.epoch → GrowsWithin old new

abbrev pub WorldsGrow : Type 0
WorldsGrow =
    (allowed : Allowed) (n : ℕ) (events : List Event) (done : List Bool) (worlds : List World) → Run (start_with allowed) events done worlds → Grows (last_world (start_with allowed) (take n worlds)) (last_world (start_with allowed) worlds)

-- the keyspace at a position that is safe stays the same, whatever happens later; and of the same primary that at a position which its image has reached
abbrev pub CutsStay : Type 0
CutsStay =
    (allowed : Allowed) (n : ℕ) (events : List Event) (done : List Bool) (worlds : List World) → Run (start_with allowed) events done worlds
    → let old = last_world (start_with allowed) (take n worlds) in
    let new = last_world (start_with allowed) worlds in
    (p : ℕ) → (p ≤ safe_position old) ⊎ ((new.primary.epoch ≡ old.primary.epoch) × (p ≤ old.primary.committer.position))
    → keyspace_after (cut_at new.primary.calls p) ≡ keyspace_after (cut_at old.primary.calls p)

-- ---- calls

abbrev pub EveryListIsLegal : Type 0
EveryListIsLegal = AfterEveryRun (λ w. IsLegal w.primary.calls)

-- each connection's calls take the requests of the bytes that were fed to it, in order
abbrev pub EveryListServes : Type 0
EveryListServes =
    (allowed : Allowed) (events : List Event) (done : List Bool) (worlds : List World) → Run (start_with allowed) events done worlds
    → Serves (λ c. items_at REQUEST_LIMITS (fed_to c events done)) (last_world (start_with allowed) worlds).primary.calls

-- the items of an open connection that were handed to the sequencer are those of its calls and then those that wait
abbrev pub ItemsComeInOrder : Type 0
ItemsComeInOrder =
    AfterEveryRun (λ w. (c : ℕ) → is_open w c ≡ true → let inbound = (connection_of w c).inbound in items_of c w.primary.calls ++ inbound.waiting ≡ take inbound.offered (asked inbound.fed))

-- ---- replies

-- what was released to an open connection and then what waits is the text of the replies to its calls
abbrev pub RepliesAddUp : Type 0
RepliesAddUp =
    AfterEveryRun (λ w. (c : ℕ) → is_open w c ≡ true → let outbound = (connection_of w c).outbound in
    outbound.released ++ (outbound.pending ++ (texts_of outbound.held ++ texts_of outbound.made)) ≡ replies_to c w.primary.calls)

-- the waiting replies are those of the last of an open connection's calls, each with the position of the list after its call
abbrev pub RepliesBearPositions : Type 0
RepliesBearPositions =
    AfterEveryRun (λ w. (c : ℕ) → is_open w c ≡ true → let outbound = (connection_of w c).outbound in (out : List Held) × (out ++ (outbound.held ++ outbound.made) ≡ answers_to c w.primary.calls))

-- and `answers_to` has, for each call of the connection, its reply with that position
abbrev pub AnswersBearPositions : Type 0
AnswersBearPositions =
    (prefix : List Call) (call : Call) (rest : List Call)
    → IsPrefix (answers_to call.connection prefix ++ record { reply = call.reply; position = position_of (prefix ++ call ∷ []) } ∷ []) (answers_to call.connection (prefix ++ call ∷ rest))

-- both images hold each released call
abbrev pub ReleasedIsHeld : Type 0
ReleasedIsHeld =
    AfterEveryRun (λ w. (prefix : List Call) (call : Call) → IsReleased w.primary.calls (released_in w) prefix call
    → (position_of (prefix ++ call ∷ []) ≤ w.primary.committer.position) × (position_of (prefix ++ call ∷ []) ≤ w.standby.position))

-- ---- connections that are over

-- a connection that is over stays as it was: nothing is fed, called, released or written to it any more; of its calls those go that a crash took
pub record StaysOver (c : ℕ) (old new : World) : Type 0 where
  pub entered : c < length new.primary.connections
  pub connection : connection_of new c ≡ connection_of old c
  pub calls : IsPrefix (calls_of c new.primary.calls) (calls_of c old.primary.calls)

abbrev pub ConnectionsStayOver : Type 0
ConnectionsStayOver =
    (allowed : Allowed) (n : ℕ) (events : List Event) (done : List Bool) (worlds : List World) → Run (start_with allowed) events done worlds
    → let old = last_world (start_with allowed) (take n worlds) in
    (c : ℕ) → c < length old.primary.connections → is_open old c ≡ false → StaysOver c old (last_world (start_with allowed) worlds)

-- nothing of it waits
abbrev pub NothingWaitsOver : Type 0
NothingWaitsOver = AfterEveryRun (λ w. (c : ℕ) → is_open w c ≡ false → HasNothing (connection_of w c))

-- no more connections enter than events happen
abbrev pub ConnectionsAreFew : Type 0
ConnectionsAreFew = (allowed : Allowed) (events : List Event) (done : List Bool) (worlds : List World) → Run (start_with allowed) events done worlds → length (last_world (start_with allowed) worlds).primary.connections ≤ length events

-- there is a seat for each open connection
abbrev pub OpenOnesHaveSeats : Type 0
OpenOnesHaveSeats = AfterEveryRun (λ w. count_open w.primary.connections ≤ SEATS)

-- ---- positions

-- no mark is above what it shows, and the standby is not ahead of the primary
pub record IsInOrder (w : World) : Type 0 where
  pub local : w.primary.committer.local ≤ w.primary.committer.position
  pub primary : w.primary.committer.position ≤ w.primary.committer.closed
  pub closed : w.primary.committer.closed ≤ position_of w.primary.calls
  pub remote : w.primary.link.remote ≤ w.primary.link.known
  pub known : w.primary.link.known ≤ w.standby.position
  pub standby : w.standby.position ≤ w.primary.committer.position
  pub acknowledged : All (IsToldWithin w.primary.epoch w.standby.position) w.wire.acknowledgements
  -- both nodes are of one epoch, and nothing on the wire is of a later one
  pub epoch : w.standby.epoch ≡ w.primary.epoch
  pub frames : All (λ frame. frame.epoch ≤ w.primary.epoch) w.wire.frames
  -- the numbers of an open connection's gate are at most the marks
  pub read_local : (c : ℕ) → is_open w c ≡ true → (connection_of w c).outbound.seen.local ≤ w.primary.committer.local
  pub read_remote : (c : ℕ) → is_open w c ≡ true → (connection_of w c).outbound.seen.remote ≤ w.primary.link.remote

abbrev pub PositionsAreInOrder : Type 0
PositionsAreInOrder = AfterEveryRun IsInOrder

-- ---- groups and frames

-- the groups that wait for the committer lead from its record's position to the position up to which groups were closed
abbrev pub GroupsAreInOrder : Type 0
GroupsAreInOrder = AfterEveryRun (λ w. IsChain w.primary.committer.position (spans_of w.primary.committer.waiting) w.primary.committer.closed)

-- each frame of the primary's epoch, sent or waiting at the standby, tells only changes that the primary committed
abbrev pub FramesAreCommitted : Type 0
FramesAreCommitted =
    AfterEveryRun (λ w. let within = IsFrameWithin w.primary.epoch w.standby.role w.standby.position w.primary.committer.position in All within w.wire.frames × All within w.standby.waiting)

-- where the link opens to a standby that is behind the position at which the primary was opened, or to which groups were dropped, what is sent next leads it from where
-- it stands to there
abbrev pub WhoIsBehindGetsADelta : Type 0
WhoIsBehindGetsADelta =
    (old new : World) → Step old OpenLink true new → old.standby.role ≡ Follower → old.standby.position < due_from old.primary
    → let delta : Span = record { before = old.standby.position; after = due_from old.primary } in
    (next_to_send new.primary.link ≡ delta ∷ []) × (may_happen new Send ≡ true)

-- ---- what has not happened

-- no RaiseRemote among these did its step
abbrev pub RaisesNoRemote : List Event → List Bool → Type 0
RaisesNoRemote (RaiseRemote ∷ events) (true ∷ done) = ⊥
RaisesNoRemote (event ∷ events) (did ∷ done) = RaisesNoRemote events done
RaisesNoRemote events done = Unit {0}

-- unless one did, no reply is released that rests on a change
abbrev pub NothingIsReleasedUnacknowledged : Type 0
NothingIsReleasedUnacknowledged =
    (allowed : Allowed) (events : List Event) (done : List Bool) (worlds : List World) → Run (start_with allowed) events done worlds → RaisesNoRemote events done
    → let w = last_world (start_with allowed) worlds in
    (prefix : List Call) (call : Call) → IsReleased w.primary.calls (released_in w) prefix call → position_of (prefix ++ call ∷ []) ≡ 0

-- a frame that was not sent is not delivered, and neither is an acknowledgement that was not made
abbrev pub OnlyWhatWasMadeIsDelivered : Type 0
OnlyWhatWasMadeIsDelivered =
    (w : World) (n piece : ℕ) → (length w.wire.frames ≤ n → is_enabled w (Deliver n piece) ≡ false) × (length w.wire.acknowledgements ≤ n → is_enabled w (AckDelivered n) ≡ false)

-- ---- fenced failover

-- what may still happen where the primary was fenced, or else is gone: what the standby does by itself, until it is promoted
abbrev pub is_of_standby : Event → Bool
is_of_standby (Deliver frame piece) = true
is_of_standby Apply = true
is_of_standby (FailFence node.Standby n) = true
is_of_standby (Crash node.Standby call k picks) = true
is_of_standby (Reopen node.Standby) = true
is_of_standby Promote = true
is_of_standby event = false

-- no event of a primary that was fenced happens
abbrev pub NothingHappensFenced : Type 0
NothingHappensFenced = (w : World) (event : Event) → is_retired w.primary.life ≡ true → is_of_standby event ≡ false → is_enabled w event ≡ false

-- a standby is promoted only where its primary was fenced
abbrev pub OnlyFencedIsSucceeded : Type 0
OnlyFencedIsSucceeded = (w : World) → is_retired w.primary.life ≡ false → is_enabled w Promote ≡ false

-- and one that has no copy yet is not
abbrev pub NoNewcomerIsPromoted : Type 0
NoNewcomerIsPromoted = (w : World) → w.standby.role ≡ Uncopied → is_enabled w Promote ≡ false

-- What a promotion makes: the list up to the standby's position, no open connection, no reply that is covered yet, and the next epoch.
pub record IsSucceededBy (old new : World) : Type 0 where
  pub calls : new.primary.calls ≡ cut_at old.primary.calls old.standby.position
  pub position : new.primary.committer.position ≡ old.standby.position
  pub local : new.primary.committer.local ≡ old.standby.position
  pub remote : new.primary.link.remote ≡ 0
  pub epoch : new.primary.epoch ≡ old.primary.epoch + 1
  pub over : (c : ℕ) → is_open new c ≡ false
  pub released : (c : ℕ) → released_in new c ≡ released_in old c

abbrev pub PromotionsSucceed : Type 0
PromotionsSucceed =
    AfterEveryRun (λ old. (new : World) → Step old Promote true new → is_running new.primary.life ≡ true → IsSucceededBy old new)

-- what a crash makes of the list: a beginning of it, which holds each call that was released
pub record IsCutBy (old new : World) : Type 0 where
  pub position : ℕ
  pub calls : new.primary.calls ≡ cut_at old.primary.calls position
  pub safe : safe_position old ≤ position
