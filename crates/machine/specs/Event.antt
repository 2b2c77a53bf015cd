-- The pair of nodes as a machine (this project's profile): which event may happen, what it does, and what a run is. The state is defined in
-- `Connection` and `World`, whose definitions this file re-exports.
pub use Rattle.machine.specs.Connection.{may_enter, may_feed, may_offer, may_turn, may_hold, may_release, may_write, fed_with, offered_next, taken_first, with_made, held_first, having_seen, having_released, written, left_inbound, left_outbound, left}
pub use Rattle.machine.specs.World.{Inbound, Outbound, Connection, Span, Told, Changes, Part, End, Role, Follower, Uncopied, Half, Pinned, Copying, Follows, Awaited, Sending, TakesPart, has_all, is_follower, is_awaited, may_send_copy, told_next, next_of_copy, sent_one, keeps_group, dropped_with, reach_of, reach, stands_at, allowed_with, Frame, Acknowledgement, Stage, Ready, Durable, Shown, Work, Commits, Frees, Committer, Link, Remains, At, AsPrimary, AsFollower, Life, Running, Stopped, Crashed, Retired, Disk, Primary, Standby, Wire, Allowed, World, all_allowed, none_allowed, no_connection, new_connection, new_committer, new_link, new_disk, start_at, start_with, start, is_running, is_stopped, is_crashed, is_retired, torn, safe_position, get_connection, connection_of, is_open, is_open_at, count_open, changed_at, with_inbound, with_outbound, with_primary, with_connections, on_inbound, on_outbound, with_committer, with_link, with_standby, with_sent, with_acknowledged, asked, is_closed_by, seen_of, open_changes, has_room, spans_of, lists_of, lists_before, from_group, is_ready, is_durable, is_shown, is_covered, covered_prefix, uncovered_rest, texts_of}
use Rattle.std.specs.Prelude.{◌≡◌, ◌⊎◌, ℕ, ◌+◌, ◌-◌, ◌<◌, ◌≤◌, Bool, true, false, not, ◌&&◌, ◌||◌, nat_lt, nat_le, nat_eq, if◌then◌else◌, max, List, [], ◌∷◌, ◌++◌, length, take, drop, map, filter, Contains, ◌≢◌, slice_get, Option, Some, None}
use Rattle.model.specs.declared.call.Call.{Call}
use Rattle.model.specs.declared.record.TheConstants.{MAX_GAPS}
use Rattle.model.specs.Call.{MayReply, cut_at, is_nonempty, position_of, state_after}
use Rattle.machine.specs.declared.event.Event.{Event}
use Rattle.machine.specs.declared.event.Event.TheVariants.{Enter, Feed, Offer, Turn, CloseGroup, Commit, RaiseLocal, Hand, Free, AcceptFreed, ClearGap, OpenLink, Send, Deliver, Apply, AckDelivered, RaiseRemote, Newcomer, PinCopy, SendCopy, Hold, Read, Release, Write, Leave, FailFence, Crash, Reopen, Fence, Promote}
use Rattle.machine.specs.declared.event.Node.{Node}
use Rattle.machine.specs.declared.event.Node.TheVariants as node
use Rattle.machine.specs.declared.event.Cut.{Cut}
use Rattle.machine.specs.declared.event.Cut.TheVariants as cut
use Rattle.machine.specs.declared.event.Mark.{Mark}
use Rattle.machine.specs.declared.event.TheConstants.{KEPT_GROUPS}
pub use Rattle.machine.specs.Row.{are_running, row}

-- ---- which event may happen

-- the condition of a node
abbrev pub life_of : World → Node → Life
life_of w node.Primary = w.primary.life
life_of w node.Standby = w.standby.life

abbrev pub disk_of : World → Node → Disk
disk_of w node.Primary = w.primary.disk
disk_of w node.Standby = w.standby.disk

-- The nodes that take part in the event are running. None needs to run to crash or to be opened again, nor the primary to be fenced.
abbrev pub nodes_run : World → Event → Bool
nodes_run w event = are_running (row event).runners (is_running w.primary.life) (is_running w.standby.life)

-- nothing is in the committer's hand, a group waits for it, and the link has room for that group
abbrev pub may_commit : World → Bool
may_commit w = is_ready w.primary.committer.stage && is_nonempty (from_group w.primary.committer.waiting) && has_room w.primary.link.waiting

-- The free lists that the committer has reached, by their positions: those aside and, where the link has room, those that wait. Where it may not commit
-- either, no group is among what waits then.
abbrev pub reached_lists : World → List ℕ
reached_lists w =
    let committer = w.primary.committer in
    if has_room w.primary.link.waiting then committer.aside ++ lists_of committer.waiting else committer.aside

-- there is a first of these positions, and it is at most this one
abbrev pub first_is_within : ℕ → List ℕ → Bool
first_is_within high [] = false
first_is_within high (position ∷ positions) = nat_le position high

-- the first free list that the committer has reached is covered by the remote mark, and it may not commit
abbrev pub may_free : World → Bool
may_free w = is_ready w.primary.committer.stage && not (may_commit w) && first_is_within w.primary.link.remote (reached_lists w)

-- nothing waits for the committer, and the record has a gap
abbrev pub may_clear : World → Bool
may_clear w =
    let committer = w.primary.committer in
    is_ready committer.stage && has_room w.primary.link.waiting && not (is_nonempty committer.waiting) && not (is_nonempty committer.aside) && nat_lt 0 w.primary.gaps

-- the crash comes between two events
abbrev pub is_between : Cut → Bool
is_between cut.Between = true
is_between call = false

-- A crash may come to this node in this call: the node runs and the call has something to do, or it opens its image. Between two events it may come to one
-- that runs or has stopped.
abbrev pub may_cut : World → Node → Cut → Bool
may_cut w node cut.Between = is_running (life_of w node) || is_stopped (life_of w node)
may_cut w node cut.Reopen = is_crashed (life_of w node)
may_cut w node.Primary cut.Commit = is_running w.primary.life && may_commit w
may_cut w node.Primary cut.Free = is_running w.primary.life && may_free w
may_cut w node.Primary cut.ClearGap = is_running w.primary.life && may_clear w
may_cut w node.Standby cut.Apply = is_running w.standby.life && is_nonempty w.standby.waiting
may_cut w node.Standby cut.Promote = is_running w.standby.life && (is_follower w.standby.role && is_retired w.primary.life)
may_cut w node call = false

-- a group waits at the link, which has room for it, or does not keep it
abbrev pub may_take : Copying → List Span → List Span → Bool
may_take copying kept [] = false
may_take copying kept (group ∷ groups) = not (keeps_group copying group) || nat_lt (length kept) KEPT_GROUPS

-- The delta is to be sent, or a group again, or the next one for the first time, where there is room to keep it. While a copy is awaited nothing of this is sent, and
-- the next group is kept or dropped.
abbrev pub may_send : Copying → Link → Bool
may_send Follows link = is_nonempty link.delta || (is_nonempty link.again || (is_nonempty link.waiting && nat_lt (length link.kept) KEPT_GROUPS))
may_send copying link = may_take copying link.kept link.waiting

-- there is something for the event to do, and room for what it makes
abbrev pub may_happen : World → Event → Bool
may_happen w Enter = may_enter w.primary.connections
may_happen w (Feed c piece) = may_feed w.primary.connections c
may_happen w (Offer c) = may_offer w.primary.connections c
may_happen w (Turn c) = may_turn w.primary.connections c (open_changes w)
may_happen w CloseGroup = (nat_lt 0 (open_changes w) || nat_lt 0 w.primary.ended) && has_room w.primary.committer.waiting
may_happen w Commit = may_commit w
may_happen w RaiseLocal = is_durable w.primary.committer.stage
may_happen w Hand = is_shown w.primary.committer.stage
may_happen w Free = may_free w
may_happen w AcceptFreed = nat_lt 0 w.primary.notices
may_happen w ClearGap = may_clear w
may_happen w OpenLink = true
may_happen w Send = may_send w.primary.link.copying w.primary.link
may_happen w (Deliver frame piece) = nat_lt frame (length w.wire.frames)
may_happen w Apply = is_nonempty w.standby.waiting
may_happen w (AckDelivered a) = nat_lt a (length w.wire.acknowledgements)
may_happen w RaiseRemote = nat_lt w.primary.link.remote w.primary.link.known
-- a device is left for it
may_happen w Newcomer = nat_lt w.came w.allowed.newcomers
-- no changing command waits to be closed into a group
may_happen w PinCopy = is_awaited w.primary.link.copying && not (nat_lt 0 (open_changes w))
may_happen w SendCopy = may_send_copy w.primary.committer.position w.primary.link.copying
may_happen w (Hold c) = may_hold w.primary.connections c
may_happen w (Read c mark) = is_open w c
may_happen w (Release c) = may_release w.primary.connections c
may_happen w (Write c n) = may_write w.primary.connections c n
may_happen w (Leave c) = is_open w c
may_happen w (FailFence node n) = w.allowed.failures
may_happen w (Crash node call k picks) = w.allowed.restarts && ((is_between call || w.allowed.cuts) && may_cut w node call)
may_happen w (Reopen node) = w.allowed.restarts && is_crashed (life_of w node)
may_happen w Fence = w.allowed.fencing && not (is_retired w.primary.life)
-- the primary was fenced, and the standby has its copy
may_happen w Promote = w.allowed.promotions && (is_follower w.standby.role && is_retired w.primary.life)

abbrev pub is_enabled : World → Event → Bool
is_enabled w event = nodes_run w event && may_happen w event

-- ---- what it does

abbrev pub entered : World → World
entered w = with_connections (w.primary.connections ++ new_connection ∷ []) w

abbrev pub with_call : Call → World → World
with_call call w = record w { primary = record w.primary { calls = w.primary.calls ++ call ∷ [] } }

-- the call is appended to the list, and its reply waits with the position of the list after the call
abbrev pub called : ℕ → Call → World → World
called c call w =
    let w' = with_call call w in
    on_outbound c (with_made (record { reply = call.reply; position = position_of w'.primary.calls })) (on_inbound c taken_first w')

-- the first waiting item is run, and gets a reply that may be given at this state
pub record Turns (w : World) (c : ℕ) (new : World) : Type 0 where
  pub call : Call
  pub connection : call.connection ≡ c
  pub first : take 1 (connection_of w c).inbound.waiting ≡ call.item ∷ []
  pub reply : MayReply (state_after w.primary.calls) call
  pub now : new ≡ called c call w

-- all waiting changing commands, up to this position of the list, become a group
abbrev pub closed_group : ℕ → Committer → Committer
closed_group position committer =
    record committer { closed = position; waiting = committer.waiting ++ Commits (record { before = committer.closed; after = position }) ∷ [] }

-- how many versions have ended and are in no free list, and the position at which the newest of them ended
abbrev pub with_ended : ℕ → ℕ → World → World
with_ended ended newest w = record w { primary = record w.primary { ended = ended; newest = newest } }

-- the waiting changing commands become a group; those of its versions that ended join the others that are in no free list
pub record ClosesGroup (w new : World) : Type 0 where
  -- how many versions the group's commands ended
  pub ends : ℕ
  -- the position at which the newest ended
  pub newest : ℕ
  pub none : ends ≡ 0 → newest ≡ w.primary.newest
  pub some : 0 < ends → (w.primary.committer.closed < newest) × (newest ≤ position_of w.primary.calls)
  pub now : new ≡ with_ended (w.primary.ended + ends) newest (with_committer (closed_group (position_of w.primary.calls) w.primary.committer) w)

-- the free list at this position waits for the committer
abbrev pub closed_list : ℕ → Committer → Committer
closed_list position committer = record committer { waiting = committer.waiting ++ Frees position ∷ [] }

-- the versions that have ended and are in no free list become one
abbrev pub listed : World → World
listed w = with_ended 0 w.primary.newest (with_committer (closed_list w.primary.newest w.primary.committer) w)

-- where changing commands wait they become a group, and where none does a free list is closed
abbrev pub Closes : World → World → Type 0
Closes w new = ((nat_lt 0 (open_changes w) ≡ true) × ClosesGroup w new) ⊎ ((nat_lt 0 (open_changes w) ≡ false) × (new ≡ listed w))

-- The first group of what waits, given from there on, leaves the queue; the free lists before it go aside.
abbrev pub committed_first : List Work → Committer → Committer
committed_first [] committer = committer
committed_first (Commits group ∷ works) committer =
    record committer { waiting = works; aside = committer.aside ++ lists_before committer.waiting; stage = Durable group; position = group.after }
committed_first (Frees position ∷ works) committer = committer

abbrev pub shown : Stage → Stage
shown Ready = Ready
shown (Durable group) = Shown group
shown (Shown group) = Shown group

abbrev pub raised_local : Committer → Committer
raised_local committer = record committer { stage = shown committer.stage; local = committer.position }

abbrev pub handed : Stage → List Span
handed Ready = []
handed (Durable group) = []
handed (Shown group) = group ∷ []

abbrev pub ready_again : Committer → Committer
ready_again committer = record committer { stage = Ready }

abbrev pub handed_to : List Span → Link → Link
handed_to groups link = record link { waiting = link.waiting ++ groups }

abbrev pub with_notices : ℕ → World → World
with_notices notices w = record w { primary = record w.primary { notices = notices } }

abbrev pub with_gaps : ℕ → World → World
with_gaps gaps w = record w { primary = record w.primary { gaps = gaps } }

-- the first of the reached free lists is freed, and the others are aside
abbrev pub freed_first : World → Committer
freed_first w =
    let committer = w.primary.committer in
    record committer { waiting = if has_room w.primary.link.waiting then [] else committer.waiting; aside = drop 1 (reached_lists w) }

-- and the sequencer is to be told
abbrev pub freed : World → World
freed w = with_notices (w.primary.notices + 1) (with_committer (freed_first w) w)

abbrev pub accepted : World → World
accepted w = with_notices (w.primary.notices - 1) w

-- what lies in one gap is freed, and the sequencer is to be told
abbrev pub cleared : World → World
cleared w = with_notices (w.primary.notices + 1) (with_gaps (w.primary.gaps - 1) w)

-- what a standby at this position is to be sent before all groups, where it should be at that one: a delta, where it is behind
abbrev pub due_delta : ℕ → ℕ → List Span
due_delta position opened = if nat_lt position opened then record { before = position; after = opened } ∷ [] else []

-- The link opens to a standby: the delta, and after it all kept groups, are to be sent, and no copy is awaited any more.
abbrev pub opened_link : List Span → Link → Link
opened_link delta link = record link { delta = delta; again = link.kept; copying = Follows }

-- The link opens to a newcomer: it awaits a copy, and drops the groups that it keeps; where one is pinned, it keeps them, and sends the copy from its start.
abbrev pub wanted_by : Copying → Link → Link
wanted_by (Sending pinned) link = record link { delta = []; again = []; copying = Sending (record pinned { next = 0 }) }
wanted_by copying link = record link { delta = []; again = []; kept = []; copying = Awaited; dropped = dropped_with link.dropped link.kept }

-- where a standby should be that the link opens to: where the primary was opened, or the last group ends that was dropped
abbrev pub due_from : Primary → ℕ
due_from primary = max primary.opened primary.link.dropped

-- what the opening does to the link, given what the node is that it opens to, and its position
abbrev pub opened_to : Role → ℕ → Primary → Link
opened_to Follower position primary = opened_link (due_delta position (due_from primary)) primary.link
opened_to Uncopied position primary = wanted_by primary.link.copying primary.link

-- what the standby tells about itself
abbrev pub acknowledgement_of : Standby → Acknowledgement
acknowledgement_of standby = record { epoch = standby.epoch; position = standby.position }

-- (a newcomer has nothing to acknowledge)
abbrev pub acknowledged_of : Role → Standby → List Acknowledgement
acknowledged_of Follower standby = acknowledgement_of standby ∷ []
acknowledged_of Uncopied standby = []

-- what is sent next: the delta, or else a group that is to be sent again, or, where there is none, one that waits
abbrev pub next_to_send : Link → List Span
next_to_send link = take 1 (link.delta ++ (link.again ++ link.waiting))

abbrev pub sent_waiting : List Span → Link → Link
sent_waiting [] link = link
sent_waiting (group ∷ groups) link = record link { waiting = groups; kept = link.kept ++ group ∷ []; again = [] }

abbrev pub sent_group : List Span → Link → Link
sent_group [] link = sent_waiting link.waiting link
sent_group (group ∷ groups) link = record link { again = groups }

abbrev pub sent_next : List Span → Link → Link
sent_next [] link = sent_group link.again link
sent_next (delta ∷ deltas) link = record link { delta = deltas }

-- what a primary of this epoch sends, as frames
abbrev pub framed : ℕ → List Told → List Frame
framed epoch = map (λ told. record { epoch = epoch; told = told })

-- While a copy is awaited, the next group is kept, or dropped with all that was kept before it, and nothing is sent.
abbrev pub taken_group : Copying → List Span → Link → Link
taken_group copying [] link = link
taken_group copying (group ∷ groups) link =
    if keeps_group copying group then record link { waiting = groups; kept = link.kept ++ group ∷ []; again = [] }
    else record link { waiting = groups; kept = []; again = []; dropped = group.after }

abbrev pub sent_with : Copying → World → World
sent_with Follows w =
    let link = w.primary.link in
    with_sent (framed w.primary.epoch (map Changes (next_to_send link))) (with_link (sent_next link.delta link) w)
sent_with copying w = with_link (taken_group copying w.primary.link.waiting w.primary.link) w

abbrev pub sent : World → World
sent w = sent_with w.primary.link.copying w

abbrev pub delivered : List Frame → Standby → Standby
delivered frames standby = record standby { waiting = standby.waiting ++ frames }

abbrev pub moved_to : ℕ → Standby → Standby
moved_to position standby = record standby { position = position }

abbrev pub with_half : Option Half → Standby → Standby
with_half half standby = record standby { half = half }

-- a newcomer has its copy at this position: it is a standby then
abbrev pub completed : ℕ → Standby → Standby
completed position standby = record standby { position = position; role = Follower; half = None }

-- a frame is refused, or is nothing new: it changes nothing and is not acknowledged
abbrev pub Refuses : Standby → Standby → List Acknowledgement → Type 0
Refuses old new told = (new ≡ old) × (told ≡ [])

-- What a standby does with changes. Those that end at its position or below are acknowledged again; those that begin there are applied whole and acknowledged, or
-- refused (where it is full); any others are refused.
abbrev pub TakesChanges : Span → Standby → Standby → List Acknowledgement → Type 0
TakesChanges span old new told =
    ((span.after ≤ old.position) × (new ≡ old) × (told ≡ acknowledgement_of old ∷ []))
    ⊎ ((old.position < span.after) × (span.before ≡ old.position) × (new ≡ moved_to span.after old) × (told ≡ acknowledgement_of new ∷ []))
    ⊎ ((old.position < span.after) × Refuses old new told)

-- What a newcomer does with the end of its copy: it has all parts, and becomes a standby with their contents, or it refuses. An end without parts first frees what
-- there is of another copy, and may be refused after that.
abbrev pub TakesEnd : ℕ → ℕ → Standby → Standby → List Acknowledgement → Type 0
TakesEnd position parts old new told =
    ((has_all position parts old.half ≡ true) × (new ≡ completed position old) × (told ≡ acknowledgement_of new ∷ []))
    ⊎ Refuses old new told
    ⊎ ((parts ≡ 0) × (new ≡ with_half None old) × (told ≡ []))

-- What the node does with a frame of its epoch, and what it acknowledges. To a standby a copy at or below its position is nothing new, and its end is acknowledged.
abbrev pub TakesOwn : Role → Told → Standby → Standby → List Acknowledgement → Type 0
TakesOwn Follower (Changes span) old new told = TakesChanges span old new told
TakesOwn Follower (Part position number) old new told = Refuses old new told
TakesOwn Follower (End position parts) old new told =
    ((position ≤ old.position) × (new ≡ old) × (told ≡ acknowledgement_of old ∷ [])) ⊎ ((old.position < position) × Refuses old new told)
TakesOwn Uncopied (Changes span) old new told = Refuses old new told
TakesOwn Uncopied (Part position number) old new told = (half : Option Half) × TakesPart position number old.half half × (new ≡ with_half half old) × (told ≡ [])
TakesOwn Uncopied (End position parts) old new told = TakesEnd position parts old new told

-- a frame of another epoch is refused
abbrev pub Takes : Frame → Standby → Standby → List Acknowledgement → Type 0
Takes frame old new told = ((frame.epoch ≢ old.epoch) × Refuses old new told) ⊎ ((frame.epoch ≡ old.epoch) × TakesOwn old.role frame.told old new told)

abbrev pub without_first : Standby → Standby
without_first standby = record standby { waiting = drop 1 standby.waiting }

-- the first waiting frame is removed, and applied, acknowledged again or refused as `Takes` says
pub record Applies (w new : World) : Type 0 where
  pub frame : Frame
  pub first : take 1 w.standby.waiting ≡ frame ∷ []
  pub standby : Standby
  pub told : List Acknowledgement
  pub takes : Takes frame (without_first w.standby) standby told
  pub now : new ≡ with_acknowledged told (with_standby standby w)

-- groups that end above this position
abbrev pub above : ℕ → List Span → List Span
above position = filter (λ group. nat_lt position group.after)

-- an acknowledgement at this position ends the awaiting where it is at or above the pinned copy: the groups that are kept are to be sent
abbrev pub ended_at : ℕ → Copying → Link → Link
ended_at position (Sending pinned) link = if nat_le pinned.position position then record link { again = link.kept; copying = Follows } else link
ended_at position copying link = link

-- the link learns this position, and no longer keeps the groups up to it
abbrev pub knowing : ℕ → Link → Link
knowing position link = ended_at position link.copying (record link { kept = above position link.kept; again = above position link.again; known = max link.known position })

-- A primary of this epoch, whose record is at this position, counts the acknowledgement: it is of its epoch, and it is not above the record.
abbrev pub counts : ℕ → ℕ → Acknowledgement → Bool
counts epoch own ack = nat_eq ack.epoch epoch && nat_le ack.position own

-- an acknowledgement that it does not count is refused, and changes nothing
abbrev pub told : ℕ → ℕ → Option Acknowledgement → Link → Link
told epoch own None link = link
told epoch own (Some ack) link = if counts epoch own ack then knowing ack.position link else link

abbrev pub raised_remote : Link → Link
raised_remote link = record link { remote = link.known }

abbrev pub having_read : Mark → World → Outbound → Outbound
having_read mark w outbound = having_seen mark (seen_of w) outbound

abbrev pub option_items : {X : Type 0} → Option X → List X
option_items None = []
option_items (Some x) = x ∷ []

-- ---- a crash, and what comes after it

-- What is left of a primary is its image, which stands at this position: the calls after that are gone, all connections are over, and whatever was on its way
-- to the committer or the link is gone, and so is what was known of versions that have ended.
abbrev pub crashed_primary : ℕ → Primary → Primary
crashed_primary position primary =
    record primary {
      life = Crashed;
      opened = position;
      connections = map left primary.connections;
      calls = cut_at primary.calls position;
      committer = new_committer position;
      link = new_link;
      ended = 0;
      newest = position;
      notices = 0;
    }

-- what is left of a standby is its image, which has nothing of half a copy
abbrev pub crashed_standby : ℕ → Standby → Standby
crashed_standby position standby = record standby { life = Crashed; position = position; waiting = []; half = None }

-- the image of the standby is that of a primary, whose list the former primary's is up to the standby's position
abbrev pub succeeding : Standby → Primary → Primary
succeeding standby primary = record (crashed_primary standby.position primary) { disk = standby.disk; epoch = standby.epoch + 1 }

abbrev pub succeeded : Standby → Standby
succeeded standby = record standby { life = Retired []; epoch = standby.epoch + 1; waiting = [] }

-- The standby's image has become that of the primary, which is to be opened.
abbrev pub promoted : World → World
promoted w = with_standby (succeeded w.standby) (with_primary (succeeding w.standby w.primary) w)

abbrev pub crashed : Node → Remains → World → World
crashed node.Primary (At position) w = with_primary (crashed_primary position w.primary) w
crashed node.Standby (At position) w = with_standby (crashed_standby position w.standby) w
crashed node.Standby AsPrimary w = promoted w
crashed node.Standby (AsFollower position) w = with_standby (completed position (crashed_standby position w.standby)) w
-- (nothing leaves these)
crashed node.Primary AsPrimary w = w
crashed node.Primary (AsFollower position) w = w

-- an image with this many gaps, and this many versions that have ended, is opened
abbrev pub reopened_primary : ℕ → ℕ → Primary → Primary
reopened_primary ended gaps primary = record primary { life = Running; ended = ended; gaps = gaps }

abbrev pub reopened_standby : Standby → Standby
reopened_standby standby = record standby { life = Running }

-- The primary's image is opened. How many versions in it have ended, and how many gaps its record has then, is for the image to tell; the opening of an image that
-- was closed by a crash makes one.
pub record OpensPrimary (made : ℕ) (w new : World) : Type 0 where
  pub ended : ℕ
  pub gaps : ℕ
  pub some : made ≤ gaps
  pub few : gaps ≤ MAX_GAPS
  pub now : new ≡ with_primary (reopened_primary ended gaps w.primary) w

abbrev pub Reopens : Node → World → World → Type 0
Reopens node.Primary w new = OpensPrimary 1 w new
Reopens node.Standby w new = new ≡ with_standby (reopened_standby w.standby) w

-- ---- a call that is cut

-- what taking this may leave of a node of the frame's epoch, besides its image from before
abbrev pub left_by_told : Role → Told → Standby → List Remains
left_by_told Follower (Changes span) standby = if nat_eq span.before standby.position then At span.after ∷ [] else []
left_by_told Uncopied (End position parts) standby = if has_all position parts standby.half then AsFollower position ∷ [] else []
left_by_told role told standby = []

-- what taking the first of these frames may leave
abbrev pub left_by_first : Standby → List Frame → List Remains
left_by_first standby [] = []
left_by_first standby (frame ∷ frames) = if nat_eq frame.epoch standby.epoch then left_by_told standby.role frame.told standby else []

-- where the primary stands after the group that it commits next
abbrev pub next_primary : World → ℕ
next_primary w = (committed_first (from_group w.primary.committer.waiting) w.primary.committer).position

-- What a call that is cut may leave of its node, besides the image from before it. The others move no image.
abbrev pub left_by : World → Node → Cut → List Remains
left_by w node.Primary cut.Commit = At (next_primary w) ∷ []
left_by w node.Standby cut.Apply = left_by_first w.standby w.standby.waiting
left_by w node.Standby cut.Promote = AsPrimary ∷ []
left_by w node call = []

abbrev pub position_at : World → Node → ℕ
position_at w node.Primary = w.primary.committer.position
position_at w node.Standby = w.standby.position

-- what a crash in this call may leave of the node: its image from before the call, what a fence that failed has left, and the image from after the call
abbrev pub may_remain : World → Node → Cut → List Remains
may_remain w node call = At (position_at w node) ∷ (torn (life_of w node) ++ left_by w node call)

pub record Crashes (w : World) (node : Node) (call : Cut) (new : World) : Type 0 where
  pub remain : Remains
  pub one : Contains (may_remain w node call) remain
  pub now : new ≡ crashed node remain w

abbrev pub asked_to_fail : ℕ → Disk → Disk
asked_to_fail n disk = record disk { failing = nat_lt 0 n }

-- a fence that failed will not fail again
abbrev pub failed : Disk → Disk
failed disk = record disk { failing = false }

abbrev pub on_disk : Node → (Disk → Disk) → World → World
on_disk node.Primary change w = with_primary (record w.primary { disk = change w.primary.disk }) w
on_disk node.Standby change w = with_standby (record w.standby { disk = change w.standby.disk }) w

abbrev pub with_life : Node → Life → World → World
with_life node.Primary life w = with_primary (record w.primary { life = life }) w
with_life node.Standby life w = with_standby (record w.standby { life = life }) w

-- the node stops, and this may be left of it; what was delivered to a standby, and not taken, is lost
abbrev pub halted : Node → List Remains → World → World
halted node.Primary remains w = with_primary (record w.primary { life = Stopped remains; disk = failed w.primary.disk }) w
halted node.Standby remains w = with_standby (record w.standby { life = Stopped remains; disk = failed w.standby.disk; waiting = []; half = None }) w

-- A fence failed in the call, as it was asked to: the node stops, and does nothing of what the call does. Its image may be that from before the call or that
-- from after it, for a crash to show.
pub record Fails (w : World) (node : Node) (call : Cut) (new : World) : Type 0 where
  pub asked : (disk_of w node).failing ≡ true
  pub now : new ≡ halted node (left_by w node call) w

-- ---- a newcomer

-- The next unused device has a new image for the primary's epoch, and is that of the node which follows. Of the one before it no more is known than that nothing above
-- its position was released.
abbrev pub joined : World → World
joined w =
    record w {
      standby = record { life = Running; disk = new_disk (2 + w.came); epoch = w.primary.epoch; waiting = []; position = w.standby.position; role = Uncopied; half = None };
      wire = record { frames = []; acknowledgements = [] };
      came = w.came + 1;
    }

abbrev pub with_copying : Copying → World → World
with_copying copying w = with_link (record w.primary.link { copying = copying }) w

-- the copy is the keyspace at the position of the list; in how many parts it is sent is for its contents to tell
pub record PinsCopy (w new : World) : Type 0 where
  pub parts : ℕ
  pub now : new ≡ with_copying (Sending (record { position = position_of w.primary.calls; parts = parts; next = 0 })) w

abbrev pub copy_sent : World → World
copy_sent w =
    let copying = w.primary.link.copying in
    with_sent (framed w.primary.epoch (next_of_copy copying)) (with_copying (sent_one copying) w)

-- what an enabled event may do; in one that writes to a device, a fence may fail
abbrev pub Happens : World → Event → World → Type 0
Happens w Enter new = new ≡ entered w
Happens w (Feed c piece) new = new ≡ on_inbound c (fed_with piece) w
Happens w (Offer c) new = new ≡ on_inbound c offered_next w
Happens w (Turn c) new = Turns w c new
Happens w CloseGroup new = Closes w new
Happens w Commit new = (new ≡ with_committer (committed_first (from_group w.primary.committer.waiting) w.primary.committer) w) ⊎ Fails w node.Primary cut.Commit new
Happens w RaiseLocal new = new ≡ with_committer (raised_local w.primary.committer) w
Happens w Hand new = new ≡ with_link (handed_to (handed w.primary.committer.stage) w.primary.link) (with_committer (ready_again w.primary.committer) w)
Happens w Free new = (new ≡ freed w) ⊎ Fails w node.Primary cut.Free new
Happens w AcceptFreed new = new ≡ accepted w
Happens w ClearGap new = (new ≡ cleared w) ⊎ Fails w node.Primary cut.ClearGap new
Happens w OpenLink new =
    new ≡ with_link (opened_to w.standby.role w.standby.position w.primary) (with_acknowledged (acknowledged_of w.standby.role w.standby) w)
Happens w Send new = new ≡ sent w
Happens w (Deliver frame piece) new = new ≡ with_standby (delivered (option_items (slice_get w.wire.frames frame)) w.standby) w
Happens w Apply new = Applies w new ⊎ Fails w node.Standby cut.Apply new
Happens w (AckDelivered a) new = new ≡ with_link (told w.primary.epoch w.primary.committer.position (slice_get w.wire.acknowledgements a) w.primary.link) w
Happens w RaiseRemote new = new ≡ with_link (raised_remote w.primary.link) w
Happens w Newcomer new = new ≡ joined w
Happens w PinCopy new = PinsCopy w new
Happens w SendCopy new = new ≡ copy_sent w
Happens w (Hold c) new = new ≡ on_outbound c held_first w
Happens w (Read c mark) new = new ≡ on_outbound c (having_read mark w) w
Happens w (Release c) new = new ≡ on_outbound c having_released w
Happens w (Write c n) new = new ≡ on_outbound c (written n) w
Happens w (Leave c) new = new ≡ with_connections (changed_at c left w.primary.connections) w
Happens w (FailFence node n) new = new ≡ on_disk node (asked_to_fail n) w
Happens w (Crash node call k picks) new = Crashes w node call new
Happens w (Reopen node) new = Reopens node w new ⊎ Fails w node cut.Reopen new
Happens w Fence new = new ≡ with_life node.Primary (Retired (torn w.primary.life)) w
Happens w Promote new = OpensPrimary 0 (promoted w) new ⊎ Fails w node.Standby cut.Promote new

-- One event: it does its step exactly where it is enabled, and otherwise changes nothing.
pub record Step (old : World) (event : Event) (did : Bool) (new : World) : Type 0 where
  pub done : did ≡ is_enabled old event
  pub happens : did ≡ true → Happens old event new
  pub stands : did ≡ false → new ≡ old

-- a run over events: which of them did their step, and the world after each
abbrev pub Run : World → List Event → List Bool → List World → Type 0
Run old [] [] [] = Unit {0}
Run old (event ∷ events) (did ∷ done) (new ∷ worlds) = Step old event did new × Run new events done worlds
Run old _ _ _ = ⊥

-- the world after a run
abbrev pub last_world : World → List World → World
last_world w [] = w
last_world w (new ∷ worlds) = last_world new worlds
