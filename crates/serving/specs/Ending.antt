-- How the turns of a connection end.
use Rattle.std.specs.Prelude.{◌≡◌, ◌≢◌, ◌⊎◌, ℕ, ◌+◌, ◌-◌, ◌≤◌, max, Bool, true, not, ◌&&◌, ◌||◌, nat_lt, if◌then◌else◌, length, is_some}
use Rattle.extent_heap.specs.Room.{has_room}
use Rattle.pipes.specs.Ring.{offered_at}
use Rattle.redis_core.specs.declared.turn.Turn.{Turn}
use Rattle.redis_core.specs.declared.turn.Turn.TheVariants as turn
use Rattle.redis_core.specs.Sequencing.{Sequencing}
use Rattle.serving.specs.Filling.{is_too_large}
use Rattle.serving.specs.Need.{asked_by_next, need_in_turn}
use Rattle.serving.specs.Turns.{LooksAt, TakesTurn, TakesTurns}
use Rattle.serving.specs.declared.filling.Filling.{Filling}
use Rattle.serving.specs.declared.needs.Need.{Need}
use Rattle.serving.specs.declared.open_connection.OpenConnection.{OpenConnection}
use Rattle.serving.specs.declared.turns.Served.{Served}
use Rattle.serving.specs.declared.turns.Served.TheVariants as ended
use Rattle.serving.specs.declared.turns.TheConstants.{MOST_TURNS}

-- an older request waits for room, or there may be none for one that may need so much
abbrev pub lacks_room : Need → Bool → Sequencing → Bool
lacks_room need is_short s = nat_lt 0 need.count && (is_short || not (has_room need.count (max need.lines 1) s.room))

-- by the turn at which nothing was served, and by whether all that the peer will send was read before it
abbrev pub ended_by : Turn → Bool → Served
ended_by turn.GroupFull is_read = ended.Waits
ended_by turn.Ended is_read = ended.Over
ended_by turn.Idle is_read = if is_read then ended.Over else ended.Idle
ended_by turn.Blocked is_read = ended.Idle
ended_by turn.Served is_read = ended.Idle

-- As many turns as it may take were served.
pub record TakesMost (before after : OpenConnection) (came : Served) : Type 0 where
  pub busy : came ≡ ended.Busy
  pub most : length (offered_at after.arrival.replies.replies) ≡ length (offered_at before.arrival.replies.replies) + MOST_TURNS

-- what the request that was looked at may need
abbrev pub need_next : OpenConnection → Need
need_next connection = need_in_turn connection.queued (asked_by_next connection.arrival.requests.items.next)

-- The turns that were served took its share of the group, and a request is left.
pub record TakesShare (share : ℕ) (old : Sequencing) (before : OpenConnection) (any : Bool) (new : Sequencing) (after : OpenConnection) (came : Served) : Type 0 where
  pub busy : came ≡ ended.Busy
  pub looked : OpenConnection
  pub turns : TakesTurns old before any new looked
  pub looks : LooksAt looked after
  pub all : share ≤ new.position - old.position
  pub more : is_some after.arrival.requests.items.next ≡ true

-- Behind the turns that were served the next request is too large for the group.
pub record WaitsForGroup (filling : Filling) (old : Sequencing) (before : OpenConnection) (any : Bool) (new : Sequencing) (after : OpenConnection) (came : Served) : Type 0 where
  pub waits : came ≡ ended.Waits
  pub looked : OpenConnection
  pub turns : TakesTurns old before any new looked
  pub looks : LooksAt looked after
  pub large : is_too_large filling (need_next after) ≡ true

-- Behind the turns that were served the next request lacks room.
pub record WaitsForRoom (is_short : Bool) (old : Sequencing) (before : OpenConnection) (any : Bool) (new : Sequencing) (after : OpenConnection) (came : Served) : Type 0 where
  pub waits : came ≡ ended.Waits
  pub looked : OpenConnection
  pub turns : TakesTurns old before any new looked
  pub looks : LooksAt looked after
  pub lacks : lacks_room (need_next after) is_short new ≡ true

-- Behind the turns that were served one more was tried, at which nothing was.
pub record EndsAtTurn (old : Sequencing) (before : OpenConnection) (any : Bool) (new : Sequencing) (after : OpenConnection) (came : Served) : Type 0 where
  pub between : Sequencing
  pub looked : OpenConnection
  pub at : OpenConnection
  pub turns : TakesTurns old before any between looked
  pub looks : LooksAt looked at
  pub last : Turn
  pub turned : TakesTurn between at last new after
  pub unserved : last ≢ turn.Served
  pub is_read : Bool
  pub came_is : came ≡ ended_by last is_read

-- The turns of a connection end only so. `share` is how many parts they may add to the group, `filling` what waits to be in it then, and `is_short` whether an
-- older request waits for room.
abbrev pub EndTurns : ℕ → Filling → Bool → Sequencing → OpenConnection → Bool → Sequencing → OpenConnection → Served → Type 0
EndTurns share filling is_short old before any new after came =
    TakesMost before after came ⊎ TakesShare share old before any new after came ⊎ WaitsForGroup filling old before any new after came
    ⊎ WaitsForRoom is_short old before any new after came ⊎ EndsAtTurn old before any new after came
