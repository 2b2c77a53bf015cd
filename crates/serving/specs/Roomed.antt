-- The turns of a connection by the room that its requests may need, on the image and in the group.
use Rattle.std.specs.Prelude.{◌≡◌, Bool, false, nat_lt, if◌then◌else◌}
use Rattle.pipes.specs.Ring.{offered_at}
use Rattle.redis_core.specs.declared.turn.Turn.TheVariants as turn
use Rattle.redis_core.specs.Sequencing.{Sequencing}
use Rattle.primary.specs.Settled.{HasNothingOpen}
use Rattle.serving.specs.Ending.{lacks_room}
use Rattle.serving.specs.Filling.{filled, is_too_large}
use Rattle.serving.specs.Need.{asked_by_next, need_in_turn, queued_after}
use Rattle.serving.specs.Turns.{LooksAt, TakesTurn}
use Rattle.serving.specs.declared.filling.Filling.{Filling}
use Rattle.serving.specs.declared.needs.Asked.{Asked}
use Rattle.serving.specs.declared.open_connection.OpenConnection.{OpenConnection}

-- what the item that was looked at asks of the room
abbrev pub asked_next : OpenConnection → Asked
asked_next connection = asked_by_next connection.arrival.requests.items.next

-- One turn at which the item that was looked at was served. Where something is under way that may make room, no older request waited for some, and there
-- was some for what the item may need. Where something waits or has ended, the item was not too large for the group. What it asks for was noted, and what it
-- may need is counted, where it changed something.
pub record ServesOneByNeed (is_working is_short : Bool) (old : Sequencing) (before : OpenConnection) (filling : Filling) (new : Sequencing) (after : OpenConnection) (filling' : Filling) : Type 0 where
  pub looked : OpenConnection
  pub turned : OpenConnection
  pub looks : LooksAt before looked
  pub waits_still : looked.queued ≡ before.queued
  pub has_room : ¬ ((is_working ≡ false) × HasNothingOpen old) → lacks_room (need_in_turn looked.queued (asked_next looked)) is_short old ≡ false
  pub fits : ¬ HasNothingOpen old → is_too_large filling (need_in_turn looked.queued (asked_next looked)) ≡ false
  pub turn_is : TakesTurn old looked turn.Served new turned
  pub notes : after ≡ record turned { queued = queued_after looked.queued (asked_next looked) }
  pub fills : filling' ≡ (if nat_lt old.position new.position then filled filling (need_in_turn looked.queued (asked_next looked)) else filling)

-- such turns, one after another
pub data ServesByNeed (is_working is_short : Bool) : Sequencing → OpenConnection → Filling → Sequencing → OpenConnection → Filling → Type 0 where
  none : (s : Sequencing) (connection : OpenConnection) (filling : Filling) → ServesByNeed is_working is_short s connection filling s connection filling
  one_more : (old between new : Sequencing) (before at after : OpenConnection) (first second last : Filling) → ServesByNeed is_working is_short old before first between at second
      → ServesOneByNeed is_working is_short between at second new after last → ServesByNeed is_working is_short old before first new after last

-- The turns that were served were such, and nothing was served or noted behind them.
pub record TurnsByNeed (is_working is_short : Bool) (old : Sequencing) (before : OpenConnection) (filling : Filling) (after : OpenConnection) (filling' : Filling) : Type 0 where
  pub between : Sequencing
  pub at : OpenConnection
  pub served : ServesByNeed is_working is_short old before filling between at filling'
  pub offered : offered_at after.arrival.replies.replies ≡ offered_at at.arrival.replies.replies
  pub noted : after.queued ≡ at.queued
