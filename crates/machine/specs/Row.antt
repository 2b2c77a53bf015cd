-- The table of events, one row an event: the nodes that take part, the device that it touches, and what may end a run there.
use Rattle.std.specs.Prelude.{Bool, true, false, ◌&&◌, Option, Some, None}
use Rattle.machine.specs.declared.event.Event.{Event}
use Rattle.machine.specs.declared.event.Event.TheVariants.{Enter, Feed, Offer, Turn, CloseGroup, Commit, RaiseLocal, Hand, Free, AcceptFreed, ClearGap, OpenLink, Send, Deliver, Apply, AckDelivered, RaiseRemote, Newcomer, PinCopy, SendCopy, Hold, Read, Release, Write, Leave, FailFence, Crash, Reopen, Fence, Promote}
use Rattle.machine.specs.declared.event.Node.{Node}
use Rattle.machine.specs.declared.event.Node.TheVariants as node
use Rattle.machine.specs.declared.event.Runners.{Runners}
use Rattle.machine.specs.declared.event.Runners.TheVariants as runners

-- what an event takes of the counters of a record, each of which has a limit
pub data Limit : Type 0 where
  -- a stamp for each position by which it moves the record
  EachPosition : Limit
  -- one stamp for all of them
  OneStamp : Limit
  -- what a reopening takes
  Reopening : Limit

pub record Row : Type 0 where
  -- the nodes that have to run
  pub runners : Runners
  -- the node whose device it does something to
  pub touches : Option Node
  -- it may ask for memory, so that its refusal ends a run (a turn that is refused memory replies so, and the run goes on)
  pub asks_memory : Bool
  -- a fence of that device may fail, which ends a run
  pub may_fail : Bool
  -- a counter of that device's record may be at its limit, which ends a run
  pub limit : Option Limit

-- this node alone
abbrev pub itself : Node → Runners
itself node.Primary = runners.Primary
itself node.Standby = runners.Standby

-- an event of the primary that touches no device, and may ask for memory or not
abbrev pub plain : Bool → Row
plain asks_memory = record { runners = runners.Primary; touches = None; asks_memory = asks_memory; may_fail = false; limit = None }

abbrev pub row : Event → Row
row Enter = plain true
row (Feed c piece) = plain true
row (Offer c) = plain true
row (Turn c) = plain false
row CloseGroup = plain true
row Commit = record { runners = runners.Primary; touches = Some node.Primary; asks_memory = true; may_fail = true; limit = Some EachPosition }
row RaiseLocal = plain false
row Hand = plain false
row Free = record { runners = runners.Primary; touches = Some node.Primary; asks_memory = true; may_fail = true; limit = Some EachPosition }
row AcceptFreed = plain false
row ClearGap = record { runners = runners.Primary; touches = Some node.Primary; asks_memory = true; may_fail = true; limit = Some EachPosition }
row OpenLink = record (plain true) { runners = runners.Both }
row Send = plain true
row (Deliver frame piece) = record (plain true) { runners = runners.Standby }
row Apply = record { runners = runners.Standby; touches = Some node.Standby; asks_memory = true; may_fail = true; limit = Some OneStamp }
row (AckDelivered a) = plain true
row RaiseRemote = plain false
-- (the device that it formats is no node's before)
row Newcomer = plain true
row PinCopy = plain true
row SendCopy = plain true
row (Hold c) = plain true
row (Read c mark) = plain false
row (Release c) = plain false
row (Write c n) = plain true
row (Leave c) = plain false
row (FailFence n fence) = record { runners = itself n; touches = Some n; asks_memory = false; may_fail = false; limit = None }
row (Crash n call k picks) = record { runners = runners.Neither; touches = Some n; asks_memory = false; may_fail = false; limit = None }
row (Reopen n) = record { runners = runners.Neither; touches = Some n; asks_memory = true; may_fail = true; limit = Some Reopening }
row Fence = record (plain false) { runners = runners.Neither }
row Promote = record { runners = runners.Standby; touches = Some node.Standby; asks_memory = true; may_fail = true; limit = Some Reopening }

-- they run, where the primary and the standby do so or not
abbrev pub are_running : Runners → Bool → Bool → Bool
are_running runners.Neither primary standby = true
are_running runners.Primary primary standby = primary
are_running runners.Standby primary standby = standby
are_running runners.Both primary standby = primary && standby

abbrev pub is_of : Node → Option Node → Bool
is_of n None = false
is_of node.Primary (Some node.Primary) = true
is_of node.Primary (Some node.Standby) = false
is_of node.Standby (Some node.Primary) = false
is_of node.Standby (Some node.Standby) = true

-- the event does something to the device of this node
abbrev pub touches : Node → Event → Bool
touches n event = is_of n (row event).touches
