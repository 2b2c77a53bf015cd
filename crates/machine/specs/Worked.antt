-- Three cases as runs written out. The first: one connection sends SET a 1. Each kind of event happens in it but those that free what has ended, and those of failing
-- fences, crashes and failover. The second: its change is durable on the primary alone, the primary is fenced, and the standby promoted, at the second attempt.
-- The third: a newcomer takes the place of the standby, and gets a copy.
use Rattle.std.specs.Prelude.{◌≡◌, ℕ, Bool, true, false, List, [], ◌∷◌, take, codes, All, Vec}
use Rattle.std.specs.Global.{Global}
use Rattle.machine.specs.declared.event.Event.{Event}
use Rattle.machine.specs.declared.event.Event.TheVariants.{Enter, Feed, Offer, Turn, CloseGroup, Commit, RaiseLocal, Hand, OpenLink, Send, Deliver, Apply, AckDelivered, RaiseRemote, Newcomer, PinCopy, SendCopy, Hold, Read, Release, Write, Leave, FailFence, Crash, Reopen, Fence, Promote}
use Rattle.machine.specs.declared.event.Node.TheVariants as node
use Rattle.machine.specs.declared.event.Cut.TheVariants as cut
use Rattle.machine.specs.declared.event.Mark.TheVariants.{Local, Remote}
use Rattle.model.specs.Call.{position_of}
use Rattle.machine.specs.Event.{World, Run, all_allowed, allowed_with, start, start_with, last_world, count_open, is_open}
use Rattle.machine.specs.Promise.{released_in}

abbrev pub set_request : List ℕ
set_request = codes "*3\r\n$3\r\nSET\r\n$1\r\na\r\n$1\r\n1\r\n"

abbrev pub worked_events : List Event
worked_events =
    -- the request arrives and is called: the list is at position 1
    Enter ∷ Feed 0 set_request ∷ Offer 0 ∷ Turn 0
    -- its reply waits at the gate, and no mark covers it
    ∷ Hold 0 ∷ Read 0 Local ∷ Read 0 Remote ∷ Release 0 ∷ Write 0 5
    -- it is durable on the primary: the remote mark does not cover it yet
    ∷ CloseGroup ∷ Commit ∷ RaiseLocal ∷ Read 0 Local ∷ Release 0 ∷ Write 0 5
    -- the standby takes it and acknowledges it; its first acknowledgement told its position when the link opened
    ∷ Hand ∷ OpenLink ∷ Send ∷ Deliver 0 0 ∷ Apply ∷ AckDelivered 1 ∷ RaiseRemote
    -- both marks cover it
    ∷ Read 0 Remote ∷ Release 0 ∷ Write 0 5
    -- the connection leaves, and what it was told stays
    ∷ Leave 0 ∷ []

-- all but the two Releases and Writes that came too soon
abbrev pub worked_done : List Bool
worked_done =
    true ∷ true ∷ true ∷ true
    ∷ true ∷ true ∷ true ∷ false ∷ false
    ∷ true ∷ true ∷ true ∷ true ∷ false ∷ false
    ∷ true ∷ true ∷ true ∷ true ∷ true ∷ true ∷ true
    ∷ true ∷ true ∷ true
    ∷ true ∷ []

-- Its reply is released once both marks are 1, and nothing is released before. In the end no seat is taken.
pub record FirstCaseIsARun : Type 0 where
  pub worlds : List World
  pub run : Run start worked_events worked_done worlds
  pub nothing_before : All (λ w. released_in w 0 ≡ []) (start ∷ take 24 worlds)
  pub local : (last_world start worlds).primary.committer.local ≡ 1
  pub remote : (last_world start worlds).primary.link.remote ≡ 1
  pub reply : released_in (last_world start worlds) 0 ≡ codes "+OK\r\n"
  pub seats : count_open (last_world start worlds).primary.connections ≡ 0

-- ---- failover

-- (the picks of its crashes decide nothing here)
abbrev pub failover_events : Vec ℕ Global → List Event
failover_events picks =
    -- the call is durable on the primary, and not on the standby
    Enter ∷ Feed 0 set_request ∷ Offer 0 ∷ Turn 0 ∷ CloseGroup ∷ Commit ∷ RaiseLocal ∷ Hand
    -- the standby's next fence is to fail; it is not promoted while nothing was fenced
    ∷ FailFence node.Standby 1 ∷ Promote
    -- nothing happens to a primary that was fenced
    ∷ Fence ∷ Fence ∷ Hold 0 ∷ Crash node.Primary cut.Between 0 picks
    -- the fence fails in the promotion; a crash shows that it has left the standby as it was, which is opened again
    ∷ Promote ∷ Promote ∷ Crash node.Standby cut.Between 0 picks ∷ Reopen node.Standby
    -- the second promotion is cut, and has left the image of a primary; the opening of that is cut too
    ∷ Crash node.Standby cut.Promote 9 picks ∷ Crash node.Primary cut.Reopen 1 picks ∷ Reopen node.Primary
    -- it serves, of the next epoch, and has no standby
    ∷ Enter ∷ Promote ∷ OpenLink ∷ []

abbrev pub failover_done : List Bool
failover_done =
    true ∷ true ∷ true ∷ true ∷ true ∷ true ∷ true ∷ true
    ∷ true ∷ false
    ∷ true ∷ false ∷ false ∷ false
    ∷ true ∷ false ∷ true ∷ true
    ∷ true ∷ true ∷ true
    ∷ true ∷ false ∷ false ∷ []

-- The call is gone from the list, as its change was not on the standby, and nothing was released of it. Its connection is over, and the next has the next number.
pub record FailoverIsARun (picks : Vec ℕ Global) : Type 0 where
  pub worlds : List World
  pub run : Run (start_with all_allowed) (failover_events picks) failover_done worlds
  pub before : position_of (last_world (start_with all_allowed) (take 8 worlds)).primary.calls ≡ 1
  pub calls : (last_world (start_with all_allowed) worlds).primary.calls ≡ []
  pub epoch : (last_world (start_with all_allowed) worlds).primary.epoch ≡ 2
  pub disk : (last_world (start_with all_allowed) worlds).primary.disk.number ≡ 1
  pub released : released_in (last_world (start_with all_allowed) worlds) 0 ≡ []
  pub over : is_open (last_world (start_with all_allowed) worlds) 0 ≡ false
  pub entered : is_open (last_world (start_with all_allowed) worlds) 1 ≡ true

-- ---- a new standby by a copy

abbrev pub newcomer_events : List Event
newcomer_events =
    -- the call is durable on the primary, and its group waits for the link
    Enter ∷ Feed 0 set_request ∷ Offer 0 ∷ Turn 0 ∷ CloseGroup ∷ Commit ∷ RaiseLocal ∷ Hand
    -- a newcomer comes; the link awaits its copy, and drops the group
    ∷ Newcomer ∷ OpenLink ∷ Send ∷ Send
    -- the copy is pinned, and sent as one part and its end; the newcomer can't be promoted, also where its primary is fenced, which it is not here
    ∷ PinCopy ∷ PinCopy ∷ SendCopy ∷ SendCopy ∷ SendCopy ∷ Promote
    -- its end comes too soon; then it is a standby, and acknowledges the copy's position
    ∷ Deliver 1 0 ∷ Apply ∷ Deliver 0 0 ∷ Apply ∷ Deliver 1 0 ∷ Apply ∷ AckDelivered 0 ∷ RaiseRemote
    -- which covers the call
    ∷ Hold 0 ∷ Read 0 Local ∷ Read 0 Remote ∷ Release 0 ∷ Write 0 5 ∷ []

abbrev pub newcomer_done : List Bool
newcomer_done =
    true ∷ true ∷ true ∷ true ∷ true ∷ true ∷ true ∷ true
    ∷ true ∷ true ∷ true ∷ false
    ∷ true ∷ false ∷ true ∷ true ∷ false ∷ false
    ∷ true ∷ true ∷ true ∷ true ∷ true ∷ true ∷ true ∷ true
    ∷ true ∷ true ∷ true ∷ true ∷ true ∷ []

-- The newcomer, on the third device, is a standby at position 1 in the end, and the call is released.
pub record NewcomerIsARun : Type 0 where
  pub worlds : List World
  pub run : Run (start_with (allowed_with 1)) newcomer_events newcomer_done worlds
  pub position : (last_world (start_with (allowed_with 1)) worlds).standby.position ≡ 1
  pub disk : (last_world (start_with (allowed_with 1)) worlds).standby.disk.number ≡ 2
  pub remote : (last_world (start_with (allowed_with 1)) worlds).primary.link.remote ≡ 1
  pub nothing_kept : (last_world (start_with (allowed_with 1)) worlds).primary.link.kept ≡ []
  pub reply : released_in (last_world (start_with (allowed_with 1)) worlds) 0 ≡ codes "+OK\r\n"
