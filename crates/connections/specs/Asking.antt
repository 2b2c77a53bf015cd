-- How a connection's inbound half stands for what came in.
use Rattle.std.specs.Prelude.{◌≡◌, ℕ, ◌+◌, ◌≤◌, Bool, true, false, not, ◌&&◌, nat_lt, List, length, take, drop}
use Rattle.inbound.specs.ToCome.{HasGiven}
use Rattle.machine.specs.Connection.{Inbound as Machine, asked, is_closed_by, fed_with, offered_next, has_room}
use Rattle.connections.specs.declared.asking.Asking.{Asking}

-- All items that the bytes fed ask for were taken; those of them that were not run are kept, and the first of these wait.
pub record AskingRefines (code : Asking) (machine : Machine) : Type 0 where
  pub given : HasGiven machine.fed code.source
  pub closed : code.source.is_closed ≡ is_closed_by machine.fed
  -- how many items were run
  pub run : ℕ
  pub within : run ≤ length (asked machine.fed)
  pub counted : run + length machine.waiting ≡ machine.offered
  pub kept : drop run (asked machine.fed) ≡ code.asked.items
  pub waits : code.waiting.items ≡ machine.waiting
  pub first : take (length machine.waiting) code.asked.items ≡ machine.waiting

-- what feeding a piece did: it was taken, or the connection is closed
pub record Feeds (piece : List ℕ) (new : Asking) (did : Bool) (machine : Machine) : Type 0 where
  pub done : did ≡ not (is_closed_by machine.fed)
  pub taken : did ≡ true → AskingRefines new (fed_with piece machine)
  pub stays : did ≡ false → AskingRefines new machine

-- the next item was handed on, or there was none or no room
pub record Offers (new : Asking) (did : Bool) (machine : Machine) : Type 0 where
  pub done : did ≡ (nat_lt machine.offered (length (asked machine.fed)) && has_room machine.waiting)
  pub offered : did ≡ true → AskingRefines new (offered_next machine)
  pub stays : did ≡ false → AskingRefines new machine
