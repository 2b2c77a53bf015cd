-- What is done by others than the node's thread.
use Rattle.std.specs.Prelude.{◌≡◌, Bool, true, false, List}
use Rattle.std.specs.List.{AllByRecursion}
use Rattle.machine.specs.declared.event.Event.{Event}
use Rattle.machine.specs.declared.event.Event.TheVariants as events
use Rattle.machine.specs.Event.{Run, World, last_world}

-- events of clients, of their connections, of the link and of the node that follows (to pin a copy changes nothing that the thread has)
abbrev pub is_others : Event → Bool
is_others events.Enter = true
is_others (events.Feed c piece) = true
is_others (events.Offer c) = true
is_others (events.Hold c) = true
is_others (events.Read c mark) = true
is_others (events.Release c) = true
is_others (events.Write c n) = true
is_others events.OpenLink = true
is_others events.Send = true
is_others (events.Deliver frame piece) = true
is_others events.Apply = true
is_others (events.AckDelivered a) = true
is_others events.RaiseRemote = true
is_others events.Newcomer = true
is_others events.PinCopy = true
is_others events.SendCopy = true
is_others event = false

abbrev pub AreOthers : List Event → Type 0
AreOthers = AllByRecursion (λ event. is_others event ≡ true)

-- Events of others, whose run leads from one world to the other.
pub record OthersRun (old new : World) : Type 0 where
  pub events : List Event
  pub done : List Bool
  pub worlds : List World
  pub run : Run old events done worlds
  pub last : last_world old worlds ≡ new
  pub others : AreOthers events
