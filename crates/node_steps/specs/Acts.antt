-- What the node's thread does, one event of the machine at a time, while others do what is theirs.
use Rattle.std.specs.Prelude.{◌≡◌, ℕ, ◌≤◌, Bool, true, List, [], ◌∷◌, ◌++◌, take, Option, Some, None}
use Rattle.std.specs.List.{flat_map}
use Rattle.kv_types.specs.declared.item.Item.{Item}
use Rattle.model.specs.declared.group.Group.{Group}
use Rattle.model.specs.Call.{items_of}
use Rattle.model.specs.Standing.{Holder}
use Rattle.machine.specs.declared.event.Event.{Event}
use Rattle.machine.specs.declared.event.Event.TheVariants as events
use Rattle.machine.specs.Event.{Run, Step, World, connection_of, has_room, is_open, last_world, option_items}
use Rattle.node_steps.specs.Node.{Node, NodeRefines}
use Rattle.node_steps.specs.Others.{OthersRun}

-- ---- acts

-- what the thread does at a time
pub data Act : Type 0 where
  -- this item of this connection was answered
  Turned : ℕ → Item → Act
  -- a group or a free list was closed
  Closed : Act
  -- a group was committed
  Committed : Act
  -- the local mark was raised
  Raised : Act
  -- this group was handed on to the link
  HandedOn : Group → Act
  -- a free list was freed, by whether the link was found to have room, and by this remote mark
  Freed : Bool → ℕ → Act
  -- the sequencer was told of what was freed
  Told : Act
  -- a gap of the record was cleared
  Cleared : Act
  -- a connection that is open, and of which nothing was answered, was given this seat
  Seated : ℕ → ℕ → Act
  -- what is kept of a copy for a newcomer moved on, by which the sequencer serves nothing else
  Copied : Act
  -- this connection is over, and has no seat
  Left : ℕ → Act

-- the machine's event; none where a connection is given its seat, or a copy moves on, which are the thread's own
abbrev pub event_of : Act → Option Event
event_of (Turned c item) = Some (events.Turn c)
event_of Closed = Some events.CloseGroup
event_of Committed = Some events.Commit
event_of Raised = Some events.RaiseLocal
event_of (HandedOn group) = Some events.Hand
event_of (Freed has_room remote) = Some events.Free
event_of Told = Some events.AcceptFreed
event_of Cleared = Some events.ClearGap
event_of (Seated c seat) = None
event_of Copied = None
event_of (Left c) = Some (events.Leave c)

abbrev pub events_of : List Act → List Event
events_of = flat_map (λ act. option_items (event_of act))

-- the groups that go to the link by it
abbrev pub handed_by : Act → List Group
handed_by (HandedOn group) = group ∷ []
handed_by _ = []

-- The item waits first at the connection, and there is room for its reply.
pub record IsOffered (w : World) (c : ℕ) (item : Item) : Type 0 where
  pub first : take 1 (connection_of w c).inbound.waiting ≡ item ∷ []
  pub room : has_room (connection_of w c).outbound.made ≡ true

-- the connection is open, and nothing of it was answered
pub record IsNew (w : World) (c : ℕ) : Type 0 where
  pub opens : is_open w c ≡ true
  pub no_call : items_of c w.primary.calls ≡ []

-- What an act goes by that others give: the item that a ring gave is the one that waits, the link has the room that was found, and the remote mark that was
-- read has been reached.
abbrev pub Rests : Act → World → Type 0
Rests (Turned c item) w = IsOffered w c item
Rests Committed w = has_room w.primary.link.waiting ≡ true
Rests (Freed room remote) w = (has_room w.primary.link.waiting ≡ room) × (remote ≤ w.primary.link.remote)
Rests Cleared w = has_room w.primary.link.waiting ≡ true
Rests (Seated c seat) w = IsNew w c
Rests act w = Unit {0}

-- the machine does the event, or nothing where there is none
abbrev pub Did : World → Option Event → World → Type 0
Did w None new = new ≡ w
Did w (Some event) new = Step w event true new

-- The machine does the event, and what the thread has after it is that of the world after it.
pub record StepsTo (holder : Holder) (act : Act) (new : Node) (handed : List Group) (w : World) : Type 0 where
  pub world : World
  pub did : Did w (event_of act) world
  pub stands : NodeRefines holder new (handed ++ handed_by act) world

-- What the thread did from one state to the other is this event, in each world that its state was of and that gives what the act goes by.
abbrev pub IsAct : Act → Node → Node → Type 0
IsAct act old new = (holder : Holder) (handed : List Group) (w : World) → NodeRefines holder old handed w → Rests act w → StepsTo holder act new handed w

-- one after the other
abbrev pub AreActs : Node → List Act → Node → Type 0
AreActs old [] new = new ≡ old
AreActs old (act ∷ acts) new = (between : Node) × IsAct act old between × AreActs between acts new

-- ---- runs

-- these events are there, in order, and perhaps others
abbrev pub HasInOrder : List Event → List Event → Type 0
HasInOrder [] events = Unit {0}
HasInOrder (event ∷ rest) events = (before after : List Event) × (events ≡ before ++ event ∷ after) × HasInOrder rest after

-- a run from one world to the other, with the events of these acts among its own, in order
pub record RunsThrough (old : World) (acts : List Act) (new : World) : Type 0 where
  pub events : List Event
  pub done : List Bool
  pub worlds : List World
  pub run : Run old events done worlds
  pub last : last_world old worlds ≡ new
  pub own : HasInOrder (events_of acts) events

-- The acts go on from here, after those before them, whatever events of others come in between: as long as each finds there what it goes by, it is a step of the
-- machine from where they leave it. In the end there is a run from the beginning, with the events of all these acts in order, and what the thread has is that of
-- its last world. What it has handed on and the link has not taken is with it, the oldest first.
abbrev pub GoesOn : World → Holder → Node → List Act → List Act → List Group → World → Type 0
GoesOn beginning holder last before [] handed w = NodeRefines holder last handed w × RunsThrough beginning before w
GoesOn beginning holder last before (act ∷ acts) handed w =
    (now : World) → OthersRun w now → Rests act now
    → (gone left : List Group) × (handed ≡ gone ++ left) × (new : World) × Did now (event_of act) new
    × GoesOn beginning holder last (before ++ act ∷ []) acts (left ++ handed_by act) new
