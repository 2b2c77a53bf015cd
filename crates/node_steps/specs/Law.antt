-- The laws of what a node's thread does, stated.
use Rattle.std.specs.Prelude.{◌≡◌, ℕ, zero, suc, ◌<◌, Bool, List, [], ◌∷◌, ◌++◌, length, slice_set, Option, Some, None, Result, Ok, Err}
use Rattle.std.specs.List.{flat_map}
use Rattle.pmem.specs.Device.{State}
use Rattle.kv_types.specs.declared.item.Item.{Item}
use Rattle.kv_types.specs.declared.refusal.Refusal.{Refusal}
use Rattle.kv_types.specs.declared.refusal.Refusal.TheVariants.{Memory}
use Rattle.kv_types.specs.declared.reply.Reply.{Reply}
use Rattle.model.specs.declared.group.Group.{Group}
use Rattle.model.specs.declared.group.TheConstants.{MAX_PARTS}
use Rattle.model.specs.declared.work.Work.{Work}
use Rattle.model.specs.declared.record.Role.TheVariants as Role
use Rattle.model.specs.Call.{position_of}
use Rattle.model.specs.Group.{Contents}
use Rattle.model.specs.Standing.{Holder}
use Rattle.wbl_engine.specs.declared.freeing.Freed.{Freed as Places}
use Rattle.pipes.specs.Waiting.{Waiting}
use Rattle.multi_watch.specs.Session.{idle_session}
use Rattle.redis_core.specs.Copying.{CopyOf}
use Rattle.redis_core.specs.Sequencing.{MovesCopy, MovesSeat, Sequencing, TakesBack}
use Rattle.redis_core.specs.Turn.{Answers}
use Rattle.group_commit.specs.Committing.{in_hand}
use Rattle.group_commit.specs.Due.{due_now}
use Rattle.group_commit.specs.Working.{Takes}
use Rattle.group_commit.specs.declared.committer.Committer.{Committer}
use Rattle.group_commit.specs.declared.stage.Done.{Done}
use Rattle.primary.specs.Closing.{ClosesOne}
use Rattle.primary.specs.Recalling.{RecallsEach}
use Rattle.primary.specs.Resuming.{IsOver}
use Rattle.connections.specs.Session.{HasSeat}
use Rattle.machine.specs.Event.{Running, World, new_committer}
use Rattle.machine.specs.Sound.{Sound}
use Rattle.node_steps.specs.Acts.{Act, AreActs, Closed, Copied, GoesOn, IsAct, Left, Seated, Told, Turned, handed_by}
use Rattle.node_steps.specs.Clauses.{acts_of, node_of, noted}
use Rattle.node_steps.specs.Committing.{EngineStands, Ready}
use Rattle.node_steps.specs.Node.{Node, NodeRefines, past_of}
use Rattle.node_steps.specs.Others.{OthersRun}

-- ---- the beginning

-- The world's primary was just opened, at the end of its list: it has such a committer, nothing is on its way to the link, and so many versions have ended and so
-- many gaps are there as the image tells.
pub record IsJustOpened (w : World) (ended gaps : ℕ) : Type 0 where
  pub sound : Sound w
  pub running : w.primary.life ≡ Running
  pub committer : w.primary.committer ≡ new_committer (position_of w.primary.calls)
  pub waiting : w.primary.link.waiting ≡ []
  pub ended_are : w.primary.ended ≡ ended
  pub newest : w.primary.newest ≡ position_of w.primary.calls
  pub none_told : w.primary.notices ≡ 0
  pub gaps_are : w.primary.gaps ≡ gaps

-- what a thread has whose primary was just opened: nobody has a seat, and nothing waits
abbrev pub opened_node : Sequencing → Waiting Work → State → Contents → Bool → Node
opened_node s waiting device contents is_faulted =
    record {
      seats = [];
      sequencer = s;
      committing = record { waiting = waiting; aside = []; stage = Ready; local = contents.current.position };
      notices = [];
      device = device;
      contents = contents;
      is_faulted = is_faulted;
    }

-- What an opening answers is that of each world whose primary was just opened there, if the image recalls the keyspaces from its floor on.
abbrev pub OpeningsStand : Type 0
OpeningsStand =
    (holder : Holder) (w : World) (s : Sequencing) (waiting : Waiting Work) (device : State) (contents : Contents) (is_faulted : Bool)
    → IsJustOpened w (length s.ended) (length contents.current.gaps.items) → holder.role ≡ Role.Primary → holder.epoch ≡ w.primary.epoch
    → EngineStands holder w.primary.calls (position_of w.primary.calls) device contents is_faulted → IsOver contents s → waiting.items ≡ []
    → RecallsEach contents.current.floor (position_of w.primary.calls) (past_of w.primary.calls) contents
    → NodeRefines holder (opened_node s waiting device contents is_faulted) [] w

-- ---- the committer

-- by what is known of an engine, and of the end of a link at which groups are offered
module _ {E O : Type 0} (device : E → State) (contents : E → Contents) (is_faulted : E → Bool) (offered : O → List Group) (known_room : O → ℕ) where
  -- It was the acts that its answer names, and the groups that they hand on were offered, or are in hand and come next.
  abbrev pub Was : List (Option ℕ) → Sequencing → List Places → Bool → ℕ → Committer E → Waiting Work → O → Result Done Refusal → Committer E → Waiting Work → O → Type 0
  Was seats s notices room remote old before link result new after link' =
      AreActs (node_of device contents is_faulted seats s notices old before) (acts_of (in_hand new.stage) room remote result)
      (node_of device contents is_faulted seats s (notices ++ noted result) new after)
      × (offered link' ++ in_hand new.stage ≡ (offered link ++ in_hand old.stage) ++ flat_map handed_by (acts_of (in_hand new.stage) room remote result))

  abbrev pub TurnsAreActs : Type 0
  TurnsAreActs =
      (seats : List (Option ℕ)) (s : Sequencing) (notices : List Places) (room : Bool) (remote : ℕ) (old : Committer E) (before : Waiting Work) (link : O) (came : Done) (new : Committer E) (after : Waiting Work) (link' : O)
      → Takes device contents is_faulted offered known_room (due_now contents old before room remote) room remote old before link (Ok came) new after link'
      → Was seats s notices room remote old before link (Ok came) new after link'

  -- where memory was refused, unless lists went aside meanwhile
  abbrev pub RefusedTurnsAreNone : Type 0
  RefusedTurnsAreNone =
      (seats : List (Option ℕ)) (s : Sequencing) (notices : List Places) (room : Bool) (remote : ℕ) (old : Committer E) (before : Waiting Work) (link : O) (new : Committer E) (after : Waiting Work) (link' : O)
      → Takes device contents is_faulted offered known_room (due_now contents old before room remote) room remote old before link (Err Memory) new after link'
      → length new.aside.items ≡ length old.aside.items → Was seats s notices room remote old before link (Err Memory) new after link'

-- ---- the front

-- what waits for the committer, and the sequencer
abbrev pub with_work : Waiting Work → Sequencing → Node → Node
with_work waiting sequencer node = record node { committing = record node.committing { waiting = waiting }; sequencer = sequencer }

abbrev pub ClosingIsAnAct : Type 0
ClosingIsAnAct =
    (node : Node) (waiting : Waiting Work) (s : Sequencing) → ClosesOne node.sequencer node.committing.waiting s waiting → IsAct Closed node (with_work waiting s node)

abbrev pub with_told : Sequencing → List Places → Node → Node
with_told s notices node = record node { sequencer = s; notices = notices }

abbrev pub TellingIsAnAct : Type 0
TellingIsAnAct =
    (node : Node) (s : Sequencing) (notice : Places) (rest : List Places) → node.notices ≡ notice ∷ rest → TakesBack node.sequencer notice.entries.items notice.extents.items s
    → IsAct Told node (with_told s rest node)

abbrev pub with_answered : Sequencing → Node → Node
with_answered s node = record node { sequencer = s }

-- where fewer changes wait than a group may have
abbrev pub AnsweringIsAnAct : Type 0
AnsweringIsAnAct =
    (node : Node) (c seat : ℕ) (item : Item) (reply : Reply) (s : Sequencing) → HasSeat node.seats c seat → length node.sequencer.waiting < MAX_PARTS → Answers node.sequencer seat item reply s
    → IsAct (Turned c item) node (with_answered s node)

-- connection c has this seat
abbrev pub with_seat : ℕ → ℕ → List (Option ℕ) → List (Option ℕ)
with_seat zero seat [] = Some seat ∷ []
with_seat zero seat (first ∷ seats) = Some seat ∷ seats
with_seat (suc c) seat [] = None ∷ with_seat c seat []
with_seat (suc c) seat (first ∷ seats) = first ∷ with_seat c seat seats

abbrev pub with_seats : List (Option ℕ) → Sequencing → Node → Node
with_seats seats sequencer node = record node { seats = seats; sequencer = sequencer }

-- a seat that nobody has is opened for a connection that has none
abbrev pub SeatingIsAnAct : Type 0
SeatingIsAnAct =
    (node : Node) (c seat : ℕ) (s : Sequencing) → MovesSeat node.sequencer seat (Some idle_session) s
    → ((other : ℕ) → ¬ HasSeat node.seats c other) → ((d : ℕ) → ¬ HasSeat node.seats d seat) → IsAct (Seated c seat) node (with_seats (with_seat c seat node.seats) s node)

-- the seat of a connection is closed
abbrev pub LeavingIsAnAct : Type 0
LeavingIsAnAct =
    (node : Node) (c seat : ℕ) (s : Sequencing) → HasSeat node.seats c seat → MovesSeat node.sequencer seat None s
    → IsAct (Left c) node (with_seats (slice_set node.seats c None) s node)

-- the copy that the sequencer keeps is another one, or none, and nothing else moved
abbrev pub CopyingIsAnAct : Type 0
CopyingIsAnAct = (node : Node) (copy : Option CopyOf) (s : Sequencing) → MovesCopy node.sequencer copy s → IsAct Copied node (with_answered s node)

-- ---- others, and all together

abbrev pub OthersChangeNothing : Type 0
OthersChangeNothing =
    (holder : Holder) (node : Node) (handed : List Group) (w now : World) → NodeRefines holder node handed w → OthersRun w now
    → (gone left : List Group) × (handed ≡ gone ++ left) × NodeRefines holder node left now

abbrev pub ActsGoOn : Type 0
ActsGoOn =
    (holder : Holder) (old new : Node) (acts : List Act) (handed : List Group) (w : World) → NodeRefines holder old handed w → AreActs old acts new → GoesOn w holder new [] acts handed w
