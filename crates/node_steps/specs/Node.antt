-- What the thread of a serving node has of its primary, and for which worlds of the machine that stands.
use Rattle.std.specs.Prelude.{◌≡◌, ℕ, Bool, true, List, length, Option}
use Rattle.pmem.specs.Device.{State}
use Rattle.model.specs.declared.call.Call.{Call}
use Rattle.model.specs.declared.group.Group.{Group}
use Rattle.model.specs.declared.record.Role.TheVariants as Role
use Rattle.model.specs.Call.{cut_at, keyspace_after}
use Rattle.model.specs.Group.{Contents}
use Rattle.model.specs.Standing.{Holder}
use Rattle.wbl_engine.specs.declared.freeing.Freed.{Freed}
use Rattle.redis_core.specs.Sequencing.{Sequencing}
use Rattle.primary.specs.Leading.{Leads}
use Rattle.primary.specs.Recalling.{Past, Remembers}
use Rattle.connections.specs.Session.{HasSeat, SeatsFollow, SequencerRefines}
use Rattle.machine.specs.Event.{Primary, Running, World, is_open}
use Rattle.machine.specs.Sound.{Sound}
use Rattle.node_steps.specs.Committing.{Committing, CommittingRefines, EngineStands}
use Rattle.node_steps.specs.GroupSpan.{AreGroupsOf}

-- the keyspace at each position of the list
abbrev pub past_of : List Call → Past
past_of calls = λ p. keyspace_after (cut_at calls p)

-- what the thread has: its two parts of a primary, and what lies between them
pub record Node : Type 0 where
  -- for each connection its seat, none where it is over
  pub seats : List (Option ℕ)
  pub sequencer : Sequencing
  pub committing : Committing
  -- what was freed and the sequencer has not been told
  pub notices : List Freed
  -- the engine
  pub device : State
  pub contents : Contents
  pub is_faulted : Bool

-- What has ended, what was freed and the record's gaps are as many as the machine's.
pub record FreeingRefines (s : Sequencing) (notices : List Freed) (contents : Contents) (machine : Primary) : Type 0 where
  pub ended : length s.ended ≡ machine.ended
  pub newest : s.newest ≡ machine.newest
  pub notices_are : length notices ≡ machine.notices
  pub gaps : length contents.current.gaps.items ≡ machine.gaps

-- What the thread has is that of the world's primary, which runs, and these groups were handed on to the link and are not sent. The image is this holder's.
-- Nothing is said of what others have: of connections no more than that they are open, of the link no more than what waits there, and nothing of what was
-- sent, or of the standby.
pub record NodeRefines (holder : Holder) (node : Node) (handed : List Group) (w : World) : Type 0 where
  pub sound : Sound w
  pub running : w.primary.life ≡ Running
  pub role : holder.role ≡ Role.Primary
  pub epoch : holder.epoch ≡ w.primary.epoch
  -- who has a seat is open, and has it alone
  pub are_open : (c seat : ℕ) → HasSeat node.seats c seat → is_open w c ≡ true
  pub are_apart : (c d seat : ℕ) → HasSeat node.seats c seat → HasSeat node.seats d seat → c ≡ d
  pub sequencer : SequencerRefines w.primary.calls w.primary.committer.closed node.sequencer
  pub follow : SeatsFollow w.primary.calls node.seats node.sequencer
  pub committing : CommittingRefines w.primary.calls node.committing w.primary.committer
  pub engine : EngineStands holder w.primary.calls w.primary.committer.position node.device node.contents node.is_faulted
  pub leads : Leads node.contents node.committing.waiting.items node.committing.aside node.sequencer node.notices
  pub freeing : FreeingRefines node.sequencer node.notices node.contents w.primary
  -- from the floor of the record on
  pub remembers : Remembers node.contents.current.floor w.primary.committer.position (past_of w.primary.calls) node.contents node.committing.waiting.items node.committing.aside node.sequencer
  pub handed_are : AreGroupsOf w.primary.calls handed w.primary.link.waiting
