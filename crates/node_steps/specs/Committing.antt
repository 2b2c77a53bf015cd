-- How the committer and its engine stand for the machine's.
use Rattle.std.specs.Prelude.{◌≡◌, ℕ, Bool, false, List}
use Rattle.pmem.specs.Device.{State}
use Rattle.model.specs.declared.call.Call.{Call}
use Rattle.model.specs.declared.group.Group.{Group}
use Rattle.model.specs.declared.work.FreeList.{FreeList}
use Rattle.model.specs.declared.work.Work.{Work}
use Rattle.model.specs.Call.{keyspace_after, cut_at}
use Rattle.model.specs.Image.{IsMapOf}
use Rattle.model.specs.Group.{Contents, IsConsistent, entries_of}
use Rattle.model.specs.Standing.{Holder}
use Rattle.wbl_engine.specs.Contents.{IsDurable}
use Rattle.wbl_engine.specs.Lawful.{AreLawful}
use Rattle.pipes.specs.Waiting.{Waiting}
use Rattle.machine.specs.Event.{Committer as Machine, Stage as MachineStage}
use Rattle.machine.specs.World as machine_stage
use Rattle.node_steps.specs.GroupSpan.{AreWorkOf, IsGroupOf, positions_of_lists}

-- ---- the engine

-- the holder's contents are those of the list at this position
pub record AreContentsAt (holder : Holder) (calls : List Call) (position : ℕ) (contents : Contents) : Type 0 where
  pub at : contents.current.position ≡ position
  pub role_is : contents.current.role ≡ holder.role
  pub epoch_is : contents.current.epoch ≡ holder.epoch
  pub lines_are : contents.lines ≡ holder.lines
  pub consistent : IsConsistent contents
  pub map : IsMapOf contents.versions (entries_of contents) (keyspace_after (cut_at calls position))

-- a sound engine of this holder whose contents are those of the list at this position and obey the rules, over a device on which each crash leaves them
pub record EngineStands (holder : Holder) (calls : List Call) (position : ℕ) (device : State) (contents : Contents) (is_faulted : Bool) : Type 0 where
  pub contents_at : AreContentsAt holder calls position contents
  pub lawful : AreLawful contents
  pub sound : is_faulted ≡ false
  pub durable : IsDurable device contents

-- ---- the committer

-- how far it is with one group, as the machine tells it, which commits, shows and hands on one group after another
pub data Stage : Type 0 where
  Ready : Stage
  Durable : Group → Stage
  Shown : Group → Stage

-- what waits for the committer, and what it has beside its engine
pub record Committing : Type 0 where
  pub waiting : Waiting Work
  -- free lists that were taken and wait for the standby, oldest first
  pub aside : List FreeList
  pub stage : Stage
  -- the local mark
  pub local : ℕ

-- the committer's group in hand is that of the machine's span in hand
abbrev pub StageRefines : List Call → Stage → MachineStage → Type 0
StageRefines calls Ready machine_stage.Ready = Unit {0}
StageRefines calls (Durable group) (machine_stage.Durable span) = IsGroupOf calls group span
StageRefines calls (Shown group) (machine_stage.Shown span) = IsGroupOf calls group span
StageRefines calls _ _ = ⊥

-- the committer's queue and mark
pub record CommittingRefines (calls : List Call) (code : Committing) (machine : Machine) : Type 0 where
  pub work : AreWorkOf calls code.waiting.items machine.waiting
  pub aside : positions_of_lists code.aside ≡ machine.aside
  pub stage_is : StageRefines calls code.stage machine.stage
  pub local_is : code.local ≡ machine.local
