-- What the calls of a primary say they did, as acts.
use Rattle.std.specs.Prelude.{ℕ, Bool, List, [], ◌∷◌, Option, Result, Ok, Err}
use Rattle.std.specs.List.{flat_map}
use Rattle.pmem.specs.Device.{State}
use Rattle.kv_types.specs.declared.refusal.Refusal.{Refusal}
use Rattle.model.specs.declared.group.Group.{Group}
use Rattle.model.specs.declared.work.Work.{Work}
use Rattle.model.specs.Group.{Contents}
use Rattle.wbl_engine.specs.declared.freeing.Freed.{Freed as Places}
use Rattle.pipes.specs.Waiting.{Waiting}
use Rattle.redis_core.specs.Sequencing.{Sequencing}
use Rattle.group_commit.specs.declared.committer.Committer.{Committer}
use Rattle.group_commit.specs.declared.stage.Done.{Done}
use Rattle.group_commit.specs.declared.stage.Done.TheVariants as done
use Rattle.group_commit.specs.declared.stage.Stage.{Stage}
use Rattle.group_commit.specs.declared.stage.Stage.TheVariants.{Durable}
use Rattle.primary.specs.Standing.{notices_of}
use Rattle.node_steps.specs.Acts.{Act, Cleared, Committed, Freed, HandedOn, Raised}
use Rattle.node_steps.specs.Committing.{Ready}
use Rattle.node_steps.specs.Node.{Node}

-- the local mark, once it tells of what is in hand
abbrev pub local_shown : Stage → ℕ → ℕ → ℕ
local_shown (Durable groups) local position = position
local_shown stage local position = local

-- by what is known of an engine
module _ {E : Type 0} (device : E → State) (contents : E → Contents) (is_faulted : E → Bool) where
  -- What a thread has whose front has this sequencer, and whose back this committer and this queue. What is in hand has been told of and handed on: the machine
  -- does that of each group where it is committed, as nobody sees the mark and the link before the thread has moved them.
  abbrev pub node_of : List (Option ℕ) → Sequencing → List Places → Committer E → Waiting Work → Node
  node_of seats s notices committer work =
      record {
        seats = seats;
        sequencer = s;
        committing = record {
          waiting = work;
          aside = committer.aside.items;
          stage = Ready;
          local = local_shown committer.stage committer.local (contents committer.engine).current.position;
        };
        notices = notices;
        device = device committer.engine;
        contents = contents committer.engine;
        is_faulted = is_faulted committer.engine;
      }

-- a group is committed, told of, and handed on
abbrev pub acts_of_group : Group → List Act
acts_of_group group = Committed ∷ Raised ∷ HandedOn group ∷ []

-- What a turn of the committer came to, as acts, of a turn after which these groups are in hand, that found this room at the link, and went by this remote mark:
-- where it committed, those of each group, one group after another; none where groups that were committed are told of or handed on, where nothing was done, or
-- memory was refused.
abbrev pub acts_of : List Group → Bool → ℕ → Result Done Refusal → List Act
acts_of groups room remote (Ok (done.Committed position)) = flat_map acts_of_group groups
acts_of groups room remote (Ok (done.Freed places)) = Freed room remote ∷ []
acts_of groups room remote (Ok (done.Cleared places)) = Cleared ∷ []
acts_of groups room remote _ = []

-- what the sequencer is to be told then
abbrev pub noted : Result Done Refusal → List Places
noted (Ok came) = notices_of came
noted (Err refusal) = []
