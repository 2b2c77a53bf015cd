-- Groups that are closed ahead: what closing one keeps, whatever they are behind.
use Rattle.std.specs.Prelude.{◌≢◌, ◌<◌, ◌++◌, ℕ, Bool, true, false, List, [], length}
use Rattle.pmem.specs.Device.{State}
use Rattle.model.specs.declared.work.FreeList.{FreeList}
use Rattle.model.specs.declared.work.Work.{Work}
use Rattle.model.specs.Group.{Contents}
use Rattle.wbl_engine.specs.declared.freeing.Freed.{Freed}
use Rattle.pipes.specs.Waiting.{Waiting}
use Rattle.pipes.specs.declared.limits.TheConstants.{PIPE_ITEMS}
use Rattle.redis_core.specs.Sequencing.{Sequencing}
use Rattle.group_commit.specs.declared.due.Due.{Due}
use Rattle.group_commit.specs.declared.due.Due.TheVariants as due
use Rattle.primary.specs.Recalling.{KeepsPast, Past}
use Rattle.primary.specs.Standing.{StandsOver}

-- changes wait to be closed, and there is room for their group
abbrev pub MayCloseGroup : Sequencing → Waiting Work → Type 0
MayCloseGroup sequencer ahead = (sequencer.waiting ≢ []) × (length ahead.items < PIPE_ITEMS)

-- Whatever the committer has in hand and waits for it, with what was ahead behind that the sequencer stood over it: with what is ahead now it does so still, and
-- what was kept of the past is kept.
pub record GoesAhead (old : Sequencing) (before : List Work) (new : Sequencing) (after : List Work) : Type 0 where
  pub stands : (device : State) (contents : Contents) (items : List Work) (aside : List FreeList) (notices : List Freed)
      → StandsOver device contents (items ++ before) aside old notices → StandsOver device contents (items ++ after) aside new notices
  pub keeps : (low : ℕ) (past : Past) (device : State) (contents : Contents) (items : List Work) (aside : List FreeList) (notices : List Freed)
      → StandsOver device contents (items ++ before) aside old notices → KeepsPast low past contents (items ++ before) aside old
      → KeepsPast low past contents (items ++ after) aside new

-- the step commits a group, tells of one, or hands one on: of these the back takes each as if nothing were behind its queue
abbrev pub is_of_commit : Due → Bool
is_of_commit due.Commit = true
is_of_commit due.Raise = true
is_of_commit due.Hand = true
is_of_commit _ = false
