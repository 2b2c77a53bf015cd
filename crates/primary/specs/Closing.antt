-- What closing a group or a free list does to the sequencer and to the committer's queue.
use Rattle.std.specs.Prelude.{◌≡◌, ◌≢◌, ◌⊎◌, ◌<◌, ◌++◌, ◌∷◌, List, [], length}
use Rattle.kv_types.specs.declared.place.EntryNo.{EntryNo}
use Rattle.kv_types.specs.declared.place.Extent.{Extent}
use Rattle.model.specs.declared.group.Group.{Group}
use Rattle.model.specs.declared.work.FreeList.{FreeList}
use Rattle.model.specs.declared.work.Work.{Work}
use Rattle.model.specs.declared.work.Work.TheVariants as work
use Rattle.model.specs.Group.{Contents}
use Rattle.pipes.specs.Waiting.{Waiting}
use Rattle.pipes.specs.declared.limits.TheConstants.{PIPE_ITEMS}
use Rattle.redis_core.specs.Sequencing.{Expects, IsAheadOf, Sequencing, HandsList, HandsOut, LeadsOn}

-- changes wait to be closed, or versions that have ended are in no free list, and there is room for the group or the list
abbrev pub MayClose : Sequencing → Waiting Work → Type 0
MayClose sequencer work = ((sequencer.waiting ≢ []) ⊎ (sequencer.ended ≢ [])) × (length work.items < PIPE_ITEMS)

-- all changes that waited are one group more, which goes last
pub record ClosesGroup (old : Sequencing) (before : Waiting Work) (new : Sequencing) (after : Waiting Work) : Type 0 where
  pub some : old.waiting ≢ []
  pub group : Group
  pub last : after.items ≡ before.items ++ work.Commit group ∷ []
  pub hands : HandsOut old group new
  pub leads : LeadsOn old group new

-- no changes waited, and all versions that have ended and were in no free list are one more, which goes last
pub record ClosesList (old : Sequencing) (before : Waiting Work) (new : Sequencing) (after : Waiting Work) : Type 0 where
  pub none : old.waiting ≡ []
  pub some : old.ended ≢ []
  pub list : FreeList
  pub last : after.items ≡ before.items ++ work.Free list ∷ []
  pub hands : HandsList old list new
  pub stands : (contents : Contents) → IsAheadOf old contents → IsAheadOf new contents
  pub expects : (contents : Contents) (entries : List EntryNo) (extents : List Extent) → Expects old contents entries extents → Expects new contents entries extents

abbrev pub ClosesOne : Sequencing → Waiting Work → Sequencing → Waiting Work → Type 0
ClosesOne old before new after = ClosesGroup old before new after ⊎ ClosesList old before new after
