-- What stands of a primary between its steps.
use Rattle.std.specs.Prelude.{◌≡◌, ℕ, List, [], ◌∷◌}
use Rattle.pmem.specs.Device.{State}
use Rattle.model.specs.declared.work.FreeList.{FreeList}
use Rattle.model.specs.declared.work.Work.{Work}
use Rattle.model.specs.Group.{Contents, IsConsistent}
use Rattle.wbl_engine.specs.declared.freeing.Freed.{Freed}
use Rattle.wbl_engine.specs.Contents.{IsDurable}
use Rattle.redis_core.specs.Sequencing.{Sequencing, TakesBack}
use Rattle.group_commit.specs.declared.stage.Done.{Done}
use Rattle.group_commit.specs.declared.stage.Done.TheVariants as done
use Rattle.primary.specs.declared.back.Back.{Back}
use Rattle.primary.specs.declared.primary.Primary.{Primary}
use Rattle.primary.specs.Leading.{AreLaid, Leads}

-- What waits leads to what the sequencer holds, each crash leaves what the engine contains, and its versions lie beside one another.
pub record StandsOver (device : State) (contents : Contents) (waiting : List Work) (aside : List FreeList) (s : Sequencing) (notices : List Freed) : Type 0 where
  pub leads : Leads contents waiting aside s notices
  pub consistent : IsConsistent contents
  pub laid : AreLaid contents
  pub durable : IsDurable device contents

-- what a turn of the committer gives back to the sequencer's heap
abbrev pub notices_of : Done → List Freed
notices_of (done.Freed places) = places ∷ []
notices_of (done.Cleared places) = places ∷ []
notices_of _ = []

-- what it freed is free in the sequencer's heap again, and nothing else changed there
abbrev pub IsTold : Done → Sequencing → Sequencing → Type 0
IsTold (done.Freed places) old new = TakesBack old places.entries.items places.extents.items new
IsTold (done.Cleared places) old new = TakesBack old places.entries.items places.extents.items new
IsTold _ old new = new ≡ old

-- the position of the engine after such a turn, of which only a commit moves it
abbrev pub position_after : Done → ℕ → ℕ
position_after (done.Committed position) before = position
position_after _ before = before

-- by what is known of an engine
module _ {E : Type 0} (device : E → State) (contents : E → Contents) where
  -- what is in hand leads to what this sequencer holds, once it is told of these notices
  abbrev pub BackStands : Back E → Sequencing → List Freed → Type 0
  BackStands back s notices = StandsOver (device back.committer.engine) (contents back.committer.engine) back.work.items back.committer.aside.items s notices

  abbrev pub Stands : {K : Type 0} → Primary E K → Type 0
  Stands p = BackStands p.back p.front.sequencer []
