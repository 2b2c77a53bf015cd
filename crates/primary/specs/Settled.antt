-- Parts of a primary in which nothing is under way.
use Rattle.std.specs.Prelude.{◌≡◌, List, []}
use Rattle.model.specs.declared.work.FreeList.{FreeList}
use Rattle.model.specs.declared.work.Work.{Work}
use Rattle.model.specs.Group.{Contents}
use Rattle.redis_core.specs.Sequencing.{Sequencing}

-- No change waits for a group, and no version that has ended for a list.
pub record HasNothingOpen (s : Sequencing) : Type 0 where
  pub no_changes : s.waiting ≡ []
  pub none_ended : s.ended ≡ []

-- Nothing waits for the committer, no list stands aside, and the record has no gap.
pub record HasNothingInHand (contents : Contents) (work : List Work) (aside : List FreeList) : Type 0 where
  pub no_work : work ≡ []
  pub none_aside : aside ≡ []
  pub no_gaps : contents.current.gaps.items ≡ []
