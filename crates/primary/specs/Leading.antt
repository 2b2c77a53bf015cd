-- What a primary's queue leads to: what waits for the committer, and what the sequencer's tables say.
use Rattle.std.specs.Prelude.{◌≡◌, ◌≢◌, ℕ, ◌+◌, ◌≤◌, List, [], ◌++◌, Some}
use Rattle.std.specs.List.{AllByRecursion, flat_map}
use Rattle.kv_types.specs.declared.place.EntryNo.{EntryNo}
use Rattle.kv_types.specs.declared.place.Extent.{Extent}
use Rattle.model.specs.declared.group.Group.{Group}
use Rattle.model.specs.declared.work.FreeList.{FreeList}
use Rattle.model.specs.declared.work.Work.{Work}
use Rattle.model.specs.Group.{AreApart, AreEnded, Contents}
use Rattle.model.specs.Image.{Version, first_extent_line}
use Rattle.wbl_engine.specs.declared.freeing.Freed.{Freed}
use Rattle.redis_core.specs.Sequencing.{Expects, IsAheadOf, Sequencing}
use Rattle.group_commit.specs.Group.{AreWork, after_work, groups_of, lists_of}
use Rattle.group_commit.specs.Working.{entries_of_lists}

-- ---- the queue

-- each of the groups is of this epoch
abbrev pub AreOfEpoch : ℕ → List Group → Type 0
AreOfEpoch epoch = AllByRecursion (λ group. group.epoch ≡ epoch)

-- what was freed and told in notices that the sequencer has not taken
abbrev pub entries_told : List Freed → List EntryNo
entries_told = flat_map (λ notice. notice.entries.items)

abbrev pub extents_told : List Freed → List Extent
extents_told = flat_map (λ notice. notice.extents.items)

-- Doing this work, whose groups are of the record's epoch, an engine with these contents reaches contents that the sequencer is ahead of. No entry is in
-- two free lists, and what the notices tell comes back to the sequencer's heap.
pub record Leads (contents : Contents) (waiting : List Work) (aside : List FreeList) (s : Sequencing) (notices : List Freed) : Type 0 where
  pub work_is : AreWork contents waiting
  pub epochs : AreOfEpoch contents.current.epoch (groups_of waiting)
  pub stands : IsAheadOf s (after_work contents waiting)
  pub expects : Expects s (after_work contents waiting) (entries_told notices) (extents_told notices)
  pub aside_ended : AreEnded contents (entries_of_lists aside)
  pub listed : AreEnded (after_work contents waiting) (entries_of_lists (aside ++ lists_of waiting) ++ s.ended)

-- a sequencer that was ahead of any work is ahead of it still
abbrev pub KeepsLead : Sequencing → Sequencing → Type 0
KeepsLead old new = (contents : Contents) (waiting : List Work) (aside : List FreeList) → Leads contents waiting aside old [] → Leads contents waiting aside new []

-- ---- versions in the lines of the extents

-- the run lies there
pub record LiesInside (lines' first lines : ℕ) : Type 0 where
  pub above : first_extent_line lines' ≤ first
  pub within : first + lines ≤ lines'

-- all versions do, and no two of them share a line
pub record AreLaid (contents : Contents) : Type 0 where
  pub inside : (i : ℕ) (version : Version) → contents.versions i ≡ Some version → LiesInside contents.lines version.first_line version.lines
  pub apart : (i j : ℕ) (v w : Version) → i ≢ j → contents.versions i ≡ Some v → contents.versions j ≡ Some w → AreApart v.first_line v.lines w.first_line w.lines
