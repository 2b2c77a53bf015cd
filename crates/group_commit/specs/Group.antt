-- Groups that wait to be committed, one after another, and free lists among them.
use Rattle.std.specs.Prelude.{List, [], ◌∷◌}
use Rattle.model.specs.declared.group.Group.{Group}
use Rattle.model.specs.declared.work.FreeList.{FreeList}
use Rattle.model.specs.declared.work.Work.{Work}
use Rattle.model.specs.declared.work.Work.TheVariants as work
use Rattle.model.specs.Group.{AreEnded, Contents, IsGroup, after_group}

-- the contents after all of the groups
abbrev pub after_groups : Contents → List Group → Contents
after_groups contents [] = contents
after_groups contents (group ∷ groups) = after_groups (after_group contents group) groups

-- ---- groups and free lists

-- each group is what a commit asks for, after those before it, and the entries of each list have ended by then
abbrev pub AreWork : Contents → List Work → Type 0
AreWork contents [] = Unit {0}
AreWork contents (work.Commit group ∷ items) = IsGroup contents group × AreWork (after_group contents group) items
AreWork contents (work.Free list ∷ items) = AreEnded contents list.entries.items × AreWork contents items

abbrev pub groups_of : List Work → List Group
groups_of [] = []
groups_of (work.Commit group ∷ items) = group ∷ groups_of items
groups_of (work.Free list ∷ items) = groups_of items

abbrev pub lists_of : List Work → List FreeList
lists_of [] = []
lists_of (work.Commit group ∷ items) = lists_of items
lists_of (work.Free list ∷ items) = list ∷ lists_of items

-- the lists before the first group
abbrev pub lists_before : List Work → List FreeList
lists_before [] = []
lists_before (work.Commit group ∷ items) = []
lists_before (work.Free list ∷ items) = list ∷ lists_before items

-- the contents after all of the groups: the lists wait
abbrev pub after_work : Contents → List Work → Contents
after_work contents items = after_groups contents (groups_of items)
