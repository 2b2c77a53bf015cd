-- Groups and free lists that wait, as they come and go.
use Rattle.std.proofs.Common.{◌≡◌, List, [], ◌∷◌, ◌++◌, map, refl, ap}
use Rattle.model.specs.declared.group.Group.{Group}
use Rattle.model.specs.declared.work.FreeList.{FreeList}
use Rattle.model.specs.declared.work.Work.{Work}
use Rattle.model.specs.declared.work.Work.TheVariants as work
use Rattle.model.specs.Group.{AreEnded, Contents, IsGroup, after_group}
use Rattle.wbl_engine.specs.CommittingAll.{AreGroups}
use Rattle.group_commit.specs.Group.{AreWork, after_work, groups_of, lists_before, lists_of}
use Rattle.group_commit.specs.Working.{IsLawful, entries_of_lists}

-- the groups alone are what a commit asks for
pub AreGroups-of-work : (contents : Contents) (items : List Work) → AreWork contents items → AreGroups contents (groups_of items)
AreGroups-of-work contents [] are = tt
AreGroups-of-work contents (work.Commit group ∷ items) are = (are.0, AreGroups-of-work (after_group contents group) items are.1)
AreGroups-of-work contents (work.Free list ∷ items) are = AreGroups-of-work contents items are.1

-- ---- an item comes

pub groups_of-append : (items others : List Work) → groups_of (items ++ others) ≡ groups_of items ++ groups_of others
groups_of-append [] others = refl
groups_of-append (work.Commit group ∷ items) others = ap (λ groups. group ∷ groups) (groups_of-append items others)
groups_of-append (work.Free list ∷ items) others = groups_of-append items others

pub lists_of-append : (items others : List Work) → lists_of (items ++ others) ≡ lists_of items ++ lists_of others
lists_of-append [] others = refl
lists_of-append (work.Commit group ∷ items) others = lists_of-append items others
lists_of-append (work.Free list ∷ items) others = ap (λ lists. list ∷ lists) (lists_of-append items others)

pub AreWork-append : (contents : Contents) (items others : List Work) → AreWork contents items → AreWork (after_work contents items) others → AreWork contents (items ++ others)
AreWork-append contents [] others are more = more
AreWork-append contents (work.Commit group ∷ items) others are more = (are.0, AreWork-append (after_group contents group) items others are.1 more)
AreWork-append contents (work.Free list ∷ items) others are more = (are.0, AreWork-append contents items others are.1 more)

pub AreWork-push-group : (contents : Contents) (items : List Work) (group : Group) → AreWork contents items → IsGroup (after_work contents items) group → AreWork contents (items ++ work.Commit group ∷ [])
AreWork-push-group contents items group are is = AreWork-append contents items (work.Commit group ∷ []) are (is, tt)

pub AreWork-push-list : (contents : Contents) (items : List Work) (list : FreeList) → AreWork contents items → AreEnded (after_work contents items) list.entries.items → AreWork contents (items ++ work.Free list ∷ [])
AreWork-push-list contents items list are ended = AreWork-append contents items (work.Free list ∷ []) are (ended, tt)

pub after_work-push-group : (contents : Contents) (items : List Work) (group : Group) → after_work contents (items ++ work.Commit group ∷ []) ≡ after_group (after_work contents items) group
after_work-push-group contents [] group = refl
after_work-push-group contents (work.Commit first ∷ items) group = after_work-push-group (after_group contents first) items group
after_work-push-group contents (work.Free list ∷ items) group = after_work-push-group contents items group

pub after_work-push-list : (contents : Contents) (items : List Work) (list : FreeList) → after_work contents (items ++ work.Free list ∷ []) ≡ after_work contents items
after_work-push-list contents [] list = refl
after_work-push-list contents (work.Commit first ∷ items) list = after_work-push-list (after_group contents first) items list
after_work-push-list contents (work.Free first ∷ items) list = after_work-push-list contents items list

-- ---- lists go, and a group behind them

-- the lists are those that stood before the first group
pub lists_before-lists : (lists : List FreeList) (items : List Work) → lists_before (map work.Free lists ++ items) ≡ lists ++ lists_before items
lists_before-lists [] items = refl
lists_before-lists (list ∷ lists) items = ap (λ xs. list ∷ xs) (lists_before-lists lists items)

pub groups_of-lists : (lists : List FreeList) (items : List Work) → groups_of (map work.Free lists ++ items) ≡ groups_of items
groups_of-lists [] items = refl
groups_of-lists (list ∷ lists) items = groups_of-lists lists items

pub lists_of-lists : (lists : List FreeList) (items : List Work) → lists_of (map work.Free lists ++ items) ≡ lists ++ lists_of items
lists_of-lists [] items = refl
lists_of-lists (list ∷ lists) items = ap (λ xs. list ∷ xs) (lists_of-lists lists items)

-- what stands behind the lists is lawful without them
pub AreWork-behind : (contents : Contents) (lists : List FreeList) (items : List Work) → AreWork contents (map work.Free lists ++ items) → AreWork contents items
AreWork-behind contents [] items are = are
AreWork-behind contents (list ∷ lists) items are = AreWork-behind contents lists items are.1

-- ---- what a turn requires

pub lawful : (contents : Contents) (aside : List FreeList) (items : List Work) → AreWork contents items → AreEnded contents (entries_of_lists (aside ++ lists_before items)) → IsLawful contents aside items
lawful contents aside items are ended = record {
  groups = AreGroups-of-work contents items are;
  lists = ended;
}
