-- Which step of a committer is due, by its stage, the free lists aside, what waits, whether the link has room and the record a gap, and the remote mark.
use Rattle.std.specs.Prelude.{ℕ, Bool, true, false, ◌&&◌, nat_lt, nat_le, if◌then◌else◌, List, [], ◌∷◌, ◌++◌, length}
use Rattle.std.specs.List.{list_any}
use Rattle.model.specs.declared.work.FreeList.{FreeList}
use Rattle.model.specs.declared.work.Work.{Work}
use Rattle.model.specs.declared.work.Work.TheVariants as work
use Rattle.model.specs.Group.{Contents}
use Rattle.pipes.specs.Waiting.{Waiting}
use Rattle.group_commit.specs.Group.{lists_of}
use Rattle.group_commit.specs.declared.committer.Committer.{Committer}
use Rattle.group_commit.specs.declared.due.Due.{Due}
use Rattle.group_commit.specs.declared.due.Due.TheVariants as due
use Rattle.group_commit.specs.declared.stage.Stage.{Stage}
use Rattle.group_commit.specs.declared.stage.Stage.TheVariants.{Ready, Durable, Shown}

abbrev pub is_group : Work → Bool
is_group (work.Commit group) = true
is_group (work.Free list) = false

abbrev pub has_group : List Work → Bool
has_group = list_any is_group

-- The free lists that are reached where no group may be taken: those aside, and where the link has room those that wait.
abbrev pub reached_by : Bool → List FreeList → List Work → List FreeList
reached_by has_room aside items = if has_room then aside ++ lists_of items else aside

-- what waits once they are aside
abbrev pub left_by : Bool → List Work → List Work
left_by has_room items = if has_room then [] else items

-- Where no group may be taken: the first list that is reached is freed, once the standby has passed it; where none is, the link has room and the record has a
-- gap, the oldest gap is cleared.
abbrev pub due_beside : List FreeList → Bool → Bool → ℕ → Due
due_beside [] has_room has_gap remote = if has_room && has_gap then due.Clear else due.Nothing
due_beside (list ∷ lists) has_room has_gap remote = if nat_le list.position remote then due.Free else due.Nothing

-- Groups in hand are told of, and then handed on. With none in hand, what waits is taken, where the link has room for a group.
abbrev pub due_of : Stage → List FreeList → List Work → Bool → Bool → ℕ → Due
due_of Ready aside items has_room has_gap remote = if has_room && has_group items then due.Commit else due_beside (reached_by has_room aside items) has_room has_gap remote
due_of (Durable groups) aside items has_room has_gap remote = due.Raise
due_of (Shown groups) aside items has_room has_gap remote = due.Hand

-- the step of this committer that is due, with this queue
abbrev pub due_now : {E : Type 0} → (E → Contents) → Committer E → Waiting Work → Bool → ℕ → Due
due_now contents committer waiting has_room remote =
    due_of committer.stage committer.aside.items waiting.items has_room (nat_lt 0 (length (contents committer.engine).current.gaps.items)) remote
