-- Groups and frames of the machine, and those of the code that refine them.
use Rattle.std.specs.Prelude.{◌≡◌, ℕ, ◌+◌, ◌-◌, ◌≤◌, ◌<◌, List, [], ◌∷◌, map}
use Rattle.model.specs.declared.call.Call.{Call}
use Rattle.model.specs.declared.group.Group.{Group}
use Rattle.model.specs.declared.group.TheConstants.{MAX_PARTS}
use Rattle.model.specs.declared.work.FreeList.{FreeList}
use Rattle.model.specs.declared.work.Work.{Work}
use Rattle.model.specs.declared.work.Work.TheVariants as work
use Rattle.model.specs.Call.{position_of}
use Rattle.model.specs.Position.{changes_since}
use Rattle.model.specs.Group.{changes_of_group, last_position}
use Rattle.machine.specs.Event.{Commits, Frees, Span, Work as MachineWork}

-- the span lies within the list, and has no more calls than one group
pub record IsWithin (calls : List Call) (span : Span) : Type 0 where
  pub rising : span.before < span.after
  pub within : span.after ≤ position_of calls
  pub few : span.after ≤ span.before + MAX_PARTS

-- the group has the changes of the list between the positions of the span
pub record IsGroupOf (calls : List Call) (group : Group) (span : Span) : Type 0 where
  pub span_within : IsWithin calls span
  pub before : group.before ≡ span.before
  pub after : last_position group.before group.parts.items ≡ span.after
  pub changes : changes_of_group group ≡ changes_since calls span.before (span.after - span.before)

abbrev pub AreGroupsOf : List Call → List Group → List Span → Type 0
AreGroupsOf calls [] [] = Unit {0}
AreGroupsOf calls (group ∷ groups) (span ∷ spans) = IsGroupOf calls group span × AreGroupsOf calls groups spans
AreGroupsOf calls _ _ = ⊥

-- ---- the committer's queue

abbrev pub IsWorkOf : List Call → Work → MachineWork → Type 0
IsWorkOf calls (work.Commit group) (Commits span) = IsGroupOf calls group span
IsWorkOf calls (work.Free list) (Frees position) = list.position ≡ position
IsWorkOf calls _ _ = ⊥

abbrev pub AreWorkOf : List Call → List Work → List MachineWork → Type 0
AreWorkOf calls [] [] = Unit {0}
AreWorkOf calls (item ∷ items) (work ∷ works) = IsWorkOf calls item work × AreWorkOf calls items works
AreWorkOf calls _ _ = ⊥

abbrev pub positions_of_lists : List FreeList → List ℕ
positions_of_lists = map (λ list. list.position)
