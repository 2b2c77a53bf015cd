-- The committer's queue and stage still stand for the machine's while the list grows; and the first group that waits there.
use Rattle.std.proofs.Common.{rules, ◌≡◌, ℕ, List, [], ◌∷◌, ◌++◌, map, refl, ap₂}
use Rattle.model.specs.declared.call.Call.{Call}
use Rattle.model.specs.declared.group.Group.{Group}
use Rattle.model.specs.declared.work.FreeList.{FreeList}
use Rattle.model.specs.declared.work.Work.{Work}
use Rattle.model.specs.declared.work.Work.TheVariants as work
use Rattle.machine.specs.Event.{Committer as Machine, Commits, Frees, Stage as MachineStage, Span, Work as MachineWork, from_group, lists_before}
use Rattle.machine.specs.World as machine_stage
use Rattle.node_steps.specs.Committing.{Committing, CommittingRefines, Durable, Ready, Shown, Stage, StageRefines}
use Rattle.node_steps.specs.GroupSpan.{AreWorkOf, IsGroupOf, positions_of_lists}
use Rattle.node_steps.proofs.GroupSpanLemmas.{IsGroupOf-grows}
use Rattle.node_steps.proofs.QueueLemmas.{AreWorkOf-grows}

-- ---- while the list grows

StageRefines-grows : (calls more : List Call) (code : Stage) (machine : MachineStage) → StageRefines calls code machine → StageRefines (calls ++ more) code machine
StageRefines-grows calls more Ready machine_stage.Ready stands = tt
StageRefines-grows calls more (Durable group) (machine_stage.Durable span) stands = IsGroupOf-grows calls more group span stands
StageRefines-grows calls more (Shown group) (machine_stage.Shown span) stands = IsGroupOf-grows calls more group span stands
StageRefines-grows calls more code machine stands = absurd stands

pub CommittingRefines-grows : (calls more : List Call) (code : Committing) (machine : Machine) → CommittingRefines calls code machine → CommittingRefines (calls ++ more) code machine
CommittingRefines-grows calls more code machine stands =
    search (rules, AreWorkOf-grows calls more code.waiting.items machine.waiting stands.work, StageRefines-grows calls more code.stage machine.stage stands.stage_is, stands)

-- ---- a group that waits behind free lists

-- the first group of what waits, with the lists before it and what is behind it, and its span
pub record FirstGroup (calls : List Call) (lists : List FreeList) (group : Group) (rest : List Work) (works : List MachineWork) : Type 0 where
  pub first : Span
  pub others : List MachineWork
  pub from : from_group works ≡ Commits first ∷ others
  pub before : positions_of_lists lists ≡ lists_before works
  pub is : IsGroupOf calls group first
  pub are : AreWorkOf calls rest others

pub first-group : (calls : List Call) (lists : List FreeList) (group : Group) (rest : List Work) (works : List MachineWork) → AreWorkOf calls (map work.Free lists ++ work.Commit group ∷ rest) works
    → FirstGroup calls lists group rest works
first-group calls [] group rest [] are = absurd are
first-group calls [] group rest (Commits span ∷ works) are = record { first = span; others = works; from = refl; before = refl; is = are.0; are = are.1 }
first-group calls [] group rest (Frees position ∷ works) are = absurd are.0
first-group calls (list ∷ lists) group rest [] are = absurd are
first-group calls (list ∷ lists) group rest (Commits span ∷ works) are = absurd are.0
first-group calls (list ∷ lists) group rest (Frees position ∷ works) are =
    let next = first-group calls lists group rest works are.1 in
    record {
      first = next.first;
      others = next.others;
      from = next.from;
      before = ap₂ (λ (p : ℕ) (ps : List ℕ). p ∷ ps) are.0 next.before;
      is = next.is;
      are = next.are;
    }
