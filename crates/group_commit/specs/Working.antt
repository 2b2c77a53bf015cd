-- What a turn of a committer comes to, by the step that was due.
use Rattle.std.specs.Prelude.{◌≡◌, ◌⊎◌, ℕ, ◌+◌, ◌<◌, ◌≤◌, Bool, false, true, List, [], ◌∷◌, ◌++◌, length, map, min, Option, Some, None, Result, Ok, Err, IfOk, IfErr, IsErrOf, OnOk, OnErr}
use Rattle.std.specs.Global.{Global}
use Rattle.std.specs.List.{flat_map}
use Rattle.std.specs.declared.collections.VecDeque.{VecDeque}
use Rattle.pmem.specs.Device.{State}
use Rattle.pmem.specs.Runs.{LeavesOnly}
use Rattle.kv_types.specs.declared.place.EntryNo.{EntryNo}
use Rattle.kv_types.specs.declared.refusal.Refusal.{Refusal}
use Rattle.kv_types.specs.declared.refusal.Refusal.TheVariants.{Fault, Exhausted, Memory}
use Rattle.model.specs.declared.group.Group.{Group}
use Rattle.model.specs.declared.image.TheConstants.{COUNTER_LIMIT}
use Rattle.model.specs.declared.work.FreeList.{FreeList}
use Rattle.model.specs.declared.work.Work.{Work}
use Rattle.model.specs.declared.work.Work.TheVariants as work
use Rattle.model.specs.Floor.{floor_raised}
use Rattle.model.specs.Group.{AreEnded, Contents}
use Rattle.pipes.specs.Waiting.{Waiting}
use Rattle.wbl_engine.specs.declared.freeing.Freed.{Freed as Places}
use Rattle.wbl_engine.specs.CommittingAll.{AreGroups}
use Rattle.wbl_engine.specs.Contents.{Keeps, IsDurable, Same}
use Rattle.wbl_engine.specs.Freeing.{Clears, KeepsFreed, after_free, cleared_contents, extents_of}
use Rattle.wbl_engine.specs.Raising.{ExhaustsRaising}
use Rattle.group_commit.specs.Committing.{Commits, HasShown, raised, ready_again}
use Rattle.group_commit.specs.Due.{left_by, reached_by}
use Rattle.group_commit.specs.Group.{groups_of, lists_before}
use Rattle.group_commit.specs.declared.committer.Committer.{Committer}
use Rattle.group_commit.specs.declared.due.Due.{Due}
use Rattle.group_commit.specs.declared.due.Due.TheVariants as due
use Rattle.group_commit.specs.declared.stage.Done.{Done}
use Rattle.group_commit.specs.declared.stage.Done.TheVariants.{Cleared, Freed, Handed, Idle, Raised}
use Rattle.group_commit.specs.declared.stage.Stage.TheVariants.{Durable, Ready, Shown}

-- the entries of these free lists, in order
abbrev pub entries_of_lists : List FreeList → List EntryNo
entries_of_lists = flat_map (λ list. list.entries.items)

-- What waits is lawful: each group is what a commit asks for, after those before it, and the entries of the lists before the first, with those that stand aside,
-- have ended, each listed once.
pub record IsLawful (contents : Contents) (aside : List FreeList) (items : List Work) : Type 0 where
  pub groups : AreGroups contents (groups_of items)
  pub lists : AreEnded contents (entries_of_lists (aside ++ lists_before items))

-- These items were free lists, and this group behind them, if one came; else nothing is left.
abbrev pub AreTaken : List Work → List FreeList → Option Group → List Work → Type 0
AreTaken before lists (Some group) after = before ≡ map work.Free lists ++ work.Commit group ∷ after
AreTaken before lists None after = (before ≡ map work.Free lists) × (after ≡ [])

-- These groups were taken from the front of what waits, one after another, each with the free lists before it, which are all of these.
abbrev pub AreTakenEach : List Work → List FreeList → List Group → List Work → Type 0
AreTakenEach before lists [] after = (lists ≡ []) × (after ≡ before)
AreTakenEach before lists (group ∷ groups) after =
    (first : List FreeList) × (rest : List FreeList) × (between : List Work) × (lists ≡ first ++ rest) × AreTaken before first (Some group) between
    × AreTakenEach between rest groups after

-- Free lists were taken from the front of what waits and stand aside behind those that did; then that came.
pub record SetsAside (aside : List FreeList) (before : List Work) (came : Option Group) (aside' : List FreeList) (after : List Work) : Type 0 where
  pub lists : List FreeList
  pub set_aside : aside' ≡ aside ++ lists
  pub taken : AreTaken before lists came after

-- by what is known of an engine
module _ {E : Type 0} (device : E → State) (contents : E → Contents) (is_faulted : E → Bool) where
  -- The oldest list aside was freed, once the record's floor was at its position or above, or that came to this. The others stay aside.
  pub record FreesFirst (old : Committer E) (list : FreeList) (rest : List FreeList) (result : Result Done Refusal) (new : Committer E) : Type 0 where
    pub answer : IfOk result (λ done. (places : Places) × (done ≡ Freed places) × (places.entries.items ≡ list.entries.items)
        × (places.extents.items ≡ extents_of (contents old.engine).versions list.entries.items))
    pub aside : OnOk result (new.aside.items ≡ rest)
    pub moved : OnOk result (Same (after_free list.entries.items (floor_raised list.position (contents old.engine))) (contents new.engine))
    pub durable : OnOk result (IsDurable (device new.engine) (contents new.engine))
    pub sound : OnOk result ((is_faulted new.engine ≡ false) × ((device new.engine).failures ≡ (device old.engine).failures))
    pub causes : IfErr result (λ refusal. (refusal ≡ Fault) ⊎ ((refusal ≡ Exhausted) ⊎ (refusal ≡ Memory)))
    pub kept : OnErr result (new.aside.items ≡ list ∷ rest)
    pub memory : IsErrOf result Memory → new.engine ≡ old.engine
    pub exhausted : IsErrOf result Exhausted → ExhaustsRaising list.position (contents old.engine).current × (new.engine ≡ old.engine)
    pub exhausts : is_faulted old.engine ≡ false → ExhaustsRaising list.position (contents old.engine).current → result ≡ Err Exhausted
    pub fault : IsErrOf result Fault → (is_faulted old.engine ≡ true) ⊎ ((device old.engine).failures < (device new.engine).failures)
    pub stopped : IsErrOf result Fault → is_faulted new.engine ≡ true
    pub lines : (contents new.engine).lines ≡ (contents old.engine).lines
    pub stage : new.stage ≡ Ready
    pub local : new.local ≡ old.local
    pub moments : is_faulted old.engine ≡ false → LeavesOnly (device old.engine) (device new.engine)
        (KeepsFreed list.entries.items (contents old.engine) (floor_raised list.position (contents old.engine)))

  -- The oldest gap of the record was cleared, or that came to this.
  pub record ClearsGap (old : Committer E) (result : Result Done Refusal) (new : Committer E) : Type 0 where
    pub some : 0 < length (contents old.engine).current.gaps.items
    pub answer : IfOk result (λ done. (places : Places) × (done ≡ Cleared places) × (places.extents.items ≡ []) × Clears (contents old.engine) places.entries.items (contents new.engine))
    pub durable : OnOk result (IsDurable (device new.engine) (contents new.engine))
    pub sound : OnOk result ((is_faulted new.engine ≡ false) × ((device new.engine).failures ≡ (device old.engine).failures))
    pub causes : IfErr result (λ refusal. (refusal ≡ Fault) ⊎ ((refusal ≡ Exhausted) ⊎ (refusal ≡ Memory)))
    pub memory : IsErrOf result Memory → new.engine ≡ old.engine
    pub exhausted : IsErrOf result Exhausted → (COUNTER_LIMIT ≤ (contents old.engine).current.number + 1) × (new.engine ≡ old.engine)
    pub exhausts : is_faulted old.engine ≡ false → COUNTER_LIMIT ≤ (contents old.engine).current.number + 1 → result ≡ Err Exhausted
    pub fault : IsErrOf result Fault → (is_faulted old.engine ≡ true) ⊎ ((device old.engine).failures < (device new.engine).failures)
    pub stopped : IsErrOf result Fault → is_faulted new.engine ≡ true
    pub lines : (contents new.engine).lines ≡ (contents old.engine).lines
    pub aside : new.aside.items ≡ []
    pub stage : new.stage ≡ Ready
    pub local : new.local ≡ old.local
    pub moments : is_faulted old.engine ≡ false → LeavesOnly (device old.engine) (device new.engine)
        (λ image. Keeps (contents old.engine) image ⊎ Keeps (cleared_contents (contents old.engine)) image)

  -- room for what is taken was refused, and nothing changed
  pub record LacksRoom (old : Committer E) (before : Waiting Work) (result : Result Done Refusal) (new : Committer E) (after : Waiting Work) : Type 0 where
    pub answer : result ≡ Err Memory
    pub engine : new.engine ≡ old.engine
    pub stage : new.stage ≡ old.stage
    pub local : new.local ≡ old.local
    pub aside : new.aside.items ≡ old.aside.items
    pub queue : after ≡ before

  -- The groups that waited were taken, as many as the link has room for, and the free lists before and between them stand aside, behind those that did; the commit
  -- of the groups, under records with this remote mark as their floor or a higher one, came to that.
  pub record TakesGroups (room remote : ℕ) (old : Committer E) (before : Waiting Work) (result : Result Done Refusal) (new : Committer E) (after : Waiting Work) : Type 0 where
    pub lists : List FreeList
    pub groups : List Group
    pub some : 0 < length groups
    pub many : length groups ≡ min room (length (groups_of before.items))
    pub taken : AreTakenEach before.items lists groups after.items
    pub set_aside : new.aside.items ≡ old.aside.items ++ lists
    pub commits : Commits device contents is_faulted remote old groups result new

  -- What was reached was set aside, and the first of it was freed, which the standby has passed, or that came to this.
  pub record FreesReached (has_room : Bool) (remote : ℕ) (old : Committer E) (before : Waiting Work) (result : Result Done Refusal) (new : Committer E) (after : Waiting Work) : Type 0 where
    pub list : FreeList
    pub rest : List FreeList
    pub reached : reached_by has_room old.aside.items before.items ≡ list ∷ rest
    pub passed : list.position ≤ remote
    pub left : after.items ≡ left_by has_room before.items
    pub frees : FreesFirst old list rest result new

  -- the local mark was raised to the engine's position, to which the groups in hand led
  pub record RaisesMark (old : Committer E) (result : Result Done Refusal) (new : Committer E) : Type 0 where
    pub groups : VecDeque Group Global
    pub were : old.stage ≡ Durable groups
    pub answer : result ≡ Ok Raised
    pub now : new ≡ raised device contents is_faulted groups old

  -- by what is known of the end of a link at which groups are offered
  module _ {O : Type 0} (offered : O → List Group) (known_room : O → ℕ) where
    -- nothing was offered, and no room was lost
    pub record OffersNone (link link' : O) : Type 0 where
      pub offered_is : offered link' ≡ offered link
      pub room : known_room link ≤ known_room link'

    -- The first group in hand was handed on, and the others stay in hand.
    pub record HandsFirst (groups : List Group) (old : Committer E) (link : O) (result : Result Done Refusal) (new : Committer E) (link' : O) : Type 0 where
      pub group : Group
      pub rest : List Group
      pub first : groups ≡ group ∷ rest
      pub answer : result ≡ Ok Handed
      pub left : HasShown rest new.stage
      pub now : new ≡ record old { stage = new.stage }
      pub offered_is : offered link' ≡ offered link ++ group ∷ []

    -- It was; or the link neither knew of room nor found any, and all stay in hand; or there is none, and the next may be taken.
    pub record HandsOn (old : Committer E) (link : O) (result : Result Done Refusal) (new : Committer E) (link' : O) : Type 0 where
      pub groups : VecDeque Group Global
      pub were : old.stage ≡ Shown groups
      pub came : HandsFirst groups.items old link result new link'
          ⊎ ((result ≡ Ok Idle) × (new ≡ old) × (known_room link ≡ 0) × (offered link' ≡ offered link))
          ⊎ ((groups.items ≡ []) × (result ≡ Ok Idle) × (new ≡ ready_again old) × (offered link' ≡ offered link))

    -- What a turn came to whose step was due, by whether the link had room, and by the remote mark: that step was taken, or refused, and no other.
    abbrev pub Takes : Due → Bool → ℕ → Committer E → Waiting Work → O → Result Done Refusal → Committer E → Waiting Work → O → Type 0
    Takes due.Commit has_room remote old before link result new after link' =
        OffersNone link link' × (TakesGroups (known_room link') remote old before result new after ⊎ LacksRoom old before result new after)
    Takes due.Free has_room remote old before link result new after link' =
        OffersNone link link' × (FreesReached has_room remote old before result new after ⊎ LacksRoom old before result new after)
    Takes due.Clear has_room remote old before link result new after link' = OffersNone link link' × (after ≡ before) × ClearsGap old result new
    Takes due.Raise has_room remote old before link result new after link' = (link' ≡ link) × (after ≡ before) × RaisesMark old result new
    Takes due.Hand has_room remote old before link result new after link' = (after ≡ before) × HandsOn old link result new link'
    Takes due.Nothing has_room remote old before link result new after link' = OffersNone link link' × (after ≡ before) × (result ≡ Ok Idle) × (new ≡ old)
