-- What each step of a committer does.
use Rattle.std.specs.Prelude.{◌≡◌, ◌⊎◌, ℕ, ◌<◌, Bool, true, false, List, [], ◌∷◌, Result, Err, IfOk, IfErr, IsErrOf, OnOk, OnErr}
use Rattle.std.specs.Global.{Global}
use Rattle.std.specs.declared.collections.VecDeque.{VecDeque}
use Rattle.pmem.specs.Device.{State}
use Rattle.pmem.specs.Runs.{LeavesOnly}
use Rattle.kv_types.specs.declared.refusal.Refusal.{Refusal}
use Rattle.kv_types.specs.declared.refusal.Refusal.TheVariants.{Fault, Exhausted}
use Rattle.model.specs.declared.group.Group.{Group}
use Rattle.model.specs.Group.{Contents}
use Rattle.wbl_engine.specs.CommittingAll.{AfterSome, CommitsEach, ExhaustsOne, KeepsSome, after_commits}
use Rattle.wbl_engine.specs.Contents.{IsDurable, Same}
use Rattle.group_commit.specs.declared.committer.Committer.{Committer}
use Rattle.group_commit.specs.declared.stage.Done.{Done}
use Rattle.group_commit.specs.declared.stage.Done.TheVariants.{Committed}
use Rattle.group_commit.specs.declared.stage.Stage.{Stage}
use Rattle.group_commit.specs.declared.stage.Stage.TheVariants.{Ready, Durable, Shown}

-- the groups in hand, in order
abbrev pub in_hand : Stage → List Group
in_hand Ready = []
in_hand (Durable groups) = groups.items
in_hand (Shown groups) = groups.items

-- these groups are committed, and the local mark does not tell of them
abbrev pub HasCommitted : List Group → Stage → Type 0
HasCommitted groups stage = (list : VecDeque Group Global) × (stage ≡ Durable list) × (list.items ≡ groups)

-- the local mark tells of these groups, which are to be handed on; where there are none, the next may be taken
abbrev pub HasShown : List Group → Stage → Type 0
HasShown [] stage = stage ≡ Ready
HasShown (group ∷ groups) stage = (list : VecDeque Group Global) × (stage ≡ Shown list) × (list.items ≡ group ∷ groups)

-- by what is known of an engine: what its device has gone through, what it holds, and whether a fence failed
module _ {E : Type 0} (device : E → State) (contents : E → Contents) (is_faulted : E → Bool) where
  -- Groups were taken, and their commit came to this. They are in hand only where it committed: refused ones are lost to the committer, whose engine then holds
  -- what came of some first ones. A crash at any moment of the commit leaves an image of the contents after some first ones of them, each whole, under a record
  -- that has this remote mark as its floor, or a higher one.
  pub record Commits (remote : ℕ) (old : Committer E) (groups : List Group) (result : Result Done Refusal) (new : Committer E) : Type 0 where
    pub answer : IfOk result (λ done. done ≡ Committed (contents new.engine).current.position)
    pub in_hand_is : OnOk result (HasCommitted groups new.stage)
    pub moved : OnOk result (Same (after_commits remote (contents old.engine) groups) (contents new.engine))
    pub durable : OnOk result (IsDurable (device new.engine) (contents new.engine))
    pub each : OnOk result (CommitsEach remote (contents old.engine) groups (device old.engine) (device new.engine))
    pub sound : OnOk result ((is_faulted new.engine ≡ false) × ((device new.engine).failures ≡ (device old.engine).failures))
    pub causes : IfErr result (λ refusal. (refusal ≡ Fault) ⊎ (refusal ≡ Exhausted))
    pub dropped : OnErr result (new.stage ≡ Ready)
    pub stays : OnErr result (AfterSome remote (contents old.engine) groups (λ some. Same some (contents new.engine)))
    -- a fence failed, in this call or an earlier one, and each later commit is refused so
    pub fault : IsErrOf result Fault → (is_faulted old.engine ≡ true) ⊎ ((device old.engine).failures < (device new.engine).failures)
    pub stopped : IsErrOf result Fault → is_faulted new.engine ≡ true
    pub faulted : is_faulted old.engine ≡ true → (result ≡ Err Fault) × (new.engine ≡ old.engine)
    -- a counter would reach 2^62, and the engine did not change
    pub exhausted : IsErrOf result Exhausted → ExhaustsOne (contents old.engine) groups × (new.engine ≡ old.engine)
    pub exhausts : is_faulted old.engine ≡ false → ExhaustsOne (contents old.engine) groups → result ≡ Err Exhausted
    pub local : new.local ≡ old.local
    pub moments : is_faulted old.engine ≡ false → LeavesOnly (device old.engine) (device new.engine) (KeepsSome remote (contents old.engine) groups)

  -- the local mark is at the engine's position, and the groups in hand are shown
  abbrev pub raised : VecDeque Group Global → Committer E → Committer E
  raised groups old = record old { stage = Shown groups; local = (contents old.engine).current.position }

-- nothing is in hand any more
abbrev pub ready_again : {E : Type 0} → Committer E → Committer E
ready_again old = record old { stage = Ready }
