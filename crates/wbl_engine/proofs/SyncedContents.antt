-- What a crash leaves of the contents of an engine whose device is synced.
use Rattle.std.proofs.Common.{◌≡◌, ℕ, Bool, true, false, inl, subst}
use Rattle.pmem.specs.Device.{State, moment}
use Rattle.pmem.specs.Floor.{MayBeLeft}
use Rattle.pmem.proofs.Leaving.{MayLeave-now}
use Rattle.model.specs.Group.{Contents}
use Rattle.model.specs.declared.record.Record.{Record}
use Rattle.wbl_engine.specs.AtRest.{IsAtRest, at_rest_prop, synced_prop}
use Rattle.wbl_engine.specs.Copying.{IsHalf, half_prop}
use Rattle.wbl_engine.specs.Contents.{IsDurable, IsDurableFrom, SyncedIsDurable}

pub synced_durable : SyncedIsDurable
synced_durable device contents = (λ left image is. left image (inl is), λ durable image may. durable image (MayLeave-now device image may))

-- a floor that is the present moment
pub durable_from : (floor : ℕ) (device : State) (contents : Contents) → floor ≡ moment device → IsDurable device contents → IsDurableFrom floor device contents
durable_from floor device contents e durable image may =
    durable image (MayLeave-now device image (subst (λ (t : ℕ). MayBeLeft device t image) e may))

same_of_three : {A B C E : Type 0} (make : A → B → C → E) (a a' : A) (b b' : B) (c c' : C) → IsProp A → IsProp B → IsProp C → make a b c ≡ make a' b' c'
same_of_three make a a' b b' c c' one other third = λ i. make (one a a' i) (other b b' i) (third c c' i)

-- an engine is the same whatever proves that it is at rest, holds half a copy, and is synced
pub same_engine : {E : Type 0} (faulted copying : Bool) (r : Record) (d : State) (floor : ℕ)
    (make : (faulted ≡ false → copying ≡ false → IsAtRest r d) → (faulted ≡ false → copying ≡ true → IsHalf r d) → (faulted ≡ false → floor ≡ moment d) → E)
    (rest rest' : faulted ≡ false → copying ≡ false → IsAtRest r d) (half half' : faulted ≡ false → copying ≡ true → IsHalf r d) (synced synced' : faulted ≡ false → floor ≡ moment d)
    → make rest half synced ≡ make rest' half' synced'
same_engine faulted copying r d floor make rest rest' half half' synced synced' =
    same_of_three make rest rest' half half' synced synced' (at_rest_prop faulted copying r d) (half_prop faulted copying r d) (synced_prop faulted floor (moment d))
