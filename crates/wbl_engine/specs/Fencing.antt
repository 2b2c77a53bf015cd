-- What the fences of an engine's device come to.
use Rattle.std.specs.Prelude.{◌≡◌, ◌⊎◌, ◌<◌, Bool, true, false, Result, Err, IsErrOf, OnOk}
use Rattle.pmem.specs.Device.{State}
use Rattle.kv_types.specs.declared.refusal.Refusal.{Refusal}
use Rattle.kv_types.specs.declared.refusal.Refusal.TheVariants.{Fault}

-- What each call that stores says of its fences. One that returns `Ok` leaves a sound engine, whose device failed no fence in it. `Fault` says that
-- a fence failed, in this call or an earlier one, and stops the engine; each later call is refused so and changes nothing. No call changes the moment
-- that the device was asked to keep.
pub record StopsAtFault {E A : Type 0} (device : E → State) (is_faulted : E → Bool) (old : E) (result : Result A Refusal) (new : E) : Type 0 where
  pub sound : OnOk result ((is_faulted new ≡ false) × ((device new).failures ≡ (device old).failures))
  pub fault : IsErrOf result Fault → (is_faulted old ≡ true) ⊎ ((device old).failures < (device new).failures)
  pub stopped : IsErrOf result Fault → is_faulted new ≡ true
  pub faulted : is_faulted old ≡ true → (result ≡ Err Fault) × (new ≡ old)
  pub asked_moment : (device new).kept ≡ (device old).kept
