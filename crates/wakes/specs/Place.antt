-- What a contract sees of a seat's waker: which place of which driver.
use Rattle.std.specs.Prelude.{ℕ}
use Rattle.wakes.specs.declared.calls.Calls.{Calls}

-- a place of a driver, whose calls stand for it
pub record Place : Type 0 where
  pub calls : Calls
  pub number : ℕ
