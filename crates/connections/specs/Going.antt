-- What an event did to a part of the pair.
use Rattle.std.specs.Prelude.{◌≡◌, Bool, true, false}

-- it did its step exactly where it is enabled, and otherwise all is as before
pub record Goes (enabled did : Bool) (moved stayed : Type 0) : Type 0 where
  pub done : did ≡ enabled
  pub goes : did ≡ true → moved
  pub stays : did ≡ false → stayed
