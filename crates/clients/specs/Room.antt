-- What is taken of the room for clients' sockets.
use Rattle.std.specs.Prelude.{◌≡◌, ℕ, suc, ◌<◌}

-- Of this room so much was used, and then so much: one socket more, for which there was room.
pub record IsTaken (most used used' : ℕ) : Type 0 where
  pub one : used' ≡ suc used
  pub room : used < most
