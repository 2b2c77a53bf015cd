-- What an acknowledgement does to what a primary sends.
use Rattle.std.specs.Prelude.{◌≡◌, ℕ, ◌<◌, ◌≤◌, []}
use Rattle.standby_stream.specs.Stream.{acknowledged}
use Rattle.standby_stream.specs.declared.outgoing.Outgoing.{Outgoing}

-- The standby has acknowledged up to this position. The frames up to it go, and what the opening tells goes once no standby can be behind that.
pub record Notes (position : ℕ) (old new : Outgoing) : Type 0 where
  pub link : new.link ≡ acknowledged position old.link
  pub opened_at : new.opening.position ≡ old.opening.position
  pub floor : new.opening.floor ≡ old.opening.floor
  pub kept : new.link.known < old.opening.position → new.opening ≡ old.opening
  pub forgotten : old.opening.position ≤ new.link.known → (new.opening.gone.items ≡ []) × (new.opening.rows.items ≡ [])
