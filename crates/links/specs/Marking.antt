-- What becomes of the remote mark once a standby was above this node.
use Rattle.std.specs.Prelude.{◌≡◌, ℕ, List, Option}
use Rattle.links.specs.Hearing.{HasHeardBehind}
use Rattle.links.specs.declared.receiver.AckReceiver.{AckReceiver}
use Rattle.links.specs.declared.standing.Standing.TheVariants.{Ahead}

-- where the standby was ahead it is so for good, and the remote mark stays
abbrev pub StaysFinal : AckReceiver → AckReceiver → Type 0
StaysFinal old new = old.standing ≡ Ahead → (new.standing ≡ Ahead) × (new.marks.remote ≡ old.marks.remote)

-- it is the same end of the link still, which has heard what came behind the bytes that a decoder held
abbrev pub IsSameEnd : AckReceiver → Option (List ℕ) → AckReceiver → Type 0
IsSameEnd old held new = (new.epoch ≡ old.epoch) × StaysFinal old new × HasHeardBehind old held new
