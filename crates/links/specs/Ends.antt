-- The two ends of a primary's link: what sends on it, and what takes the acknowledgements.
use Rattle.std.specs.Prelude.{◌≡◌, ℕ}
use Rattle.standby_stream.specs.Stream.{new_stream}
use Rattle.standby_stream.specs.declared.opening.Opening.{Opening}
use Rattle.links.specs.declared.receiver.AckReceiver.{AckReceiver}
use Rattle.links.specs.declared.sender.LinkSender.{LinkSender}
use Rattle.links.specs.declared.standing.Standing.TheVariants.{Behind}

-- Both are of a primary that was opened in this epoch with this opening. Nothing was sent, nothing was acknowledged, and the standby was never ahead.
pub record Begin (epoch : ℕ) (opening : Opening) (sender : LinkSender) (receiver : AckReceiver) : Type 0 where
  pub link : sender.outgoing.link ≡ new_stream epoch
  pub told : sender.outgoing.opening ≡ opening
  pub counts_in : receiver.epoch ≡ epoch
  pub behind : receiver.standing ≡ Behind

-- the acknowledgements that count are of the epoch of the frames that are sent
abbrev pub AreOfOneEpoch : LinkSender → AckReceiver → Type 0
AreOfOneEpoch sender receiver = receiver.epoch ≡ sender.outgoing.link.epoch
