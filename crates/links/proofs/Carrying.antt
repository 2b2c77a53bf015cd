-- What becomes of what a sender holds over one connection.
use Rattle.std.proofs.Common.{◌⊎◌, ⊎_elim}
use Rattle.links.specs.Carrying.{KeepsAll, ServesLink, TouchesNeither, unopened, let_go}
use Rattle.links.specs.Opening.{HearsLink, OpensOrAwaits}
use Rattle.links.specs.declared.receiver.AckReceiver.{AckReceiver}
use Rattle.links.specs.declared.sender.LinkSender.{LinkSender}

-- nothing was sent on it
pub ServesLink-lost : (old new : LinkSender) (receiver heard : AckReceiver) → HearsLink receiver heard → TouchesNeither old new
    → KeepsAll old new ⊎ OpensOrAwaits receiver heard old.outgoing new.outgoing → ServesLink old receiver new heard
ServesLink-lost old new receiver heard hears touches left =
    ⊎_elim (λ (keeps : KeepsAll old new). unopened old new receiver heard hears keeps)
    (λ (opens : OpensOrAwaits receiver heard old.outgoing new.outgoing). let_go old new receiver heard opens touches) left
