-- What is known of a message of a copy.
use Rattle.std.proofs.Common.{◌≡◌, ◌⊎◌, inl, inr, sym, subst}
use Rattle.frames.specs.declared.ack.Ack.{Ack}
use Rattle.frames.specs.declared.copy.CopyEnd.{CopyEnd}
use Rattle.frames.specs.declared.copy.CopyPart.{CopyPart}
use Rattle.frames.specs.declared.copy.CopyWanted.{CopyWanted}
use Rattle.stream_codec.specs.declared.message.Message.{Message}
use Rattle.stream_codec.specs.declared.message.Message.TheVariants as message
use Rattle.stream_codec.specs.Message.{sent_of}
use Rattle.links.specs.Copies.{IsOfCopy}

-- it is one of the three
pub is_of_copy : (m : Message) → ((wanted : CopyWanted) × (m ≡ message.CopyWanted wanted)) ⊎ (((part : CopyPart) × (m ≡ message.CopyPart part)) ⊎ ((end : CopyEnd) × (m ≡ message.CopyEnd end)))
    → IsOfCopy (sent_of m)
is_of_copy m (inl wanted) = subst (λ (m : Message). IsOfCopy (sent_of m)) (sym wanted.1) tt
is_of_copy m (inr (inl part)) = subst (λ (m : Message). IsOfCopy (sent_of m)) (sym part.1) tt
is_of_copy m (inr (inr end)) = subst (λ (m : Message). IsOfCopy (sent_of m)) (sym end.1) tt

-- no acknowledgement is
pub ack_is_no_copy : (m : Message) (ack : Ack) → m ≡ message.Ack ack → IsOfCopy (sent_of m) → ⊥
ack_is_no_copy m ack is copy = subst (λ (m : Message). IsOfCopy (sent_of m)) is copy
