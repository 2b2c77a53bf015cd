-- What the other side of a primary's link says first.
use Rattle.stream_codec.specs.declared.message.Message.{Message}
use Rattle.stream_codec.specs.declared.message.Message.TheVariants.{Ack, CopyWanted}
use Rattle.links.specs.declared.opening.First.{First}
use Rattle.links.specs.declared.opening.First.TheVariants.{Standby, Newcomer}

-- as a message
abbrev pub message_of : First → Message
message_of (Standby ack) = Ack ack
message_of (Newcomer wanted) = CopyWanted wanted
