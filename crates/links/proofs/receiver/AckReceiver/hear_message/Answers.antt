use Rattle.std.proofs.Common.{inl, inr, refl, ap}
use Rattle.stream_codec.specs.Message.{sent_of}
use Rattle.links.proofs.Copies.{is_of_copy}
use Rattle.links.proofs.receiver.AckReceiver.hear_message.Goals as goal

pub returns-in-Group-clause-refused : goal.returns-in-Group-clause-refused
returns-in-Group-clause-refused c = inr (inl (c.in-Group.field-0, ap sent_of c.in-Group.is, refl))

pub returns-in-CopyWanted-clause-refused : goal.returns-in-CopyWanted-clause-refused
returns-in-CopyWanted-clause-refused c = inr (inr (is_of_copy c.args.message.now c.in-CopyWanted.is, refl))
