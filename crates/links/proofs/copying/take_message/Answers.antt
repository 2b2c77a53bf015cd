use Rattle.std.proofs.Common.{inl, ap}
use Rattle.stream_codec.specs.Message.{sent_of}
use Rattle.links.proofs.NewcomerSteps.{awaits-after_part}
use Rattle.links.proofs.copying.take_message.Goals as goal

pub returns-in-Ok-clause-part : goal.returns-in-Ok-clause-part
returns-in-Ok-clause-part g c = λ _. (
  awaits-after_part _ _ _ _ _ c.in-CopyPart.part c.args.node.now c.take_part.new.self c.in-Ok.field-0 c.requires.awaits c.in-Ok.ensures,
  (c.in-CopyPart.part, ap sent_of c.in-CopyPart.is, c.in-Ok.ensures),
)

pub returns-in-Err-clause-refused : goal.returns-in-Err-clause-refused
returns-in-Err-clause-refused g c = inl (c.in-CopyPart.part, ap sent_of c.in-CopyPart.is, c.in-Err.ensures)
