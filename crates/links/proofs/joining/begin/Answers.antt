use Rattle.std.proofs.Common.{◌≡◌, rules}
use Rattle.stream_codec.specs.declared.message.Message.TheVariants.{Group}
use Rattle.links.proofs.JoinedFrames.{begun-first}
use Rattle.links.proofs.joining.begin.Goals as goal

pub returns : goal.returns
returns c =
    let is : c.in-Some-Group.field-0.now ≡ Group c.in-Some-Group.first = search rules in
    begun-first c.args.messages.now c.in-Some-Group.field-0.now c.in-Some-Group.first c.in_ok-clone.field-0 c.in-Some-Group.ensures.value is c.in_ok-clone.ensures.cases
