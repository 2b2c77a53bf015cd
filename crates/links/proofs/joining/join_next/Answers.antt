use Rattle.std.proofs.Common.{◌≡◌, ◌+◌, IsTrue, refl, rules}
use Rattle.stream_codec.specs.declared.message.Message.TheVariants.{Group}
use Rattle.links.proofs.JoinedFrames.{begun-longer, joined-by_copy}
use Rattle.links.proofs.joining.join_next.Goals as goal

pub returns : goal.returns
returns c = record {
  begun = λ begun.
      let next = c.in-Some-Group.next in
      let message = c.in-Some-Group.field-0.now in
      let is : message ≡ Group next = search rules in
      let follows : IsTrue c.goes_with.result = search rules in
      begun-longer c.args.messages.now message next c.args.joined.now (record { whole = c.join.new.self; count = c.args.joined.now.count + 1 }) begun
      c.in-Some-Group.ensures.lookup.3.0 c.in-Some-Group.ensures.lookup.1 is (c.goes_with.ensures follows)
      (joined-by_copy _ next c.in_ok-copy.copy _ c.in_ok-copy.ensures.cases c.in_ok-join.ensures.joined) refl;
}
