use Rattle.std.proofs.Common.{◌≡◌, ◌++◌}
use Rattle.std.specs.Vec.Iter.{into_iter_items}
use Rattle.stream_codec.specs.Scanning.{sent_of_all}
use Rattle.links.specs.Hearing.{Hears}
use Rattle.links.specs.Marking.{StaysAhead}
use Rattle.links.proofs.receiver.AckReceiver.hear_all.Given as goal

-- each message so far was taken; the epoch stays, and so does the mark of a standby that was ahead
abbrev pub invariant-loop-message : goal.invariant-loop-message
invariant-loop-message l = record {
  epoch : l.self.epoch ≡ l.initial.self.epoch;
  stays : StaysAhead l.initial.self l.self;
  run : Hears l.initial.self (sent_of_all l.yielded) l.self;
  left : l.fn.messages.items ≡ l.yielded ++ into_iter_items l.message-iterator;
}
