use Rattle.std.proofs.Common.{◌≡◌, length}
use Rattle.resp_codec.specs.RequestReading.{held, IsStanding}
use Rattle.resp_codec.specs.Unread.{unread_bytes}
use Rattle.resp_codec.proofs.request_reading.Reading.next.Given as goal

abbrev pub invariant-loop-request : goal.invariant-loop-request
invariant-loop-request l = (held l.self ≡ held l.initial.self) × IsStanding l.self

abbrev pub decreases-loop-request : goal.decreases-loop-request
decreases-loop-request l = length (unread_bytes l.self.unread)
