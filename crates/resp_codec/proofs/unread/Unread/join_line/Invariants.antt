use Rattle.std.proofs.Common.{◌≡◌, length}
use Rattle.resp_codec.specs.Unread.{unread_bytes}
use Rattle.resp_codec.proofs.unread.Unread.join_line.Given as goal

abbrev pub invariant-loop-self : goal.invariant-loop-self
invariant-loop-self l = unread_bytes l.self ≡ unread_bytes l.initial.self

abbrev pub decreases-loop-self : goal.decreases-loop-self
decreases-loop-self l = length l.self.rest
