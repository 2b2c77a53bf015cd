use Rattle.std.proofs.Common.{◌≡◌, length}
use Rattle.kv_types.specs.Reading.{number_from}
use Rattle.resp_codec.proofs.reading.number_from.Given as goal

-- what is left of the bytes reads as all of them do
abbrev pub invariant-loop-byte : goal.invariant-loop-byte
invariant-loop-byte l = number_from l.most l.fault l.number l.rest ≡ number_from l.most l.fault l.n l.bytes

abbrev pub decreases-loop-byte : goal.decreases-loop-byte
decreases-loop-byte l = length l.rest
