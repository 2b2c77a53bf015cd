use Rattle.std.proofs.Common.{◌≡◌, ◌+◌, ◌≤◌, ◌++◌, length, drop}
use Rattle.std.specs.List.{flat_map}
use Rattle.stream_codec.specs.Message.{long}
use Rattle.stream_codec.proofs.writing.put_numbers.Given as goal

-- what was put and the numbers that are left make up the whole, in bytes and in room
abbrev pub invariant-loop-number : goal.invariant-loop-number
invariant-loop-number g l =
    let left = flat_map long (drop l.number-index l.numbers) in
    (g.W.BufMut.written l.out ++ left ≡ g.W.BufMut.written l.fn.out ++ flat_map long l.numbers) × (g.W.BufMut.spare l.fn.out + length left ≤ g.W.BufMut.spare l.out + length (flat_map long l.numbers))
