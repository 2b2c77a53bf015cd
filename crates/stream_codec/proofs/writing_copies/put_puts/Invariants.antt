use Rattle.std.proofs.Common.{◌≡◌, ◌+◌, ◌≤◌, ◌++◌, length, drop, map}
use Rattle.std.specs.List.{AllByRecursion}
use Rattle.kv_types.specs.Change.{changes_text}
use Rattle.stream_codec.specs.Message.{IsChange, put_of}
use Rattle.stream_codec.proofs.writing_copies.put_puts.Given as goal

-- what was put and the puts that are left make up the whole, in bytes and in room; where those that are left are within the limits, all are
abbrev pub invariant-loop-put : goal.invariant-loop-put
invariant-loop-put g l =
    let left = changes_text (map put_of (drop l.put-index l.puts)) in
    (g.W.BufMut.written l.out ++ left ≡ g.W.BufMut.written l.fn.out ++ changes_text (map put_of l.puts)) × (g.W.BufMut.spare l.fn.out + length left ≤ g.W.BufMut.spare l.out + length (changes_text (map put_of l.puts)))
    × (AllByRecursion IsChange (map put_of (drop l.put-index l.puts)) → AllByRecursion IsChange (map put_of l.puts))
