use Rattle.std.proofs.Common.{◌≡◌, ◌+◌, ◌≤◌, ◌++◌, length, drop}
use Rattle.std.specs.List.{AllByRecursion}
use Rattle.kv_types.specs.Change.{changes_text}
use Rattle.stream_codec.specs.Message.{IsChange}
use Rattle.stream_codec.proofs.writing.put_changes.Given as goal

-- what was put and the changes that are left make up the whole, in bytes and in room; where those that are left are within the limits, all are
abbrev pub invariant-loop-change : goal.invariant-loop-change
invariant-loop-change g l =
    let left = changes_text (drop l.change-index l.changes) in
    (g.W.BufMut.written l.out ++ left ≡ g.W.BufMut.written l.fn.out ++ changes_text l.changes) × (g.W.BufMut.spare l.fn.out + length left ≤ g.W.BufMut.spare l.out + length (changes_text l.changes))
    × (AllByRecursion IsChange (drop l.change-index l.changes) → AllByRecursion IsChange l.changes)
