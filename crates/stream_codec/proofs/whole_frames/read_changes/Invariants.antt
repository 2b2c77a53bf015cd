use Rattle.std.proofs.Common.{◌≡◌}
use Rattle.stream_codec.specs.declared.change.Body.TheVariants as bodies
use Rattle.stream_codec.specs.Reading.{changes_at}
use Rattle.stream_codec.specs.Scanning.{with_front}
use Rattle.stream_codec.proofs.whole_frames.read_changes.Given as goal

-- all the changes are those copied and those that are left
abbrev pub invariant-loop-left : goal.invariant-loop-left
invariant-loop-left l = changes_at bodies.Changes l.fn.left l.bytes ≡ with_front l.changes.items (changes_at bodies.Changes l.left l.rest)

abbrev pub decreases-loop-left : goal.decreases-loop-left
decreases-loop-left l = l.left
