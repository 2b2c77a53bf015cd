use Rattle.std.proofs.Common.{◌≡◌, map}
use Rattle.stream_codec.specs.Message.{put_of}
use Rattle.stream_codec.specs.declared.change.Body.TheVariants as bodies
use Rattle.stream_codec.specs.Reading.{changes_at}
use Rattle.stream_codec.specs.Scanning.{with_front}
use Rattle.stream_codec.proofs.whole_frames.read_puts.Given as goal

-- all the puts are those copied and those that are left
abbrev pub invariant-loop-left : goal.invariant-loop-left
invariant-loop-left l = changes_at bodies.Puts l.fn.left l.bytes ≡ with_front (map put_of l.puts.items) (changes_at bodies.Puts l.left l.rest)

abbrev pub decreases-loop-left : goal.decreases-loop-left
decreases-loop-left l = l.left
