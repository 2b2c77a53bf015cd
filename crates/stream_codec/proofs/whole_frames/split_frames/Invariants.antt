use Rattle.std.proofs.Common.{◌≡◌, length}
use Rattle.stream_codec.specs.Stream.{stream_at}
use Rattle.stream_codec.specs.Scanning.{IsEnd, IsAt, sent_of_all}
use Rattle.stream_codec.proofs.Streams.{behind}
use Rattle.stream_codec.proofs.whole_frames.split_frames.Given as goal

-- the frames of all the bytes are those given and those of the bytes that are left
abbrev pub invariant-loop-after : goal.invariant-loop-after
invariant-loop-after l =
    record {
      stream : stream_at l.bytes ≡ behind (sent_of_all l.messages.items) (stream_at l.rest);
      end : IsEnd l.bytes l.rest;
      at : IsAt l.rest l.progress;
    }

abbrev pub decreases-loop-after : goal.decreases-loop-after
decreases-loop-after l = length l.rest
