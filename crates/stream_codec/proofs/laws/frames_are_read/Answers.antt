use Rattle.stream_codec.proofs.Streams.{only_stream, is_stream_of}
use Rattle.stream_codec.proofs.laws.frames_are_read.Goals as goal

pub returns : goal.returns
returns c = λ text messages unread. (only_stream text messages unread, is_stream_of text messages unread)
