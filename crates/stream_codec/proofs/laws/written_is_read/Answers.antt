use Rattle.stream_codec.proofs.Streams as streams
use Rattle.stream_codec.proofs.laws.written_is_read.Goals as goal

pub returns : goal.returns
returns c = streams.written_is_read
