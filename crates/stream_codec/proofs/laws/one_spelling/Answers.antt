use Rattle.stream_codec.proofs.Streams as streams
use Rattle.stream_codec.proofs.laws.one_spelling.Goals as goal

pub returns : goal.returns
returns c = streams.one_spelling
