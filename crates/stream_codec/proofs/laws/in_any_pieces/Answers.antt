use Rattle.stream_codec.proofs.Streams.{is_stream_reached}
use Rattle.stream_codec.proofs.laws.in_any_pieces.Goals as goal

pub returns : goal.returns
returns c = λ text given held r. is_stream_reached r
