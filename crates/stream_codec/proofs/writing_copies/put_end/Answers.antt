use Rattle.std.proofs.Common.{[], ◌∷◌}
use Rattle.std.specs.List.{flat_map}
use Rattle.stream_codec.specs.Message.{long}
use Rattle.stream_codec.proofs.Putting.{puts_after}
use Rattle.stream_codec.proofs.writing_copies.put_end.Goals as goal

pub returns-clause-puts : goal.returns-clause-puts
returns-clause-puts g c =
    let B = g.W.BufMut in
    let out = c.args.out.now in
    let last = c.put_numbers.new.out in
    puts_after c.put_numbers.result (B.written out) (B.written c.put_u8.new.self) (B.written last) (B.spare out) (B.spare c.put_u8.new.self) (B.spare last)
    (5 ∷ []) (flat_map long (c.args.end.epoch ∷ c.args.end.position ∷ c.args.end.parts ∷ [])) c.in_ok-put_u8.ensures.ok c.in_ok-put_u8.ensures.spare c.put_numbers.ensures
