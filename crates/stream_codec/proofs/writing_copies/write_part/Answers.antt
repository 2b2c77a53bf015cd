use Rattle.stream_codec.proofs.Putting.{OnOk-weaken, are_puts}
use Rattle.stream_codec.proofs.writing_copies.write_part.Goals as goal

pub returns-clause-within : goal.returns-clause-within
returns-clause-within g c =
    let fits = c.put_part.ensures.fits in
    OnOk-weaken c.put_part.result (λ each. (fits.0, fits.1, fits.2, each, are_puts c.args.part.now.puts.items)) c.put_part.ensures.within
