use Rattle.std.proofs.Common.{arith}
use Rattle.stream_codec.proofs.Waiting.{waits_after}
use Rattle.stream_codec.proofs.missing.missing_of_after.Goals as goal

pub returns : goal.returns
returns c =
    waits_after c.args.least c.ranges.least.fits c.args.bytes.now c.min.result c.saturating_sub.result (λ k. omega (arith, c.type_inv.bytes k)) (omega (arith, c.min.ensures)) (omega (arith, c.min.ensures)) (omega (arith, c.saturating_sub.ensures, c.from.ensures))
