use Rattle.std.proofs.Common.{sym, ◌∙◌, arith}
use Rattle.stream_codec.proofs.Waiting.{waits_size}
use Rattle.stream_codec.proofs.missing.missing_of_size.Goals as goal

pub returns-then-starts_with : goal.returns-then-starts_with
returns-then-starts_with c =
    waits_size c.args.bytes.now c.saturating_sub.result (sym c.starts_with.ensures.value ∙ c.if-starts_with.true) (λ k. omega (arith, c.type_inv.bytes k)) (omega (arith, c.saturating_sub.ensures))
