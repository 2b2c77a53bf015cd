use Rattle.std.proofs.Common.{◌^◌, ap, sym, ◌∙◌, lit<}
use Rattle.kv_types.specs.declared.item.ProtocolFault.TheVariants.{ExpectedLineEnd}
use Rattle.kv_types.specs.Reading.{number_at}
use Rattle.resp_codec.proofs.ReplyTakes.{number_fits, number_positive}
use Rattle.resp_codec.proofs.reply_heads.negative_at.Goals as goal

pub negated-requires-clause-positive : goal.negated-requires-clause-positive
negated-requires-clause-positive c =
    number_positive c.in-Some.byte.now c.in-Some._digits.now c.in_ok-n-in-Some.n c.in_ok-n-in-Some.rest.now c.if-byte-eq48.false
    (ap (number_at (2 ^ 63) ExpectedLineEnd) (sym c.in-Some.ensures.cases.0) ∙ c.in_ok-n-in-Some.ensures)

pub negated-requires-clause-fits : goal.negated-requires-clause-fits
negated-requires-clause-fits c = number_fits (2 ^ 63) ExpectedLineEnd c.args.bytes.now c.in_ok-n-in-Some.n c.in_ok-n-in-Some.rest.now (lit< tt) c.in_ok-n-in-Some.ensures
