use Rattle.std.proofs.Common.{◌≡◌, ◌-◌, ◌^◌, ◌<◌, FitsSigned, pos, w64, to_z, to_z-of_z, lit<, arith}
use Rattle.kv_types.specs.declared.item.ProtocolFault.TheVariants.{ExpectedLineEnd}
use Rattle.resp_codec.proofs.ReplyTakes.{number_fits}
use Rattle.resp_codec.proofs.ReplyReadBack.{integer_read}
use Rattle.resp_codec.proofs.reply_heads.integer_at.Goals as goal

pub overflow_cast-result : goal.overflow_cast-result
overflow_cast-result c =
    let most = number_fits (2 ^ 63 - 1) ExpectedLineEnd c.args.bytes.now c.in_ok-n-in-Some.n c.in_ok-n-in-Some.rest.now (lit< tt) c.in_ok-n-in-Some.ensures in
    let fits : c.in_ok-n-in-Some.n < 2 ^ 63 = omega (arith, most) in
    record { sfits = fits }

pub returns-in_ok-n-in-Some : goal.returns-in_ok-n-in-Some
returns-in_ok-n-in-Some c =
    let most = number_fits (2 ^ 63 - 1) ExpectedLineEnd c.args.bytes.now c.in_ok-n-in-Some.n c.in_ok-n-in-Some.rest.now (lit< tt) c.in_ok-n-in-Some.ensures in
    let fits : c.in_ok-n-in-Some.n < 2 ^ 63 = omega (arith, most) in
    let whole : FitsSigned w64 (pos c.in_ok-n-in-Some.n) = record { sfits = fits } in
    let same : to_z w64 c.in_ok-n-in-Some.n ≡ pos c.in_ok-n-in-Some.n = to_z-of_z whole in
    integer_read c.args.bytes.now c.in_ok-n-in-Some.n (to_z w64 c.in_ok-n-in-Some.n) c.in_ok-n-in-Some.rest.now c.in_ok-n-in-Some.ensures same
