use Rattle.std.proofs.Common.{arith}
use Rattle.stream_codec.proofs.Skipping.{IsEnd-length, taken_size}
use Rattle.stream_codec.proofs.step.pass_change.Goals as goal

pub overflow_sub-size : goal.overflow_sub-size
overflow_sub-size c =
    let t = taken_size c.args.body c.args.left c.args.bytes.now _ c.in_ok-rest.rest.now c.in_ok-rest.ensures in
    IsEnd-length c.args.bytes.now c.in_ok-rest.rest.now t.4

pub overflow_sub-result : goal.overflow_sub-result
overflow_sub-result c =
    let t = taken_size c.args.body c.args.left c.args.bytes.now _ c.in_ok-rest.rest.now c.in_ok-rest.ensures in
    omega (arith, t.0, t.1)
