use Rattle.std.proofs.Common.{length, ap, arith, length-append}
use Rattle.primary.proofs.ahead.take_ahead.Goals as goal

-- there is room for each
pub unreachable-requires : goal.unreachable-requires
unreachable-requires g c =
    let none = c.in-Err.ensures.full.0 in
    let some = ap length c.in-Some.ensures in
    let left = ap length c.loop-item.invariant.0 in
    let now = length-append c.loop-item.back.work.items c.loop-item.ahead.items in
    let was = length-append c.args.back.now.work.items c.args.ahead.now.items in
    omega (arith, none, some, left, now, was, c.requires.fits)
