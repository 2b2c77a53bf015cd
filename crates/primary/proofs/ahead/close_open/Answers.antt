use Rattle.std.proofs.Common.{◌<◌, length, arith}
use Rattle.pipes.specs.declared.limits.TheConstants.{PIPE_ITEMS}
use Rattle.primary.proofs.ahead.close_open.Goals as goal

pub returns-then-has_open-clause-closed : goal.returns-then-has_open-clause-closed
returns-then-has_open-clause-closed g c = λ did.
    let room : length c.args.work.now.items < PIPE_ITEMS = omega (arith, c.if-len-eq-PIPE_ITEMS.false, c.len.ensures, c.args.work.now.within) in
    let some = c.has_open.ensures.0 c.if-has_open.true in
    let out = c.in_ok-close_group.ensures.ok in
    ((some, room), record { some = some; group = out.0; last = out.1; hands = out.2; leads = out.3 })
