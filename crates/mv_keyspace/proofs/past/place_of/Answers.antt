use Rattle.std.proofs.Common.{◌++◌, take, sym, ap, ◌∙◌}
use Rattle.mv_keyspace.proofs.PastLemmas.{without-here}
use Rattle.mv_keyspace.proofs.past.place_of.Goals as goal

pub returns-then-pin-position : goal.returns-then-pin-position
returns-then-pin-position c =
    let pins = c.args.pins.now in
    let at = c.loop-at.at in
    (c.loop-at-test.true, sym c.loop-at.invariant ∙ ap (λ rest. take at pins ++ rest) (without-here c.args.position pins at c.loop-at-test.true c.if-pin-position.true))
