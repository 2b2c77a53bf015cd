use Rattle.kv_types.proofs.ByteOrderLemmas.{tied, told_apart}
use Rattle.kv_types.proofs.byte_order.compare_few.Goals as goal

pub returns-then-x-y : goal.returns-then-x-y
returns-then-x-y c = tied 4 c.args.a.now c.args.b.now _ _ _ c.read_four-x.ensures c.read_four-y.ensures c.if-x-y.true c.cmp-then-x-y.ensures

pub returns-else-x-y : goal.returns-else-x-y
returns-else-x-y c = told_apart 4 c.args.a.now c.args.b.now _ _ _ _ _ c.read_four-x.ensures c.read_four-y.ensures c.if-x-y.false c.cmp-else-x-y.ensures
