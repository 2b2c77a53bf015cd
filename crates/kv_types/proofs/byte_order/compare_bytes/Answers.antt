use Rattle.kv_types.proofs.ByteOrderLemmas.{tied, told_apart}
use Rattle.kv_types.proofs.byte_order.compare_bytes.Goals as goal

pub returns-then-x-y : goal.returns-then-x-y
returns-then-x-y c = tied 8 c.args.a.now c.args.b.now _ _ _ c.read_eight-x.ensures c.read_eight-y.ensures c.if-x-y.true c.compare_later.ensures

pub returns-else-x-y : goal.returns-else-x-y
returns-else-x-y c = told_apart 8 c.args.a.now c.args.b.now _ _ _ _ _ c.read_eight-x.ensures c.read_eight-y.ensures c.if-x-y.false c.cmp.ensures
