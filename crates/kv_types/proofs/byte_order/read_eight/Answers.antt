use Rattle.kv_types.proofs.ByteOrderLemmas.{eight_read}
use Rattle.kv_types.proofs.byte_order.read_eight.Goals as goal

pub returns : goal.returns
returns c = eight_read c.args.bytes.now _ c.requires c.type_inv.bytes c.from_be_bytes.ensures
