use Rattle.mv_keyspace.proofs.SlotLemmas.{slots-none}
use Rattle.mv_keyspace.proofs.slot_rows.SlotRows.new.Goals as goal

pub invariant_of-result-clause-slotted : goal.invariant_of-result-clause-slotted
invariant_of-result-clause-slotted c = slots-none c.new.result.entries c.new.ensures.empty c.new.ensures.ordered
