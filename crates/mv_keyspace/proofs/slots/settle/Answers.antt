use Rattle.std.proofs.Common.{ap, ◌∙◌}
use Rattle.mv_keyspace.specs.Slots.{rows_in}
use Rattle.mv_keyspace.proofs.SlotLemmas.{rows_in-removed, slots-removed}
use Rattle.mv_keyspace.proofs.slots.settle.Goals as goal

pub returns-then-settle_slot-clause-slots : goal.returns-then-settle_slot-clause-slots
returns-then-settle_slot-clause-slots c = slots-removed c.args.key.now c.settle_slot.new.slots.entries c.remove.new.self.entries c.remove.ensures.entries c.remove.ensures.ordered c.settle_slot.ensures.slots

pub returns-then-settle_slot-clause-rows : goal.returns-then-settle_slot-clause-rows
returns-then-settle_slot-clause-rows c =
    ap rows_in c.remove.ensures.entries ∙ rows_in-removed c.args.key.now c.settle_slot.new.slots.entries (c.settle_slot.ensures.empty c.if-settle_slot.true) ∙ c.settle_slot.ensures.rows
