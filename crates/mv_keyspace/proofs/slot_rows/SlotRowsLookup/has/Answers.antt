use Rattle.std.proofs.Common.{sym, ◌∙◌}
use Rattle.mv_keyspace.proofs.ReadingLemmas.{has-found, has-missing}
use Rattle.mv_keyspace.proofs.slot_rows.SlotRowsLookup.has.Goals as goal

pub returns-in-Some : goal.returns-in-Some
returns-in-Some c = c.has_in.ensures ∙ has-found c.args.key.now c.args.self.now.slots.entries c.in-Some.slot.now c.args.self.now.slotted (sym c.in-Some.ensures.value)

pub returns-in-None : goal.returns-in-None
returns-in-None c = has-missing c.args.key.now c.args.self.now.slots.entries c.args.self.now.slotted (sym c.in-None.ensures.value)
