use Rattle.std.proofs.Common.{◌≡◌, IfOk, sym, subst, ◌∙◌}
use Rattle.mv_keyspace.proofs.ReadingLemmas.{fields-found, fields-missing}
use Rattle.mv_keyspace.proofs.slot_rows.SlotRowsLookup.fields.Goals as goal

pub returns-in-Some : goal.returns-in-Some
returns-in-Some c =
    subst (λ all. IfOk c.fields_in.result (λ fields. fields.items ≡ all)) (fields-found c.args.key.now c.args.self.now.slots.entries c.args.self.now.slotted c.in-Some.slot.now (sym c.in-Some.ensures.value))
    c.fields_in.ensures

pub returns-in-None : goal.returns-in-None
returns-in-None c = c.new.ensures.items ∙ fields-missing c.args.key.now c.args.self.now.slots.entries c.args.self.now.slotted (sym c.in-None.ensures.value)
