use Rattle.std.proofs.Common.{refl, sym, ◌∙◌}
use Rattle.kv_types.specs.declared.record_id.RecordId.TheVariants.{Field}
use Rattle.mv_keyspace.proofs.ReadingLemmas.{value-found, value-missing}
use Rattle.mv_keyspace.proofs.slot_rows.SlotRowsLookup.field.Goals as goal

pub returns-in-Some : goal.returns-in-Some
returns-in-Some c =
    let key = c.args.key.now in
    c.field_in.ensures ∙ value-found key c.args.self.now.slots.entries c.args.self.now.slotted (Field key c.args.field.now) c.in-Some.slot.now refl (sym c.in-Some.ensures.value)

pub returns-in-None : goal.returns-in-None
returns-in-None c =
    let key = c.args.key.now in
    value-missing key c.args.self.now.slots.entries c.args.self.now.slotted (Field key c.args.field.now) refl (sym c.in-None.ensures.value)
