use Rattle.std.proofs.Common.{refl, sym, ◌∙◌}
use Rattle.kv_types.specs.declared.record_id.RecordId.TheVariants.{Str}
use Rattle.mv_keyspace.proofs.ReadingLemmas.{value-found, value-missing}
use Rattle.mv_keyspace.proofs.slot_rows.SlotRowsLookup.string.Goals as goal

pub returns-in-Some : goal.returns-in-Some
returns-in-Some c =
    let slots = c.args.self.now.slots.entries in
    c.string_in.ensures ∙ value-found c.args.key.now slots c.args.self.now.slotted (Str c.args.key.now) c.in-Some.slot.now refl (sym c.in-Some.ensures.value)

pub returns-in-None : goal.returns-in-None
returns-in-None c =
    let slots = c.args.self.now.slots.entries in
    value-missing c.args.key.now slots c.args.self.now.slotted (Str c.args.key.now) refl (sym c.in-None.ensures.value)
