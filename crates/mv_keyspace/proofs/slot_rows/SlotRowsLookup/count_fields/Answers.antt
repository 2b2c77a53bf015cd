use Rattle.std.proofs.Common.{length, sym, ap, ◌∙◌}
use Rattle.mv_keyspace.proofs.ReadingLemmas.{fields-found, fields-missing}
use Rattle.mv_keyspace.proofs.slot_rows.SlotRowsLookup.count_fields.Goals as goal

pub returns-in-Some-clause-value : goal.returns-in-Some-clause-value
returns-in-Some-clause-value c =
    c.count_fields_in.ensures.value
    ∙ ap (λ fields. length fields) (fields-found c.args.key.now c.args.self.now.slots.entries c.args.self.now.slotted c.in-Some.slot.now (sym c.in-Some.ensures.value))

pub returns-in-None-clause-value : goal.returns-in-None-clause-value
returns-in-None-clause-value c = ap (λ fields. length fields) (fields-missing c.args.key.now c.args.self.now.slots.entries c.args.self.now.slotted (sym c.in-None.ensures.value))
