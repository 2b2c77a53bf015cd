use Rattle.std.proofs.Common.{cond, ◌+◌, ◌&&◌, ◌||◌, sym, ap, subst, ◌∙◌}
use Rattle.std.specs.BTreeMap.{is_at}
use Rattle.kv_types.specs.Keyspace.{bytes_cmp}
use Rattle.mv_keyspace.specs.Row.{table_of}
use Rattle.mv_keyspace.specs.Slot.{is_field, rows_of}
use Rattle.mv_keyspace.specs.Slots.{AreOfKey, awaited_at, is_list_at, rows_in, slot_at}
use Rattle.mv_keyspace.proofs.SlotLemmas.{rows_in-inserted, slots-inserted}
use Rattle.mv_keyspace.proofs.WritingLemmas.{awaited-made, field_of_key, lists-made}
use Rattle.mv_keyspace.proofs.slots.make_slot.Goals as goal

pub returns-in-Ok-clause-slots : goal.returns-in-Ok-clause-slots
returns-in-Ok-clause-slots c =
    let key = c.in_ok-clone.field-0 in
    let slot = c.expect.new.self in
    let none = ap (λ k. rows_of k slot) (c.in_ok-clone.ensures.cases ∙ c.key.ensures) ∙ c.expect.ensures.rows in
    slots-inserted key slot c.args.slots.now.entries c.insert.new.self.entries c.in-Ok.ensures.entries c.insert.ensures.ordered (subst (λ items. AreOfKey key (table_of items)) (sym none) tt) c.requires.slots

pub returns-in-Ok-clause-rows : goal.returns-in-Ok-clause-rows
returns-in-Ok-clause-rows c =
    let key = c.in_ok-clone.field-0 in
    let slot = c.expect.new.self in
    let same = c.in_ok-clone.ensures.cases ∙ c.key.ensures in
    let missing = ap (λ k. slot_at k c.args.slots.now.entries) same ∙ c.requires.missing in
    ap rows_in c.in-Ok.ensures.entries ∙ rows_in-inserted key slot c.args.slots.now.entries (ap (λ k. rows_of k slot) same ∙ c.expect.ensures.rows) missing

pub returns-in-Ok-clause-awaited : goal.returns-in-Ok-clause-awaited
returns-in-Ok-clause-awaited c = λ q.
    let key = c.in_ok-clone.field-0 in
    let es = c.args.slots.now.entries in
    let same = c.in_ok-clone.ensures.cases ∙ c.key.ensures in
    let missing = ap (λ k. slot_at k es) same ∙ c.requires.missing in
    let made = awaited-made key q es c.insert.new.self.entries c.expect.new.self (c.in-Ok.ensures.updates.0 q) 1 missing c.in_ok-expect.ensures.awaited in
    made ∙ ap (λ k. awaited_at q es + cond (is_at (bytes_cmp k) q) 1 0) same

pub returns-in-Ok-clause-lists : goal.returns-in-Ok-clause-lists
returns-in-Ok-clause-lists c = λ q.
    let key = c.in_ok-clone.field-0 in
    let es = c.args.slots.now.entries in
    let same = c.in_ok-clone.ensures.cases ∙ c.key.ensures in
    let missing = ap (λ k. slot_at k es) same ∙ c.requires.missing in
    let made = lists-made key q es c.insert.new.self.entries c.expect.new.self (c.in-Ok.ensures.updates.0 q) (is_field c.args.id.now) missing c.in_ok-expect.ensures.list in
    made ∙ ap (λ k. is_list_at q es || (is_field c.args.id.now && is_at (bytes_cmp k) q)) same ∙ ap (λ field. is_list_at q es || field) (field_of_key q c.args.id.now)
