use Rattle.std.proofs.Common.{◌≡◌, List, ℕ, cond, ◌||◌, Some, sym, ap, ◌∙◌}
use Rattle.std.specs.Map.{set_value}
use Rattle.std.specs.BTreeMap.{is_at}
use Rattle.kv_types.specs.Keyspace.{bytes_cmp, key_of}
use Rattle.mv_keyspace.specs.Slot.{is_field}
use Rattle.mv_keyspace.specs.Slots.{AreSlots, is_list_at, rows_in, slot_at}
use Rattle.mv_keyspace.proofs.WritingLemmas.{awaited-more, field_of_key, lists-more, same-rows, same-slots, some_found}
use Rattle.mv_keyspace.proofs.slots.expect_row.Goals as goal
use Rattle.mv_keyspace.proofs.slots.expect_row.Goals.{After-expect}

-- the slot of the row's key, which was there
found : (c : After-expect) → slot_at (key_of c.args.id.now) c.args.slots.now.entries ≡ Some c.in-Some.slot.now
found c = ap (λ k. slot_at k c.args.slots.now.entries) (sym c.key.ensures) ∙ sym c.in-Some.ensures.value

is : (c : After-expect) → (c.get_mut.follows.lender c.expect.new.self).entries ≡ set_value (is_at (bytes_cmp (key_of c.args.id.now))) c.args.slots.now.entries c.expect.new.self
is c = (c.get_mut.follows.holds c.expect.new.self).0 ∙ ap (λ k. set_value (is_at (bytes_cmp k)) c.args.slots.now.entries c.expect.new.self) c.key.ensures

slots : (c : After-expect) → AreSlots (c.get_mut.follows.lender c.expect.new.self).entries
slots c =
    same-slots (key_of c.args.id.now) c.args.slots.now.entries c.in-Some.slot.now c.requires (found c) c.expect.new.self (c.get_mut.follows.lender c.expect.new.self).entries (is c)
    (c.get_mut.follows.holds c.expect.new.self).4 c.expect.ensures.rows

rows : (c : After-expect) → rows_in (c.get_mut.follows.lender c.expect.new.self).entries ≡ rows_in c.args.slots.now.entries
rows c =
    same-rows (key_of c.args.id.now) c.args.slots.now.entries c.in-Some.slot.now c.requires (found c) c.expect.new.self (c.get_mut.follows.lender c.expect.new.self).entries (is c)
    (c.get_mut.follows.holds c.expect.new.self).4 c.expect.ensures.rows

updates : (c : After-expect) (q : List ℕ) → slot_at q (c.get_mut.follows.lender c.expect.new.self).entries ≡ cond (is_at (bytes_cmp (key_of c.args.id.now)) q) (Some c.expect.new.self) (slot_at q c.args.slots.now.entries)
updates c q =
    ((c.get_mut.follows.holds c.expect.new.self).3 (some_found c.key.result.now c.args.slots.now.entries c.in-Some.slot.now (sym c.in-Some.ensures.value))).0 q
    ∙ ap (λ k. cond (is_at (bytes_cmp k) q) (Some c.expect.new.self) (slot_at q c.args.slots.now.entries)) c.key.ensures

pub returns-in_err-expect-in-Some-clause-slots : goal.returns-in_err-expect-in-Some-clause-slots
returns-in_err-expect-in-Some-clause-slots c = slots (goal.at.returns-in_err-expect-in-Some-clause-slots c).After-expect

pub returns-in_err-expect-in-Some-clause-rows : goal.returns-in_err-expect-in-Some-clause-rows
returns-in_err-expect-in-Some-clause-rows c = rows (goal.at.returns-in_err-expect-in-Some-clause-rows c).After-expect

pub returns-in_ok-expect-in-Some-clause-slots : goal.returns-in_ok-expect-in-Some-clause-slots
returns-in_ok-expect-in-Some-clause-slots c = slots (goal.at.returns-in_ok-expect-in-Some-clause-slots c).After-expect

pub returns-in_ok-expect-in-Some-clause-rows : goal.returns-in_ok-expect-in-Some-clause-rows
returns-in_ok-expect-in-Some-clause-rows c = rows (goal.at.returns-in_ok-expect-in-Some-clause-rows c).After-expect

pub returns-in_ok-expect-in-Some-clause-awaited : goal.returns-in_ok-expect-in-Some-clause-awaited
returns-in_ok-expect-in-Some-clause-awaited c = λ q.
    let here = (goal.at.returns-in_ok-expect-in-Some-clause-awaited c).After-expect in
    awaited-more (key_of c.args.id.now) q c.args.slots.now.entries (c.get_mut.follows.lender c.expect.new.self).entries c.expect.new.self (updates here q) c.in-Some.slot.now (found here)
    c.in_ok-expect-in-Some.ensures.awaited

pub returns-in_ok-expect-in-Some-clause-lists : goal.returns-in_ok-expect-in-Some-clause-lists
returns-in_ok-expect-in-Some-clause-lists c = λ q.
    let here = (goal.at.returns-in_ok-expect-in-Some-clause-lists c).After-expect in
    lists-more (key_of c.args.id.now) q c.args.slots.now.entries (c.get_mut.follows.lender c.expect.new.self).entries c.expect.new.self (updates here q) c.in-Some.slot.now
    (is_field c.args.id.now) (found here) c.in_ok-expect-in-Some.ensures.list
    ∙ ap (λ field. is_list_at q c.args.slots.now.entries || field) (field_of_key q c.args.id.now)
