use Rattle.std.proofs.Common.{length, IsTrue, sym, ap, subst, ◌∙◌, arith}
use Rattle.std.specs.Option.{option_copied}
use Rattle.model.specs.Group.{change_of}
use Rattle.mv_keyspace.specs.Row.{records_of}
use Rattle.mv_keyspace.specs.Slots.{rows_in}
use Rattle.mv_keyspace.proofs.KeyCountLemmas.{keys_beside-placed, keys_counted}
use Rattle.mv_keyspace.proofs.ReadingLemmas.{keys_few_slots}
use Rattle.mv_keyspace.proofs.WritingLemmas.{awaits-at, awaits-own, fields-own}
use Rattle.mv_keyspace.proofs.by_key.make_one.Goals as goal

pub change_slot-had-requires-clause-awaited : goal.change_slot-had-requires-clause-awaited
change_slot-had-requires-clause-awaited c =
    omega (arith, awaits-own c.in-Some.key.now c.args.change.now (sym c.key_changed.ensures ∙ ap option_copied c.in-Some.is), c.requires.awaited c.in-Some.key.now)

pub change_slot-had-requires-clause-lists : goal.change_slot-had-requires-clause-lists
change_slot-had-requires-clause-lists c = λ field.
    let key = c.in-Some.key.now in
    c.requires.lists key (subst (λ b. IsTrue b) (fields-own key c.args.change.now (sym c.key_changed.ensures ∙ ap option_copied c.in-Some.is)) field)

pub count_after-requires-clause-some : goal.count_after-requires-clause-some
count_after-requires-clause-some c = λ had. grind (arith, keys_counted (change_of c.args.change.now) (records_of (rows_in c.args.slots.now.entries)))

pub count_after-requires-clause-bound : goal.count_after-requires-clause-bound
count_after-requires-clause-bound c = omega (arith, keys_few_slots c.args.slots.now.entries c.requires.slots, c.requires.counted, c.len-slots.ensures.len, c.len-slots.ensures.small)

pub returns-clause-counted : goal.returns-clause-counted
returns-clause-counted c =
    let change = change_of c.args.change.now in
    let rows = rows_in c.args.slots.now.entries in
    let after = rows_in c.change_slot-had.new.slots.entries in
    let staged = c.requires.staged in
    let placed = (c.change_slot-had.ensures.table staged.0 staged.1 staged.2).0 in
    let same = ap (λ keys. length keys) (keys_beside-placed staged.0 rows after c.args.change.now placed) in
    grind (arith, same, keys_counted change (records_of rows), keys_counted change (records_of after))

pub returns-clause-awaited : goal.returns-clause-awaited
returns-clause-awaited c = λ q.
    omega (arith, awaits-at c.in-Some.key.now q c.args.change.now (sym c.key_changed.ensures ∙ ap option_copied c.in-Some.is), c.change_slot-had.ensures.awaited q)
