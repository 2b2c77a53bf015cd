use Rattle.std.proofs.Common.{◌++◌, List, length, IsTrue, sym, ap, subst, ◌∙◌, arith}
use Rattle.std.proofs.lemmas.List.{append-nil}
use Rattle.std.specs.Option.{option_copied_mut}
use Rattle.cmd_core.specs.Contents.{has_key}
use Rattle.model.specs.declared.group.Put.{Put}
use Rattle.model.specs.Group.{put_of}
use Rattle.mv_keyspace.specs.Row.{numbers_of, records_of, rows_of_puts, table_of}
use Rattle.mv_keyspace.specs.Slot.{rows_of}
use Rattle.mv_keyspace.specs.Slots.{awaited_of, is_list_of, rows_in}
use Rattle.mv_keyspace.specs.Table.{Table, entries_of}
use Rattle.mv_keyspace.proofs.PlacingLemmas.{none-made, place-none}
use Rattle.mv_keyspace.proofs.WritingLemmas.{awaited-less, lists-same, some_found, ended-found, ended-missing, placed-missing, placed-rows, placed-slots}
use Rattle.mv_keyspace.proofs.ReadingLemmas.{has-found, has-missing}
use Rattle.mv_keyspace.proofs.slots.change_slot.Goals as goal

pub change-requires-clause-awaited : goal.change-requires-clause-awaited
change-requires-clause-awaited c = let found = ap awaited_of (sym c.in-Some.ensures.value) in omega (arith, found, c.requires.awaited)

pub change-requires-clause-room_for_ended : goal.change-requires-clause-room_for_ended
change-requires-clause-room_for_ended c =
    let same = ap (λ (t : Table). length t) (ended-found c.args.key.now c.args.slots.now.entries c.in-Some.slot.now c.requires.slots (sym c.in-Some.ensures.value) c.args.change.now c.requires.key) in
    (c.args.key.now, c.requires.key, omega (arith, same, c.requires.room_for_ended))

pub returns-in-Some-clause-slots : goal.returns-in-Some-clause-slots
returns-in-Some-clause-slots c =
    let slot = c.change.new.self in
    let wrote = c.get_mut.follows.holds slot in
    let staged = c.requires.staged in
    placed-slots c.args.key.now c.args.slots.now.entries c.in-Some.slot.now c.requires.slots (sym c.in-Some.ensures.value) slot (c.get_mut.follows.lender slot).entries wrote.0 wrote.4 staged.0 c.args.change.now c.requires.key
    (c.change.ensures.table c.args.key.now staged.0 staged.1 c.requires.key staged.2).0

pub returns-in-Some-clause-table : goal.returns-in-Some-clause-table
returns-in-Some-clause-table c = λ position later staged.
    let slot = c.change.new.self in
    let wrote = c.get_mut.follows.holds slot in
    let made = c.change.ensures.table c.args.key.now position later c.requires.key staged in
    (placed-rows c.args.key.now c.args.slots.now.entries c.in-Some.slot.now c.requires.slots (sym c.in-Some.ensures.value) slot (c.get_mut.follows.lender slot).entries wrote.0 wrote.4 position c.args.change.now c.requires.key made.0, made.1)

pub returns-in-Some-clause-ended : goal.returns-in-Some-clause-ended
returns-in-Some-clause-ended c =
    c.change.ensures.ended c.args.key.now c.requires.key
    ∙ ap (λ t. numbers_of c.args.ended.now.items ++ entries_of t) (sym (ended-found c.args.key.now c.args.slots.now.entries c.in-Some.slot.now c.requires.slots (sym c.in-Some.ensures.value) c.args.change.now c.requires.key))

pub returns-in-Some-clause-awaited : goal.returns-in-Some-clause-awaited
returns-in-Some-clause-awaited c = λ q.
    let slot = c.change.new.self in
    let wrote = c.get_mut.follows.holds slot in
    awaited-less c.args.key.now q c.args.slots.now.entries (c.get_mut.follows.lender slot).entries slot ((wrote.3 (some_found c.args.key.now c.args.slots.now.entries c.in-Some.slot.now (sym c.in-Some.ensures.value))).0 q)
    c.in-Some.slot.now (length (put_of c.args.change.now)) (sym c.in-Some.ensures.value) c.change.ensures.awaited

pub change-requires-clause-list : goal.change-requires-clause-list
change-requires-clause-list c = λ field. subst (λ s. IsTrue (is_list_of s)) (sym c.in-Some.ensures.value) (c.requires.lists field)

pub returns-in-Some-clause-lists : goal.returns-in-Some-clause-lists
returns-in-Some-clause-lists c = λ q.
    let slot = c.change.new.self in
    let wrote = c.get_mut.follows.holds slot in
    lists-same c.args.key.now q c.args.slots.now.entries (c.get_mut.follows.lender slot).entries slot ((wrote.3 (some_found c.args.key.now c.args.slots.now.entries c.in-Some.slot.now (sym c.in-Some.ensures.value))).0 q)
    c.in-Some.slot.now (sym c.in-Some.ensures.value) c.change.ensures.list

pub returns-in-None-clause-table : goal.returns-in-None-clause-table
returns-in-None-clause-table c = λ position later staged.
    let change = c.args.change.now in
    let missing = sym c.get_mut.ensures.value ∙ ap option_copied_mut c.in-None.is in
    let zero = ap awaited_of missing in
    let none = none-made change (omega (arith, zero, c.requires.awaited)) in (
      ap (λ m. table_of (rows_in m.entries)) c.get_mut.follows.holds-at-none ∙ placed-missing c.args.key.now c.args.slots.now.entries c.requires.slots missing position change c.requires.key (place-none position change none),
      staged ∙ ap (λ (puts : List Put). rows_of_puts position (puts ++ later)) none,
    )

pub returns-in-None-clause-ended : goal.returns-in-None-clause-ended
returns-in-None-clause-ended c =
    let missing = sym c.get_mut.ensures.value ∙ ap option_copied_mut c.in-None.is in
    sym (ap (λ t. numbers_of c.args.ended.now.items ++ entries_of t) (ended-missing c.args.key.now c.args.slots.now.entries c.requires.slots missing c.args.change.now c.requires.key) ∙ append-nil (numbers_of c.args.ended.now.items))

pub returns-in-Some-clause-had : goal.returns-in-Some-clause-had
returns-in-Some-clause-had c = c.has_in-had.ensures ∙ ap (λ key. has_key (records_of (rows_of key c.in-Some.slot.now)) key) c.as_slice.ensures ∙ has-found c.args.key.now c.args.slots.now.entries c.in-Some.slot.now c.requires.slots (sym c.in-Some.ensures.value)

pub returns-in-Some-clause-has : goal.returns-in-Some-clause-has
returns-in-Some-clause-has c =
    let key = c.args.key.now in
    let es = c.args.slots.now.entries in
    let slot = c.change.new.self in
    let after = (c.get_mut.follows.lender slot).entries in
    let wrote = c.get_mut.follows.holds slot in
    let found = sym c.in-Some.ensures.value in
    let staged = c.requires.staged in
    let slots = placed-slots key es c.in-Some.slot.now c.requires.slots found slot after wrote.0 wrote.4 staged.0 c.args.change.now c.requires.key (c.change.ensures.table c.args.key.now staged.0 staged.1 c.requires.key staged.2).0 in
    c.has_in.ensures ∙ ap (λ key. has_key (records_of (rows_of key slot)) key) c.as_slice-in-Some.ensures ∙ has-found key after slot slots (wrote.3 (some_found key es c.in-Some.slot.now found)).1

pub returns-in-None-clause-had : goal.returns-in-None-clause-had
returns-in-None-clause-had c = has-missing c.args.key.now c.args.slots.now.entries c.requires.slots (sym c.get_mut.ensures.value ∙ ap option_copied_mut c.in-None.is)

pub returns-in-None-clause-has : goal.returns-in-None-clause-has
returns-in-None-clause-has c =
    has-missing c.args.key.now c.args.slots.now.entries c.requires.slots (sym c.get_mut.ensures.value ∙ ap option_copied_mut c.in-None.is)
    ∙ ap (λ m. has_key (records_of (rows_in m.entries)) c.args.key.now) (sym c.get_mut.follows.holds-at-none)
