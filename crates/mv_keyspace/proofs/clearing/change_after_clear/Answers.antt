use Rattle.std.proofs.Common.{◌∷◌, ◌++◌, length, sym, ap, subst, ◌∙◌}
use Rattle.std.proofs.lemmas.List.{map-append}
use Rattle.kv_types.specs.declared.place.EntryNo.{EntryNo}
use Rattle.model.specs.declared.group.PlacedChange.TheVariants as placed
use Rattle.cmd_core.specs.Contents.{keys_of}
use Rattle.cmd_core.proofs.RecordsLemmas.{keys_none}
use Rattle.mv_keyspace.specs.Row.{numbers_of, records_of, table_of}
use Rattle.mv_keyspace.specs.Slots.{rows_in}
use Rattle.mv_keyspace.specs.Table.{entries_of, place_all, puts_of, AreFresh, AreNumbersEnded}
use Rattle.mv_keyspace.proofs.ClearingLemmas.{ended-cleared, fresh-cleared, numbers_put, placed-cleared}
use Rattle.mv_keyspace.proofs.clearing.change_after_clear.Goals as goal

pub change_keys-requires-clause-fresh : goal.change_keys-requires-clause-fresh
change_keys-requires-clause-fresh c =
    subst (λ es. AreFresh (table_of (rows_in es)) (puts_of c.args.later.now)) (sym c.new-made.ensures.empty)
    (fresh-cleared c.args.position (table_of (rows_in c.args.slots.now.entries)) c.args.before.now c.args.later.now c.requires.lawful c.requires.fresh)

pub change_keys-requires-clause-counted : goal.change_keys-requires-clause-counted
change_keys-requires-clause-counted c = sym (ap (λ es. length (keys_of (records_of (rows_in es)))) c.new-made.ensures.empty ∙ ap (λ keys. length keys) keys_none)

pub returns-clause-table : goal.returns-clause-table
returns-clause-table c =
    c.in_ok-keys.ensures.table ∙ ap (λ es. place_all c.args.position (table_of (rows_in es)) c.args.later.now) c.new-made.ensures.empty
    ∙ sym (placed-cleared c.args.position (table_of (rows_in c.args.slots.now.entries)) c.args.before.now c.args.later.now c.requires.lawful c.requires.fresh)

pub returns-clause-ended : goal.returns-clause-ended
returns-clause-ended c =
    let position = c.args.position in
    let before = c.args.before.now in
    let later = c.args.later.now in
    let table = table_of (rows_in c.args.slots.now.entries) in
    let named = c.name_puts.new.named.items in
    let gone = c.in_ok-keys.ensures.ended in
    let ended = subst (λ es. AreNumbersEnded position (table_of (rows_in es)) later (numbers_of gone.0)) c.new-made.ensures.empty gone.2 in
    let first =
    c.in_ok-name_puts.ensures
    ∙ ap (λ numbers. numbers ++ numbers_put (puts_of before)) (c.in_ok-name_rows_in.ensures ∙ ap (λ items. numbers_of items ++ entries_of table) c.new-named.ensures.items) in
    let all = ap numbers_of gone.1 ∙ map-append (λ (entry : EntryNo). entry.0) named gone.0 ∙ ap (λ numbers. numbers ++ numbers_of gone.0) first in (
      c.change_keys.new.ended.items,
      c.in_ok-append.ensures.items,
      subst (AreNumbersEnded position table (before ++ placed.Clear ∷ later)) (sym all) (ended-cleared position table before later c.requires.lawful c.requires.fresh (numbers_of gone.0) ended),
    )
