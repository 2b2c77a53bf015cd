use Rattle.std.proofs.Common.{◌++◌, ◌∷◌, [], IsTrue, subst}
use Rattle.std.proofs.lemmas.Bool.{false_from_ne_true}
use Rattle.std.specs.FinMap.Entries.{is_sorted}
use Rattle.kv_types.specs.Keyspace.{key_of, record_cmp}
use Rattle.mv_keyspace.specs.Row.{records_of}
use Rattle.mv_keyspace.specs.Slot.{is_field, is_list, rows_of}
use Rattle.mv_keyspace.proofs.StringLemmas.{none-behind}
use Rattle.mv_keyspace.proofs.slot.Slot.put_last.Goals as goal

pub unreachable-requires : goal.unreachable-requires
unreachable-requires c =
    let row = c.args.row in
    let version = c.in-Str.field-1 in
    let string = false_from_ne_true (is_field row.id) (λ field. let list = subst (λ s. IsTrue (is_list s)) c.in-Str.is (c.requires.list field) in cc) in
    none-behind row.id version.value row.value string (subst (λ s. IsTrue (is_sorted record_cmp (records_of (rows_of (key_of row.id) s ++ row ∷ [])))) c.in-Str.is c.requires.order)
