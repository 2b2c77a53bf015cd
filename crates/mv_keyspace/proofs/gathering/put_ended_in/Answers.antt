use Rattle.std.proofs.Common.{◌≡◌, sym, ap, ◌∙◌}
use Rattle.std.proofs.lemmas.Result.{on_ok_weaker}
use Rattle.model.specs.Group.{change_of}
use Rattle.mv_keyspace.specs.Row.{ended_rows, table_of}
use Rattle.mv_keyspace.specs.Slot.{rows_of}
use Rattle.mv_keyspace.specs.Slots.{rows_in}
use Rattle.mv_keyspace.specs.Versions.{table_in, with_rows}
use Rattle.mv_keyspace.proofs.GatheringLemmas.{ended-all}
use Rattle.mv_keyspace.proofs.WritingLemmas.{ended-found, ended-missing}
use Rattle.mv_keyspace.proofs.gathering.put_ended_in.Goals as goal

pub returns-in-Some-get : goal.returns-in-Some-get
returns-in-Some-get c =
    let change = c.args.change.now in
    let key = c.in-Some.key.now in
    let slot = c.in-Some-get.slot.now in
    let before = table_in c.args.gathered.now.entries in
    on_ok_weaker c.put_ended_of.result
    (λ (put : table_in c.put_ended_of.new.gathered.entries ≡ with_rows (ended_rows (change_of change) (table_of (rows_of key slot))) before).
    put ∙ ap (λ t. with_rows t before) (sym (ended-found key c.args.slots.now.entries slot c.requires (sym c.in-Some-get.ensures.value) change (sym c.in-Some.ensures))))
    c.put_ended_of.ensures

pub returns-in-None-get : goal.returns-in-None-get
returns-in-None-get c =
    sym (ap (λ t. with_rows t (table_in c.args.gathered.now.entries)) (ended-missing c.in-Some.key.now c.args.slots.now.entries c.requires (sym c.in-None-get.ensures.value) c.args.change.now (sym c.in-Some.ensures)))

pub returns-in-None : goal.returns-in-None
returns-in-None c =
    let change = change_of c.args.change.now in
    let table = table_of (rows_in c.args.slots.now.entries) in
    let before = table_in c.args.gathered.now.entries in
    on_ok_weaker c.put_all_slots.result
    (λ (put : table_in c.put_all_slots.new.gathered.entries ≡ with_rows table before). put ∙ ap (λ t. with_rows t before) (sym (ended-all change table (sym c.in-None.ensures))))
    c.put_all_slots.ensures
