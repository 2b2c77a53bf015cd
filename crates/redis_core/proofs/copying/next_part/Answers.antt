use Rattle.std.proofs.Common.{Option, sym, ap, ◌∙◌}
use Rattle.kv_types.specs.declared.record_id.RecordId.{RecordId}
use Rattle.mv_keyspace.specs.Paging.{page, rows_after}
use Rattle.redis_core.specs.Copying.{copy_of}
use Rattle.redis_core.proofs.CopiedLemmas.{next-part}
use Rattle.redis_core.proofs.copying.next_part.Goals as goal

pub returns-clause-ok : goal.returns-clause-ok
returns-clause-ok g c =
    let copy = copy_of (g.K.Keyspace.table c.args.keyspace.now) (g.K.Keyspace.past c.args.keyspace.now) c.args.copying.now in
    let last = c.in-Some.ensures in
    next-part c.args.bytes copy c.in_ok-rows.rows.items last.0 last.1 c.in_ok-puts_of.field-0.items c.in_ok-last-in-Some.last
    (c.in_ok-rows.ensures.ok ∙ ap (λ (after : Option RecordId). page c.args.bytes (rows_after after copy.rows)) c.as_ref.ensures.value)
    (sym c.deref.ensures.value ∙ last.2) c.in_ok-puts_of.ensures.ok (c.in_ok-last-in-Some.ensures.cases ∙ last.3)
