use Rattle.std.proofs.Common.{sym, ap, subst, ◌∙◌, arith}
use Rattle.placing.specs.Read.{AreOf}
use Rattle.standby_stream.specs.Delta.{AreIdsEnded, ids_ended}
use Rattle.standby_stream.proofs.ReadLemmas.{ids_are_ended}
use Rattle.primary.proofs.resuming.read_versions.Goals as goal

pub returns-clause-ids : goal.returns-clause-ids
returns-clause-ids g c = λ contents are.
    subst (AreIdsEnded contents) (sym (c.in_ok-ended.ensures.ok ∙ ap ids_ended c.deref.ensures.value)) (ids_are_ended contents _ _ are)

pub returns-clause-last : goal.returns-clause-last
returns-clause-last g c = λ contents layout lines are.
    c.in_ok-room.ensures.last contents layout lines (subst (AreOf contents c.args.versions.counted.items) (sym c.deref-2.ensures.value) are) (omega (arith, c.empty-keyspace.ensures.last))
