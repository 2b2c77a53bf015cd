use Rattle.std.proofs.Common.{◌≡◌}
use Rattle.std.proofs.lemmas.Result.{on_ok_weaker}
use Rattle.wbl_migrate.specs.declared.marking.TheConstants.{VERSION_WORD}
use Rattle.wbl_migrate.proofs.Touching.{one_stored, step_keeps}
use Rattle.wbl_migrate.proofs.Marks.{mark_stored, new_ok, new_moments}
use Rattle.wbl_migrate.proofs.marking.mark_new.Goals as goal

pub returns-clause-ok : goal.returns-clause-ok
returns-clause-ok g c =
    let old = g.P.Pmem.state c.args.device.now in
    on_ok_weaker c.persist_durably.result
    (λ staged r s all. new_ok old (g.P.Pmem.state c.persist_durably.new.device) c.version.result old.lines r s c.version.ensures staged all) c.persist_durably.ensures.ok

pub returns-clause-elsewhere : goal.returns-clause-elsewhere
returns-clause-elsewhere g c =
    step_keeps (λ word. word ≡ VERSION_WORD) (λ word x stored. one_stored VERSION_WORD 2 word x stored)
    (mark_stored c.persist_durably.result c.version.result 2 c.version.ensures c.persist_durably.ensures.ok c.persist_durably.ensures.err)

pub returns-clause-moments : goal.returns-clause-moments
returns-clause-moments g c r s all =
    let old = g.P.Pmem.state c.args.device.now in
    let new = g.P.Pmem.state c.persist_durably.new.device in
    new_moments old new old.lines r s (mark_stored c.persist_durably.result c.version.result 2 c.version.ensures c.persist_durably.ensures.ok c.persist_durably.ensures.err) all
