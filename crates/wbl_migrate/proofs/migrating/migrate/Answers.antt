use Rattle.std.proofs.Common.{inr, subst}
use Rattle.std.proofs.lemmas.Result.{IfOk-weaker}
use Rattle.pmem.specs.Crash.{image_of}
use Rattle.model.specs.declared.layout.Layout.TheVariants.{Version1, Version2, Halfway}
use Rattle.model.specs.declared.layout.Layout.{Layout}
use Rattle.model.specs.Image.{HasSuperblock}
use Rattle.wbl_migrate.specs.Migrating.{IsMigrated}
use Rattle.wbl_migrate.proofs.Limits.{if_err, only_halfway, only_old}
use Rattle.wbl_migrate.proofs.Migratable.{certain_image, only_new, stays}
use Rattle.wbl_migrate.proofs.migrating.migrate.Goals as goal

pub returns-in-Ok-Version2-clause-ok : goal.returns-in-Ok-Version2-clause-ok
returns-in-Ok-Version2-clause-ok g c r s is =
    let d = g.P.Pmem.state c.args.device in
    let new : HasSuperblock Version2 d.lines (image_of d.words) =
    subst (λ (layout : Layout). HasSuperblock layout d.lines (image_of d.words)) c.in-Ok-Version2.field-0-is c.in-Ok-Version2.ensures.ok in
    certain_image d (IsMigrated d.lines r s) c.requires.settled (only_new d.lines r s (image_of d.words) new is)

pub returns-in-Ok-Version2-clause-moments : goal.returns-in-Ok-Version2-clause-moments
returns-in-Ok-Version2-clause-moments g c r s is =
    let d = g.P.Pmem.state c.args.device in
    stays d d.lines r s c.requires.settled is

pub returns-in-Err-clause-moments : goal.returns-in-Err-clause-moments
returns-in-Err-clause-moments g c r s is =
    let d = g.P.Pmem.state c.args.device in
    stays d d.lines r s c.requires.settled is

pub returns-in-Ok-Version1-clause-exhausted : goal.returns-in-Ok-Version1-clause-exhausted
returns-in-Ok-Version1-clause-exhausted g c =
    let d = g.P.Pmem.state c.args.device in
    let old : HasSuperblock Version1 d.lines (image_of d.words) =
    subst (λ (layout : Layout). HasSuperblock layout d.lines (image_of d.words)) c.in-Ok-Version1.field-0-is c.in-Ok-Version1.ensures.ok in
    if_err c.upgrade.result c.upgrade.ensures.exhausted (λ refused told is r s migratable. told is r s (only_old d.lines r s (image_of d.words) old migratable))

pub returns-in-Ok-Halfway-clause-exhausted : goal.returns-in-Ok-Halfway-clause-exhausted
returns-in-Ok-Halfway-clause-exhausted g c =
    let d = g.P.Pmem.state c.args.device in
    let halfway : HasSuperblock Halfway d.lines (image_of d.words) =
    subst (λ (layout : Layout). HasSuperblock layout d.lines (image_of d.words)) c.in-Ok-Halfway.field-0-is c.in-Ok-Halfway.ensures.ok in
    if_err c.finish.result c.finish.ensures.exhausted (λ refused told is r s migratable. told is r s (only_halfway d.lines r s (image_of d.words) halfway migratable))

pub returns-in-Ok-Halfway-clause-ok : goal.returns-in-Ok-Halfway-clause-ok
returns-in-Ok-Halfway-clause-ok g c =
    let d = g.P.Pmem.state c.args.device in
    let halfway : HasSuperblock Halfway d.lines (image_of d.words) =
    subst (λ (layout : Layout). HasSuperblock layout d.lines (image_of d.words)) c.in-Ok-Halfway.field-0-is c.in-Ok-Halfway.ensures.ok in
    IfOk-weaker c.finish.result _ _ (λ after told r s migratable. told r s (only_halfway d.lines r s (image_of d.words) halfway migratable)) c.finish.ensures.ok

pub returns-in-Ok-Version1-clause-synced : goal.returns-in-Ok-Version1-clause-synced
returns-in-Ok-Version1-clause-synced g c = IfOk-weaker c.upgrade.result _ _ (λ after is. inr is) c.upgrade.ensures.synced

pub returns-in-Ok-Halfway-clause-synced : goal.returns-in-Ok-Halfway-clause-synced
returns-in-Ok-Halfway-clause-synced g c = IfOk-weaker c.finish.result _ _ (λ after is. inr is) c.finish.ensures.synced
