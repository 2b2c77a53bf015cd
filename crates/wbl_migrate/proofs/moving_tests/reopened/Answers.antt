use Rattle.model.specs.declared.layout.Layout.TheVariants.{Version2}
use Rattle.wbl_migrate.proofs.VacatingImages.{opened_contents}
use Rattle.wbl_migrate.proofs.moving_tests.reopened.Goals as goal

pub returns-in-Ok-clause-ready : goal.returns-in-Ok-clause-ready
returns-in-Ok-clause-ready g c =
    let told = c.in-Ok.ensures in
    let opened = opened_contents Version2 (g.P.Pmem.state c.in-Ok.opened.0.device) told.superblock told.reopens told.shown told.durable in
    record { sound = told.sound.0; durable = told.durable; consistent = opened.0; lawful = opened.1 }

pub returns-in-Ok-clause-known : goal.returns-in-Ok-clause-known
returns-in-Ok-clause-known g c =
    let told = c.in-Ok.ensures in
    (opened_contents Version2 (g.P.Pmem.state c.in-Ok.opened.0.device) told.superblock told.reopens told.shown told.durable).2
