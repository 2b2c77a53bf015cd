use Rattle.std.proofs.Common.{inl, inr, sym, ◌∙◌}
use Rattle.std.proofs.lemmas.Result.{err_from_is_err_and}
use Rattle.model.specs.declared.record.Role.TheVariants as role
use Rattle.pmem.specs.Crash.{image_of}
use Rattle.placing.specs.Read.{AreOf}
use Rattle.primary.proofs.ClosedLemmas.{consistent-read, laid-read, starts-so}
use Rattle.primary.proofs.KeptImages.{delta-leads, keeps-opened, reopening-leaves}
use Rattle.primary.proofs.OpenedLemmas.{leads_to}
use Rattle.primary.proofs.Restarted.{are_of_restarted, shows_restarted}
use Rattle.primary.proofs.primary.Primary.restart.Given.{Over}
use Rattle.primary.proofs.primary.Primary.restart.Goals as goal
use Rattle.primary.proofs.primary.Primary.restart.Goals.{After-epoch}

-- the lists that were read of the image are those of the contents
are_of : (g : Over) (c : After-epoch g) → AreOf (g.E.Durable.contents c.restart.new.self.engine) c.in_ok-versions.versions.counted.items c.in_ok-versions.versions.gapped.items
are_of g c =
    let device = g.E.Durable.device c.args.self.now.back.committer.engine in
    let versions = c.in_ok-versions.versions in
    let opened = c.in_ok-versions.ensures in
    are_of_restarted (g.E.Durable.device c.restart.new.self.engine) device.lines (image_of device.words) role.Primary (g.E.Durable.contents c.restart.new.self.engine) versions.counted.items versions.gapped.items opened.reopens
    opened.shown opened.durable

pub resume-requires-clause-read : goal.resume-requires-clause-read
resume-requires-clause-read g c =
    (g.E.Durable.contents c.restart.new.self.engine, sym c.layout-layout.ensures, sym c.lines-lines.ensures, sym c.position.ensures, are_of g (goal.at.resume-requires-clause-read g c).After-epoch)

pub returns-clause-shows : goal.returns-clause-shows
returns-clause-shows g c =
    let device = g.E.Durable.device c.args.self.now.back.committer.engine in
    let versions = c.in_ok-versions.versions in
    let opened = c.in_ok-versions.ensures in
    shows_restarted (g.E.Durable.device c.restart.new.self.engine) device.lines (image_of device.words) role.Primary (g.E.Durable.contents c.restart.new.self.engine) versions.counted.items versions.gapped.items
    opened.reopens opened.shown opened.durable

pub returns-clause-stands : goal.returns-clause-stands
returns-clause-stands g c =
    let contents = g.E.Durable.contents c.restart.new.self.engine in
    let are = are_of g (goal.at.returns-clause-stands g c).After-epoch in
    let over = c.in_ok-sequencer.ensures.sequencer contents (sym c.layout-layout.ensures) (sym c.lines-lines.ensures) (sym c.position.ensures) (sym c.epoch.ensures) are in
    let opened = c.in_ok-versions.ensures in
    rw (opened.ready.2, c.drop_all.ensures)
    (starts-so (g.E.Durable.device c.restart.new.self.engine) contents _ over (consistent-read contents _ _ are) (laid-read contents _ _ are) opened.durable)

pub returns-clause-sequencer : goal.returns-clause-sequencer
returns-clause-sequencer g c =
    c.in_ok-sequencer.ensures.sequencer (g.E.Durable.contents c.restart.new.self.engine) (sym c.layout-layout.ensures) (sym c.lines-lines.ensures) (sym c.position.ensures) (sym c.epoch.ensures)
    (are_of g (goal.at.returns-clause-sequencer g c).After-epoch)

pub returns-clause-opening : goal.returns-clause-opening
returns-clause-opening g c =
    let told = c.in_ok-sequencer.ensures.opening in
    let contents = g.E.Durable.contents c.restart.new.self.engine in
    (told.0 ∙ c.position.ensures, told.1 contents (sym c.layout-layout.ensures) (sym c.lines-lines.ensures) (are_of g (goal.at.returns-clause-opening g c).After-epoch))

pub returns-clause-leads : goal.returns-clause-leads
returns-clause-leads g c =
    let contents = g.E.Durable.contents c.restart.new.self.engine in
    let made = c.in_ok-sequencer.ensures in
    let lines = sym c.lines-lines.ensures in
    let position = sym c.position.ensures in
    let are = are_of g (goal.at.returns-clause-leads g c).After-epoch in
    leads_to contents _ _ (consistent-read contents _ _ are) (made.sequencer contents (sym c.layout-layout.ensures) lines position (sym c.epoch.ensures) are) (made.opening.1 contents (sym c.layout-layout.ensures) lines are)

pub returns-clause-keeps : goal.returns-clause-keeps
returns-clause-keeps g c = λ past keyspaces recalled.
    let device = g.E.Durable.device c.args.self.now.back.committer.engine in
    let contents = g.E.Durable.contents c.restart.new.self.engine in
    let are = are_of g (goal.at.returns-clause-keeps g c).After-epoch in
    let over = c.in_ok-sequencer.ensures.sequencer contents (sym c.layout-layout.ensures) (sym c.lines-lines.ensures) (sym c.position.ensures) (sym c.epoch.ensures) are in
    let opened = c.in_ok-versions.ensures in
    rw (opened.ready.2, c.drop_all.ensures)
    (keeps-opened past device.lines (image_of device.words) role.Primary contents recalled (record { counted = c.in_ok-versions.versions.counted.items; gapped = c.in_ok-versions.versions.gapped.items; reopens = opened.reopens }) _ over (consistent-read contents _ _ are) keyspaces)

pub returns-clause-delta : goal.returns-clause-delta
returns-clause-delta g c = λ past keyspaces recalled.
    let device = g.E.Durable.device c.args.self.now.back.committer.engine in
    let contents = g.E.Durable.contents c.restart.new.self.engine in
    let are = are_of g (goal.at.returns-clause-delta g c).After-epoch in
    let made = c.in_ok-sequencer.ensures in
    let lines = sym c.lines-lines.ensures in
    let over = made.sequencer contents (sym c.layout-layout.ensures) lines (sym c.position.ensures) (sym c.epoch.ensures) are in
    let consistent = consistent-read contents _ _ are in
    delta-leads past device.lines (image_of device.words) role.Primary contents recalled (record { counted = c.in_ok-versions.versions.counted.items; gapped = c.in_ok-versions.versions.gapped.items; reopens = c.in_ok-versions.ensures.reopens }) _ over consistent keyspaces _
    (made.opening.0 ∙ c.position.ensures) (made.floor ∙ c.floor-floor.ensures) (leads_to contents _ _ consistent over (made.opening.1 contents (sym c.layout-layout.ensures) lines are))

pub returns-in_err-sequencer-clause-refused : goal.returns-in_err-sequencer-clause-refused
returns-in_err-sequencer-clause-refused g c =
    let exit = err_from_is_err_and c.from_residual-in_err-sequencer.result c.from_residual-in_err-sequencer.ensures.1 in
    rw exit.1 (inr (inl (exit.2 ∙ c.in_err-sequencer.ensures.cause)))

pub returns-clause-leaves : goal.returns-clause-leaves
returns-clause-leaves g c = λ r past undamaged recalled.
    reopening-leaves past (g.E.Durable.device c.args.self.now.back.committer.engine) (g.E.Durable.device c.restart.new.self.engine) _ r recalled undamaged (c.restart.ensures.moments r undamaged)

pub returns-in_err-sequencer-clause-leaves : goal.returns-in_err-sequencer-clause-leaves
returns-in_err-sequencer-clause-leaves g c = λ r past undamaged recalled.
    reopening-leaves past (g.E.Durable.device c.args.self.now.back.committer.engine) (g.E.Durable.device c.restart.new.self.engine) _ r recalled undamaged (c.restart.ensures.moments r undamaged)

pub returns-in_err-versions-clause-leaves : goal.returns-in_err-versions-clause-leaves
returns-in_err-versions-clause-leaves g c = λ r past undamaged recalled.
    reopening-leaves past (g.E.Durable.device c.args.self.now.back.committer.engine) (g.E.Durable.device c.restart.new.self.engine) _ r recalled undamaged (c.restart.ensures.moments r undamaged)
