use Rattle.std.proofs.Common.{sym, subst, ◌∙◌, ◌≤◌}
use Rattle.std.proofs.lemmas.Result.{IfOk-weaker}
use Rattle.kv_types.specs.declared.refusal.Refusal.TheVariants.{WrongSize}
use Rattle.model.specs.declared.image.TheConstants.{MAX_LINES}
use Rattle.model.specs.declared.layout.TheConstants.{LAYOUT}
use Rattle.pmem.specs.Crash.{image_of}
use Rattle.primary.proofs.FittingLemmas.{have_their_lines, size-few}
use Rattle.primary.proofs.Restarted.{are_of_restarted, shows_restarted}
use Rattle.primary.proofs.opening.open.Goals as goal

pub assemble-requires-clause-read : goal.assemble-requires-clause-read
assemble-requires-clause-read g c =
    let opened = c.in-Ok.ensures in
    are_of_restarted (g.P.Pmem.state c.in-Ok.engine.device) _ _ _ _ _ _ opened.reopens opened.shown opened.durable

pub assemble-requires-clause-lines : goal.assemble-requires-clause-lines
assemble-requires-clause-lines g c =
    let opened = c.in-Ok.ensures in
    have_their_lines _ _ (shows_restarted (g.P.Pmem.state c.in-Ok.engine.device) _ _ _ _ _ _ opened.reopens opened.shown opened.durable)

-- a device of another size was refused
pub assemble-requires-clause-size : goal.assemble-requires-clause-size
assemble-requires-clause-size g c =
    let device = g.P.Pmem.state c.args.device in
    subst (λ lines. lines ≤ MAX_LINES) (sym c.in-Ok.ensures.reopens.lines_are)
    (size-few LAYOUT device.lines (image_of device.words) (λ wrong. let both = sym c.in-Ok.is ∙ c.reopen.ensures.superblock WrongSize wrong in cc))

pub returns-in-Ok-clause-keeps : goal.returns-in-Ok-clause-keeps
returns-in-Ok-clause-keeps g c =
    IfOk-weaker c.assemble.result _ _
    (λ opened all past keyspaces recalled. (all past _ _ keyspaces recalled (record { counted = _; gapped = _; reopens = c.in-Ok.ensures.reopens })).0) c.assemble.ensures.keeps

pub returns-in-Ok-clause-delta : goal.returns-in-Ok-clause-delta
returns-in-Ok-clause-delta g c =
    IfOk-weaker c.assemble.result _ _
    (λ opened all past keyspaces recalled. (all past _ _ keyspaces recalled (record { counted = _; gapped = _; reopens = c.in-Ok.ensures.reopens })).1) c.assemble.ensures.keeps
