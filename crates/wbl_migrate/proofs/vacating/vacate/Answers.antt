use Rattle.std.proofs.Common.{◌≡◌, inl, inr, sym, subst, ◌∙◌}
use Rattle.std.proofs.lemmas.Result.{IfErr-weaker, IfOk-weaker, MatchResult-weaker}
use Rattle.kv_types.specs.declared.refusal.Refusal.TheVariants.{Exhausted, Fault, Full}
use Rattle.pmem.specs.Crash.{image_of}
use Rattle.model.specs.declared.layout.Layout.TheVariants.{Version1}
use Rattle.model.specs.declared.record.Record.{Record}
use Rattle.model.specs.Image.{Image}
use Rattle.wbl_engine.specs.Relocating.{ExhaustsRelocation}
use Rattle.wbl_engine.specs.Reopening.{RefusesReopening}
use Rattle.wbl_migrate.specs.Vacating.{HasLastEntry}
use Rattle.wbl_migrate.proofs.VacatingImages.{left_counts, never_full, on_ok, opened_contents, opened_old, opened_stand, readable_moments}
use Rattle.wbl_migrate.proofs.VacatingImages.{stopped_old, vacated_goes_on, vacated_movable, vacating_moments}
use Rattle.wbl_migrate.proofs.vacating.vacate.Goals as goal

pub vacate_engine-requires-clause-ready : goal.vacate_engine-requires-clause-ready
vacate_engine-requires-clause-ready g c =
    let told = c.in-Ok.ensures in
    let opened = opened_contents Version1 (g.P.Pmem.state c.in-Ok.engine.device) told.superblock told.reopens told.shown told.durable in
    record { sound = told.sound.0; durable = told.durable; consistent = opened.0; lawful = opened.1 }

pub vacate_engine-requires-clause-known : goal.vacate_engine-requires-clause-known
vacate_engine-requires-clause-known g c =
    let told = c.in-Ok.ensures in
    let opened = opened_contents Version1 (g.P.Pmem.state c.in-Ok.engine.device) told.superblock told.reopens told.shown told.durable in
    opened.2

pub returns-in-Ok-clause-goes_on : goal.returns-in-Ok-clause-goes_on
returns-in-Ok-clause-goes_on g c =
    let told = c.in-Ok.ensures in
    let opened = opened_contents Version1 (g.P.Pmem.state c.in-Ok.engine.device) told.superblock told.reopens told.shown told.durable in
    IfOk-weaker c.vacate_engine.result _ _
    (λ o vacated r s old. vacated_goes_on _ r s _ o.1 (g.P.Pmem.state o.0) (opened_stand told.reopens r s old opened.1) vacated)
    c.vacate_engine.ensures.vacated

pub returns-in-Ok-clause-ok : goal.returns-in-Ok-clause-ok
returns-in-Ok-clause-ok g c =
    let told = c.in-Ok.ensures in
    let opened = opened_contents Version1 (g.P.Pmem.state c.in-Ok.engine.device) told.superblock told.reopens told.shown told.durable in
    IfOk-weaker c.vacate_engine.result _ _
    (λ o vacated r s old. vacated_movable _ r s _ o.1 (g.P.Pmem.state o.0) (opened_stand told.reopens r s old opened.1) vacated)
    c.vacate_engine.ensures.vacated

pub returns-in-Ok-clause-no_fault : goal.returns-in-Ok-clause-no_fault
returns-in-Ok-clause-no_fault g c =
    IfErr-weaker c.vacate_engine.result _ _ (λ refused same other. same other ∙ c.in-Ok.ensures.sound.1) c.vacate_engine.ensures.no_fault

pub returns-in-Ok-clause-moments : goal.returns-in-Ok-clause-moments
returns-in-Ok-clause-moments g c r s old =
    let told = c.in-Ok.ensures in
    let opened = opened_contents Version1 (g.P.Pmem.state c.in-Ok.engine.device) told.superblock told.reopens told.shown told.durable in
    let a = g.P.Pmem.state c.args.device in
    let b = g.P.Pmem.state c.in-Ok.engine.device in
    let stand = opened_stand told.reopens r s old opened.1 in
    let first = told.moments r old.undamaged in
    MatchResult-weaker c.vacate_engine.result c.vacate_engine.ensures.moments
    (λ o run. vacating_moments a.lines r s _ (image_of a.words) a b (g.P.Pmem.state o.0) old stand first run)
    (λ refused run. vacating_moments a.lines r s _ (image_of a.words) a b (g.P.Pmem.state refused.1) old stand first run)

pub returns-in-Err-clause-moments : goal.returns-in-Err-clause-moments
returns-in-Err-clause-moments g c r s old =
    let a = g.P.Pmem.state c.args.device in
    readable_moments a.lines r s (image_of a.words) a (g.P.Pmem.state c.in-Err.refused.1) old (c.in-Err.ensures.moments r old.undamaged)

pub returns-in-Ok-clause-full : goal.returns-in-Ok-clause-full
returns-in-Ok-clause-full g c =
    let told = c.in-Ok.ensures in
    let opened = opened_contents Version1 (g.P.Pmem.state c.in-Ok.engine.device) told.superblock told.reopens told.shown told.durable in
    IfErr-weaker c.vacate_engine.result _ _
    (λ refused stops full r s old.
    stopped_old _ r s _ (HasLastEntry (g.P.Pmem.state c.args.device).lines) (left_counts (g.P.Pmem.state c.args.device).lines) _
    (g.P.Pmem.state refused.1) (opened_stand told.reopens r s old opened.1) (stops full))
    c.vacate_engine.ensures.full

pub returns-in-Ok-clause-exhausted : goal.returns-in-Ok-clause-exhausted
returns-in-Ok-clause-exhausted g c =
    let told = c.in-Ok.ensures in
    let opened = opened_contents Version1 (g.P.Pmem.state c.in-Ok.engine.device) told.superblock told.reopens told.shown told.durable in
    IfErr-weaker c.vacate_engine.result _ _
    (λ refused stops exhausted r s old.
    inr (stopped_old _ r s _ (λ (current : Record) (_ : Image). ExhaustsRelocation 1 current) (λ b image _ _ _ _ is. is) _
    (g.P.Pmem.state refused.1) (opened_stand told.reopens r s old opened.1) (stops exhausted)))
    c.vacate_engine.ensures.exhausted

pub returns-in-Err-clause-full : goal.returns-in-Err-clause-full
returns-in-Err-clause-full g c full r s old =
    let a = g.P.Pmem.state c.args.device in
    elim c.in-Err.ensures.refused [
      | inl fault ↦ absurd (let both : Fault ≡ Full = sym fault ∙ full in cc)
      | inr refuses ↦
          absurd (never_full a.lines (image_of a.words) c.args.role (subst (RefusesReopening Version1 a.lines (image_of a.words) c.args.role) full refuses.0))
    ]

pub returns-in-Err-clause-exhausted : goal.returns-in-Err-clause-exhausted
returns-in-Err-clause-exhausted g c exhausted r s old =
    let a = g.P.Pmem.state c.args.device in
    elim c.in-Err.ensures.refused [
      | inl fault ↦ absurd (let both : Fault ≡ Exhausted = sym fault ∙ exhausted in cc)
      | inr refuses ↦ inl (subst (RefusesReopening Version1 a.lines (image_of a.words) c.args.role) exhausted refuses.0)
    ]

pub returns-in-Ok-clause-only : goal.returns-in-Ok-clause-only
returns-in-Ok-clause-only g c =
    let told = c.in-Ok.ensures in
    on_ok c.vacate_engine.result (opened_old told.reopens told.layout)
