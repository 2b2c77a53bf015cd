use Rattle.std.proofs.Common.{List, Ok, Err, sym, ap, subst, ◌∙◌}
use Rattle.kv_types.specs.declared.place.EntryNo.{EntryNo}
use Rattle.kv_types.specs.declared.refusal.Refusal.TheVariants.{Fault}
use Rattle.model.specs.Group.{Contents}
use Rattle.wbl_engine.specs.Relocating.{ExhaustsRelocation}
use Rattle.wbl_migrate.specs.Leaving.{AreLeaving, IsEmptied, IsHeld}
use Rattle.wbl_migrate.specs.Moving.{IsReady}
use Rattle.wbl_migrate.proofs.StepLemmas.{ok_no_error}
use Rattle.wbl_migrate.proofs.VacatingSteps.{device_stops, engine_held, engine_moments, engine_stops, engine_vacated, left_somewhere}
use Rattle.wbl_migrate.proofs.vacating.vacate_engine.Given.{Over}
use Rattle.wbl_migrate.proofs.vacating.vacate_engine.Goals as goal
use Rattle.wbl_migrate.proofs.vacating.vacate_engine.Goals.{After-deref}

ready : (g : Over) (c : After-deref g) → IsReady g.E.Durable.device g.E.Durable.contents g.E.Durable.is_faulted c.vacate_live.new.engine
ready g c = c.in-Ok.ensures.step.ready (ok_no_error c.in-Ok.room Fault)

held : (g : Over) (c : After-deref g)
    → IsHeld c.copy_of-current.result (g.E.Device.Pmem.state c.into_device-device.result) (g.E.Durable.contents c.vacate_live.new.engine)
held g c =
    engine_held g.E.Durable.device g.E.Durable.contents g.E.Durable.is_faulted c.vacate_live.new.engine c.copy_of-current.result
    (g.E.Device.Pmem.state c.into_device-device.result) (ready g c) (g.met.E.Durable.sized c.vacate_live.new.engine)
    (c.copy_of-current.ensures ∙ c.record.ensures) c.into_device-device.ensures

leaving : (g : Over) (c : After-deref g)
    → AreLeaving (g.E.Durable.contents c.vacate_live.new.engine) c.args.versions.now.counted.items c.args.versions.now.gapped.items c.deref.result.now
    c.in-Ok.room.1.items 0
leaving g c =
    subst (λ (cleared : List EntryNo).
    AreLeaving (g.E.Durable.contents c.vacate_live.new.engine) c.args.versions.now.counted.items c.args.versions.now.gapped.items cleared
    c.in-Ok.room.1.items 0)
    (sym c.deref.ensures.value) c.in-Ok.ensures.leaving

pub move_all_ended-requires : goal.move_all_ended-requires
move_all_ended-requires g c =
    let at = (goal.at.move_all_ended-requires g c).After-deref in
    (g.E.Durable.contents c.vacate_live.new.engine, held g at, leaving g at)

pub returns-in-Ok-move_all_ended-clause-vacated : goal.returns-in-Ok-move_all_ended-clause-vacated
returns-in-Ok-move_all_ended-clause-vacated g c =
    let at = (goal.at.returns-in-Ok-move_all_ended-clause-vacated g c).After-deref in
    engine_vacated g.E.Durable.device g.E.Durable.contents g.E.Durable.is_faulted c.args.engine c.vacate_live.new.engine c.copy_of-current.result
    (g.E.Device.Pmem.state c.move_all_ended.new.device) c.in-Ok.ensures.step.stands c.in-Ok.ensures.gapless (c.copy_of-current.ensures ∙ c.record.ensures)
    (c.in-Ok-move_all_ended.ensures.emptied (g.E.Durable.contents c.vacate_live.new.engine) (held g at) (leaving g at))

pub returns-in-Ok-move_all_ended-clause-moments : goal.returns-in-Ok-move_all_ended-clause-moments
returns-in-Ok-move_all_ended-clause-moments g c =
    let at = (goal.at.returns-in-Ok-move_all_ended-clause-moments g c).After-deref in
    engine_moments g.E.Durable.device g.E.Durable.contents g.E.Durable.is_faulted c.args.engine c.vacate_live.new.engine (Ok c.in-Ok.room)
    (g.E.Device.Pmem.state c.into_device-device.result) (g.E.Device.Pmem.state c.move_all_ended.new.device) (ready g at) c.into_device-device.ensures
    c.in-Ok.ensures.step (c.move_all_ended.ensures.moments (g.E.Durable.contents c.vacate_live.new.engine) (held g at) (leaving g at))

pub returns-clause-moments : goal.returns-clause-moments
returns-clause-moments g c =
    let at = (goal.at.returns-clause-moments g c).After-deref in
    engine_moments g.E.Durable.device g.E.Durable.contents g.E.Durable.is_faulted c.args.engine c.vacate_live.new.engine (Ok c.in-Ok.room)
    (g.E.Device.Pmem.state c.into_device-device.result) (g.E.Device.Pmem.state c.move_all_ended.new.device) (ready g at) c.into_device-device.ensures
    c.in-Ok.ensures.step (c.move_all_ended.ensures.moments (g.E.Durable.contents c.vacate_live.new.engine) (held g at) (leaving g at))

pub returns-in-Err-clause-full : goal.returns-in-Err-clause-full
returns-in-Err-clause-full g c full =
    engine_stops g.E.Durable.device g.E.Durable.contents g.E.Durable.is_faulted (λ (a : Contents). ¬ IsEmptied a) c.args.engine c.vacate_live.new.engine
    (Err c.in-Err.refusal) (g.E.Device.Pmem.state c.into_device.result) (λ fault. cc)
    c.into_device.ensures c.in-Err.ensures.step
    (left_somewhere (g.E.Durable.contents c.vacate_live.new.engine) (c.in-Err.ensures.full (ap Err full)))

pub returns-in-Err-clause-exhausted : goal.returns-in-Err-clause-exhausted
returns-in-Err-clause-exhausted g c exhausted =
    engine_stops g.E.Durable.device g.E.Durable.contents g.E.Durable.is_faulted (λ (a : Contents). ExhaustsRelocation 1 a.current) c.args.engine
    c.vacate_live.new.engine (Err c.in-Err.refusal) (g.E.Device.Pmem.state c.into_device.result)
    (λ fault. cc) c.into_device.ensures c.in-Err.ensures.step
    (c.in-Err.ensures.exhausted (ap Err exhausted))

pub returns-clause-full : goal.returns-clause-full
returns-clause-full g c full =
    let at = (goal.at.returns-clause-full g c).After-deref in
    device_stops g.E.Durable.device g.E.Durable.contents g.E.Durable.is_faulted c.args.engine c.vacate_live.new.engine c.copy_of-current.result
    (g.E.Device.Pmem.state c.move_all_ended.new.device) c.in-Ok.ensures.step.stands
    (c.in-Err-move_all_ended.ensures.full (ap Err full) (g.E.Durable.contents c.vacate_live.new.engine) (held g at) (leaving g at))
