use Rattle.std.proofs.Common.{◌+◌, List, Option, Some, Err, refl, sym, ap, subst, ◌∙◌, arith}
use Rattle.std.proofs.lemmas.Result.{err_from_is_err_and}
use Rattle.kv_types.specs.declared.record_id.RecordId.{RecordId}
use Rattle.model.specs.declared.group.Put.{Put}
use Rattle.model.specs.Group.{with_puts}
use Rattle.wbl_engine.specs.Copying.{AreStageable}
use Rattle.standby.specs.Copies.{last_of, last_told}
use Rattle.standby.specs.Gathering.{Gathers}
use Rattle.standby.proofs.ClearingLemmas.{failed_now}
use Rattle.standby.proofs.CopiesLemmas.{told_changes}
use Rattle.standby.proofs.CopyOutcomes.{Adds-broken, Adds-done, Adds-left, Adds-memory}
use Rattle.standby.proofs.GatheringLemmas.{Gathers-more, stageable}
use Rattle.standby.proofs.newcomer.Newcomer.add_part.Goals as goal

pub place_puts-requires : goal.place_puts-requires
place_puts-requires g c = record {
  versions = g.E.Durable.staged c.args.self.now.engine;
  table_is = c.requires.awaits.gathers.follows.table_is;
  empty = λ i free. (c.requires.awaits.gathers.follows.left.entries i free).2;
}

pub stage-requires : goal.stage-requires
stage-requires g c =
    subst (AreStageable (g.E.Durable.contents c.args.self.now.engine) (g.E.Durable.staged c.args.self.now.engine)) (sym c.deref-2.ensures.value)
    (stageable (g.E.Durable.contents c.args.self.now.engine) (g.E.Durable.staged c.args.self.now.engine) (g.K.Keyspace.table c.args.self.now.keyspace) c.args.self.now.heap c.args.self.now.half
    c.requires.awaits.gathers c.args.part.position c.requires.half c.args.part.puts.items c.requires.rising c.in_ok-puts.puts.items (g.K.Keyspace.table c.place_puts.new.keyspace) c.place_puts.new.heap
    c.in_ok-puts.ensures.ok)

pub returns-in_err-last : goal.returns-in_err-last
returns-in_err-last g c =
    let exit = err_from_is_err_and c.from_residual.result c.from_residual.ensures.1 in
    rw (exit.1 ∙ ap Err exit.2)
    (Adds-memory g.E.Durable.device g.E.Durable.contents g.E.Durable.is_faulted g.E.Durable.staged g.K.Keyspace.table c.args.part c.args.self.now c.args.self.now c.in_err-last.field-0.0
    c.in_err-last.ensures.cause (record { engine = refl; rows = refl; heap = refl; half = refl }) c.requires.awaits.durable)

pub returns-in_err-puts : goal.returns-in_err-puts
returns-in_err-puts g c =
    let exit = err_from_is_err_and c.from_residual-in_err-puts.result c.from_residual-in_err-puts.ensures.1 in
    rw (exit.1 ∙ ap Err exit.2)
    (Adds-left g.E.Durable.device g.E.Durable.contents g.E.Durable.is_faulted g.E.Durable.staged g.K.Keyspace.table c.args.part c.args.self.now _ c.in_err-puts.field-0.0
    c.in_err-puts.ensures.causes (λ full. c.in_err-puts.ensures.full_only (ap Err full))
    (record { engine = refl; rows = c.in_err-puts.ensures.err.1; heap = c.in_err-puts.ensures.err.0; half = refl }) c.requires.awaits.durable)

pub returns-in_err-stage : goal.returns-in_err-stage
returns-in_err-stage g c =
    let exit = err_from_is_err_and c.from_residual-in_err-stage.result c.from_residual-in_err-stage.ensures.1 in
    let told = c.in_err-stage.ensures in
    let fault = told.causes in
    rw (exit.1 ∙ ap Err exit.2)
    (Adds-broken g.E.Durable.device g.E.Durable.contents g.E.Durable.is_faulted g.E.Durable.staged g.K.Keyspace.table c.args.part c.args.self.now _ c.in_err-stage.field-0.0 fault
    (record {
      cause = refl;
      faulted = told.fences.stopped (ap Err fault);
      failures = failed_now (g.E.Durable.is_faulted c.args.self.now.engine) (told.fences.fault (ap Err fault)) c.requires.awaits.sound;
      contents_are = told.stays;
      asked_moment = told.fences.asked_moment;
    })
    (told.moments c.requires.awaits.sound))

pub returns : goal.returns
returns g c =
    let told = c.in_ok-stage.ensures in
    let node = c.args.self.now in
    let last_is = c.in_ok-last.ensures.after ∙ ap (last_told (last_of node.half)) c.deref.ensures.value in
    let gathers = Gathers-more (g.E.Durable.contents node.engine) (g.E.Durable.staged node.engine) (g.K.Keyspace.table node.keyspace) node.heap node.half
    c.requires.awaits.gathers c.args.part.position c.requires.half c.args.part.puts.items c.requires.rising c.in_ok-puts.puts.items (g.K.Keyspace.table c.place_puts.new.keyspace) c.place_puts.new.heap
    c.in_ok-puts.ensures.ok (g.E.Durable.contents c.stage.new.self) told.stays (g.E.Durable.staged c.stage.new.self)
    (λ i. told.staged i ∙ ap (λ (puts : List Put). with_puts c.args.part.position puts (g.E.Durable.staged node.engine) i) c.deref-2.ensures.value)
    (c.args.part.number + 1) (omega arith) in
    let half_is = ap (λ (last : Option RecordId). Some (record { position = c.args.part.position; parts = c.args.part.number + 1; last = last })) last_is in
    Adds-done g.E.Durable.device g.E.Durable.contents g.E.Durable.is_faulted g.E.Durable.staged g.K.Keyspace.table c.args.part node _ tt
    (record {
      map = told_changes c.args.part.position (g.K.Keyspace.table node.keyspace) c.args.part.puts.items c.in_ok-puts.puts.items (g.K.Keyspace.table c.place_puts.new.keyspace) c.in_ok-puts.ensures.ok.these c.in_ok-puts.ensures.ok.after_is;
      half = half_is;
      awaits = record {
        gathers = subst (Gathers (g.E.Durable.contents c.stage.new.self) (g.E.Durable.staged c.stage.new.self) (g.K.Keyspace.table c.place_puts.new.keyspace) c.place_puts.new.heap) (sym half_is) gathers;
        sound = told.fences.sound.0;
        durable = told.durable;
      };
      rests = record {
        contents_are = told.stays;
        failures = told.fences.sound.1;
        asked_moment = told.fences.asked_moment;
        moments = told.moments c.requires.awaits.sound;
      };
    })
