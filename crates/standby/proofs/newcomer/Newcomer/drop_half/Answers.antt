use Rattle.std.proofs.Common.{true, false, List, Err, refl, sym, ap, subst, subst₂, ◌∙◌}
use Rattle.std.proofs.lemmas.Result.{err_from_is_err_and}
use Rattle.std.specs.Prelude.{None}
use Rattle.kv_types.specs.declared.place.EntryNo.{EntryNo}
use Rattle.kv_types.specs.declared.place.Extent.{Extent}
use Rattle.mv_keyspace.specs.Table.{Table}
use Rattle.placing.specs.Back.{CanGiveAll, GivesAll}
use Rattle.standby.specs.Gathering.{Gathers}
use Rattle.standby.proofs.ClearOutcomes.{Clears-done, Clears-none, Clears-refused, no_half, some_half}
use Rattle.standby.proofs.ClearingLemmas.{failed_now}
use Rattle.standby.proofs.DroppedHalf.{CanGiveAll-dropped, Gathers-none}
use Rattle.standby.proofs.newcomer.Newcomer.drop_half.Goals as goal

pub returns-then-is_none : goal.returns-then-is_none
returns-then-is_none g c =
    Clears-none g.E.Durable.device g.E.Durable.contents g.E.Durable.is_faulted g.E.Durable.staged g.K.Keyspace.table c.args.self.now tt
    (no_half c.args.self.now.half true c.if-is_none.ensures refl) c.requires.durable

pub returns-in_err-freed : goal.returns-in_err-freed
returns-in_err-freed g c =
    let exit = err_from_is_err_and c.from_residual.result c.from_residual.ensures.1 in
    let told = c.in_err-freed.ensures in
    rw (exit.1 ∙ ap Err exit.2)
    (Clears-refused g.E.Durable.device g.E.Durable.contents g.E.Durable.is_faulted g.E.Durable.staged g.K.Keyspace.table c.args.self.now _ c.in_err-freed.field-0.0 told.causes
    (λ memory. told.memory (ap Err memory)) refl refl refl
    (λ fault. record {
      cause = refl;
      faulted = told.fences.stopped (ap Err fault);
      failures = failed_now (g.E.Durable.is_faulted c.args.self.now.engine) (told.fences.fault (ap Err fault)) c.requires.sound;
      contents_are = told.stays;
      asked_moment = told.fences.asked_moment;
    })
    c.requires.durable (told.moments c.requires.sound))

pub give_all-requires : goal.give_all-requires
give_all-requires g c =
    subst₂ (CanGiveAll c.args.self.now.heap) (sym c.deref.ensures.value) (sym c.deref-2.ensures.value)
    (CanGiveAll-dropped (g.E.Durable.contents c.args.self.now.engine) (g.E.Durable.staged c.args.self.now.engine) c.args.self.now.heap c.args.self.now.half (g.K.Keyspace.table c.args.self.now.keyspace)
    c.requires.gathers c.in_ok-freed.freed.entries.items c.in_ok-freed.freed.extents.items c.in_ok-freed.ensures.freed)

pub returns : goal.returns
returns g c =
    let told = c.in_ok-freed.ensures in
    let node = c.args.self.now in
    let entries = c.in_ok-freed.freed.entries.items in
    let extents = c.in_ok-freed.freed.extents.items in
    let given = subst₂ (λ (these : List EntryNo) (those : List Extent). GivesAll node.heap these those c.give_all.new.heap) c.deref.ensures.value c.deref-2.ensures.value c.give_all.ensures in
    let gathers = Gathers-none (g.E.Durable.contents node.engine) (g.E.Durable.staged node.engine) node.heap node.half (g.K.Keyspace.table node.keyspace) c.requires.gathers entries extents told.freed
    (g.E.Durable.contents c.drop_staged.new.self) told.stays (g.E.Durable.staged c.drop_staged.new.self) (g.met.E.Durable.idle c.drop_staged.new.self told.ended) c.give_all.new.heap given in
    Clears-done g.E.Durable.device g.E.Durable.contents g.E.Durable.is_faulted g.E.Durable.staged g.K.Keyspace.table node _ tt
    (record {
      had = some_half node.half false c.if-is_none.ensures refl;
      entries = entries;
      extents = extents;
      dropped = told.freed;
      given = given;
      none = c.empty.ensures.none;
      half = refl;
      awaits = record {
        gathers = subst (λ (rows : Table). Gathers (g.E.Durable.contents c.drop_staged.new.self) (g.E.Durable.staged c.drop_staged.new.self) rows c.give_all.new.heap None) (sym c.empty.ensures.none) gathers;
        sound = told.fences.sound.0;
        durable = told.durable;
      };
      rests = record {
        contents_are = told.stays;
        failures = told.fences.sound.1;
        asked_moment = told.fences.asked_moment;
        moments = told.moments c.requires.sound;
      };
    })
