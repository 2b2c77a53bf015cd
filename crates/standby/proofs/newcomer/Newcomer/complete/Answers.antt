use Rattle.std.proofs.Common.{Err, refl, sym, ap, subst, ◌∙◌, arith}
use Rattle.std.proofs.lemmas.Result.{err_from_is_err_and}
use Rattle.std.specs.Prelude.{[]}
use Rattle.model.specs.Group.{Contents}
use Rattle.wbl_engine.specs.Copying.{after_copy}
use Rattle.standby.specs.Following.{Follows}
use Rattle.standby.proofs.ClearingLemmas.{failed_now}
use Rattle.standby.proofs.EndOutcomes.{Completes-broken, Completes-done, Follows-at, only_fault}
use Rattle.standby.proofs.EndedLemmas.{Same-is}
use Rattle.standby.proofs.GatheringLemmas.{made_at_half}
use Rattle.standby.proofs.newcomer.Newcomer.complete.Goals as goal

pub commit_staged-requires : goal.commit_staged-requires
commit_staged-requires g c = record {
  newcomer = c.requires.awaits.gathers.newcomer;
  empty = c.requires.awaits.gathers.empty;
  made = λ i version is.
      let same = made_at_half c.args.self.now.half (g.E.Durable.staged c.args.self.now.engine) c.args.position c.requires.awaits.gathers.of_half c.requires.at i version is in
      omega (arith, same);
}

pub returns-in_err-commit_staged : goal.returns-in_err-commit_staged
returns-in_err-commit_staged g c =
    let exit = err_from_is_err_and c.from_residual.result c.from_residual.ensures.1 in
    let told = c.in_err-commit_staged.ensures in
    let fault = only_fault c.in_err-commit_staged.field-0.0 told.causes (λ exhausted. c.requires.counters (told.exhausted (ap Err exhausted)).0) in
    rw (exit.1 ∙ ap Err exit.2)
    (Completes-broken g.E.Durable.device g.E.Durable.contents g.E.Durable.is_faulted g.E.Durable.staged g.K.Keyspace.table c.args.position c.args.self.now _ c.in_err-commit_staged.field-0.0 fault
    (record {
      cause = refl;
      faulted = told.fences.stopped (ap Err fault);
      failures = failed_now (g.E.Durable.is_faulted c.args.self.now.engine) (told.fences.fault (ap Err fault)) c.requires.awaits.sound;
      contents_are = told.stays;
      asked_moment = told.fences.asked_moment;
    })
    (told.moments c.requires.awaits.sound))

pub returns : goal.returns
returns g c =
    let told = c.in_ok-commit_staged.ensures in
    let node = c.args.self.now in
    let contents = g.E.Durable.contents node.engine in
    let staged = g.E.Durable.staged node.engine in
    let new = g.E.Durable.contents c.commit_staged.new.self in
    let rows = g.K.Keyspace.table node.keyspace in
    Completes-done g.E.Durable.device g.E.Durable.contents g.E.Durable.is_faulted g.E.Durable.staged g.K.Keyspace.table c.args.position node _ tt
    (record {
      contents_are = told.moved;
      rows = refl;
      half = refl;
      has = record {
        follows = subst (λ (k : Contents). Follows k rows node.heap []) (sym (Same-is (after_copy contents staged c.args.position) new told.moved))
            (Follows-at contents staged c.args.position rows node.heap c.requires.awaits.gathers.follows);
        sound = told.fences.sound.0;
        durable = told.durable;
      };
      failures = told.fences.sound.1;
      asked_moment = told.fences.asked_moment;
    })
    (told.moments c.requires.awaits.sound)
