use Rattle.std.proofs.Common.{Err, refl, ap, ◌∙◌, arith}
use Rattle.std.proofs.lemmas.Result.{err_from_is_err_and}
use Rattle.kv_types.specs.declared.refusal.Refusal.TheVariants.{Fault}
use Rattle.wbl_migrate.proofs.LeavingLemmas.{left_then, moments_then, none_left, none_moved, none_stored, one_left_then}
use Rattle.wbl_migrate.proofs.StepLemmas.{ok_no_error}
use Rattle.wbl_migrate.proofs.leaving.move_all_ended.Goals as goal

pub loop-index-init : goal.loop-index-init
loop-index-init g c = record {
  so_far = λ contents held leaving. none_moved held leaving;
  failures = refl;
  line_count = refl;
  asked_moment = refl;
  moments = λ contents held leaving. none_stored held;
}

pub move_next_ended-requires-clause-so_far : goal.move_next_ended-requires-clause-so_far
move_next_ended-requires-clause-so_far g c =
    let left = c.loop-index.invariant.so_far c.requires.0 c.requires.1 c.requires.2 in (left.new, left.held, left.leaving)

pub loop-index-preserved : goal.loop-index-preserved
loop-index-preserved g c =
    let told = c.in_ok-move_next_ended.ensures in
    record {
      so_far = λ contents held leaving.
          let left = c.loop-index.invariant.so_far contents held leaving in left_then left (told.moved left.new left.held left.leaving);
      failures = told.sound (ok_no_error tt Fault) ∙ c.loop-index.invariant.failures;
      line_count = told.line_count ∙ c.loop-index.invariant.line_count;
      asked_moment = told.asked_moment ∙ c.loop-index.invariant.asked_moment;
      moments = λ contents held leaving.
          let left = c.loop-index.invariant.so_far contents held leaving in
          moments_then left (c.loop-index.invariant.moments contents held leaving) (told.moments left.new left.held left.leaving);
    }

pub returns-in_err-move_next_ended-clause-full : goal.returns-in_err-move_next_ended-clause-full
returns-in_err-move_next_ended-clause-full g c =
    let exit = err_from_is_err_and c.from_residual.result c.from_residual.ensures.1 in
    rw (exit.1 ∙ ap Err exit.2)
    (λ full contents held leaving.
    let left = c.loop-index.invariant.so_far contents held leaving in
    one_left_then left (c.in_err-move_next_ended.ensures.full full left.new left.held left.leaving))

pub returns-in_err-move_next_ended-clause-moments : goal.returns-in_err-move_next_ended-clause-moments
returns-in_err-move_next_ended-clause-moments g c contents held leaving =
    let left = c.loop-index.invariant.so_far contents held leaving in
    moments_then left (c.loop-index.invariant.moments contents held leaving) (c.move_next_ended.ensures.moments left.new left.held left.leaving)

pub returns-clause-emptied : goal.returns-clause-emptied
returns-clause-emptied g c contents held leaving =
    let off = c.loop-index-test.false in
    let count = c.len-index-end.ensures in
    none_left (c.loop-index.invariant.so_far contents held leaving) (omega (arith, off, count, c.args.versions.now.counted.ok.0))

pub returns-clause-moments : goal.returns-clause-moments
returns-clause-moments g c contents held leaving = c.loop-index.invariant.moments contents held leaving
