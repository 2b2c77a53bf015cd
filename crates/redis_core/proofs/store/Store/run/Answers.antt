use Rattle.std.proofs.Common.{Err, sym, ap, subst}
use Rattle.redis_core.specs.Serving.{refusal_reply}
use Rattle.redis_core.specs.Stored.{Stored, RunsRequest}
use Rattle.redis_core.proofs.StoreLemmas.{runs-refused}
use Rattle.redis_core.proofs.store.Store.run.Goals as goal

pub returns-in-Err : goal.returns-in-Err
returns-in-Err g c =
    let old = c.args.self.now in
    let words = c.args.request.now in
    let refused = runs-refused old words c.args.running.now c.in-Err.refusal c.try_run.new.running (λ e. c.in-Err.ensures.full_only (ap Err e)) c.in-Err.ensures.running in
    subst (λ reply. RunsRequest old words c.args.running.now reply c.try_run.new.running c.try_run.new.self) (sym c.refusal_reply.ensures)
    (subst (λ (new : Stored). RunsRequest old words c.args.running.now (refusal_reply c.in-Err.refusal) c.try_run.new.running new) (sym c.in-Err.ensures.err) refused)
