use Rattle.std.proofs.Common.{ℕ, List, ap, subst}
use Rattle.multi_watch.specs.Admission.{act_now}
use Rattle.redis_core.specs.Serving.{Runs}
use Rattle.redis_core.proofs.AnswersLemmas.{acts-answer, acts-run_all}
use Rattle.redis_core.proofs.sequencer.Sequencer.act.Goals as goal

pub returns-in-Answer-clause-acts : goal.returns-in-Answer-clause-acts
returns-in-Answer-clause-acts g c = rw (ap act_now c.in-Answer.is) (acts-answer c.args.self.now c.in-Answer.reply)

pub returns-in-RunAll-clause-acts : goal.returns-in-RunAll-clause-acts
returns-in-RunAll-clause-acts g c =
    let ran = c.run_all.ensures in
    let runs = subst (λ (now : List (List (List ℕ))). Runs c.args.self.now now ran.0 c.run_all.new.self) c.deref.ensures.value ran.2 in
    rw (ap act_now c.in-RunAll.is) (acts-run_all c.args.self.now c.in-RunAll.requests.items ran.0 c.run_all.result c.run_all.new.self ran.1 runs)
