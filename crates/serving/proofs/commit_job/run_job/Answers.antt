use Rattle.std.proofs.Common.{refl}
use Rattle.serving.proofs.StepsLemmas.{shown-after, stands-after}
use Rattle.serving.proofs.commit_job.run_job.Goals as goal

pub returns : goal.returns
returns g c =
    let E = g.E.Durable in
    let came = c.take_steps-came in (
      stands-after E.device E.contents c.args.job.back came.new.back came.result came.ensures.stands,
      shown-after E.device E.contents came.new.back came.new.marks came.result came.ensures.shown,
      refl,
      came.ensures.steps,
      came.ensures.past,
    )
