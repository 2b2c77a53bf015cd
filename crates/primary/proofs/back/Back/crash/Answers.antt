use Rattle.primary.proofs.KeptImages.{crash-recalls}
use Rattle.primary.proofs.back.Back.crash.Goals as goal

pub returns-clause-recalls : goal.returns-clause-recalls
returns-clause-recalls g c = λ s notices past stands keeps.
    let E = g.E.Durable in
    let b = c.args.self.now in
    crash-recalls past (E.device b.committer.engine) (E.contents b.committer.engine) b.work.items b.committer.aside.items s notices _ stands keeps c.crash.ensures.image
