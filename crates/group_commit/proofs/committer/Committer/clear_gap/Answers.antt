use Rattle.std.proofs.Common.{refl}
use Rattle.group_commit.proofs.committer.Committer.clear_gap.Goals as goal

pub returns-clause-clears : goal.returns-clause-clears
returns-clause-clears g c =
    let engine = c.in_ok-cleared.ensures in
    record {
      some = c.requires.some;
      answer = (c.in_ok-cleared.cleared, refl, engine.extents, engine.clears c.requires.some);
      durable = engine.durable;
      sound = engine.fences.sound;
      causes = tt;
      memory = λ of. cc;
      exhausted = λ of. cc;
      exhausts = λ sound reached. let told = engine.exhausts sound c.requires.some reached in cc;
      fault = λ of. cc;
      stopped = λ of. cc;
      lines = (engine.clears c.requires.some).lines_are;
      aside = c.requires.alone;
      stage = c.requires.ready;
      local = refl;
      moments = engine.moments;
    }
