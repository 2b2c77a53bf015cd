use Rattle.std.proofs.Common.{[], Err, ap, ◌∙◌}
use Rattle.serving.proofs.committing.take_step.Goals as goal

-- the front was told of all that was freed before
pub commit-requires-clause-stands : goal.commit-requires-clause-stands
commit-requires-clause-stands g c = (c.requires.stands.0, [], c.requires.stands.1)

pub returns-in-Ok-clause-stands : goal.returns-in-Ok-clause-stands
returns-in-Ok-clause-stands g c = λ s over. c.in-Ok.ensures.told s [] over

pub returns-in-Err-Memory-clause-stands : goal.returns-in-Err-Memory-clause-stands
returns-in-Err-Memory-clause-stands g c = λ s over. c.commit.ensures.again (c.in-Err-Memory.is ∙ ap Err c.in-Err-Memory.field-0-is) s [] over

pub returns-in-Ok-clause-past : goal.returns-in-Ok-clause-past
returns-in-Ok-clause-past g c = record {
  kept = λ s past over kept. c.in-Ok.ensures.keeps s [] past over kept;
  sound = c.in-Ok.ensures.sound;
  leaves = λ sound s past over kept. c.commit.ensures.leaves sound s [] past over kept;
}

pub returns-in-Err-Memory-clause-past : goal.returns-in-Err-Memory-clause-past
returns-in-Err-Memory-clause-past g c =
    let refused = c.in-Err-Memory.is ∙ ap Err c.in-Err-Memory.field-0-is in
    let same = c.commit.ensures.unmoved refused in
    record {
      kept = λ s past over kept. c.commit.ensures.still refused s [] past over kept;
      sound = λ sound. ap g.E.Durable.is_faulted same ∙ sound;
      leaves = λ sound s past over kept. c.commit.ensures.leaves sound s [] past over kept;
    }

pub returns-in-Err-clause-past : goal.returns-in-Err-clause-past
returns-in-Err-clause-past g c = record {
  kept = λ s past over kept. tt;
  sound = λ sound. tt;
  leaves = λ sound s past over kept. c.commit.ensures.leaves sound s [] past over kept;
}
