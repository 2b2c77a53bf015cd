use Rattle.primary.proofs.KeptLemmas.{recollects-copied}
use Rattle.primary.proofs.front.Front.copy_part.Goals as goal

pub returns-in_err-puts-clause-recollects : goal.returns-in_err-puts-clause-recollects
returns-in_err-puts-clause-recollects g c = recollects-copied c.args.self.now.sequencer _ c.copy_part.new.self c.copy_part.ensures.moves

pub returns-in-Some-2-clause-recollects : goal.returns-in-Some-2-clause-recollects
returns-in-Some-2-clause-recollects g c = recollects-copied c.args.self.now.sequencer _ c.copy_part.new.self c.copy_part.ensures.moves

pub returns-in-None-clause-recollects : goal.returns-in-None-clause-recollects
returns-in-None-clause-recollects g c = recollects-copied c.args.self.now.sequencer _ c.copy_part.new.self c.copy_part.ensures.moves
