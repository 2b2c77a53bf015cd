use Rattle.journal.proofs.FileLemmas.{opens-old-or-new}
use Rattle.journal.proofs.laws.an_opening_has_the_old_generation_or_the_new_one.Goals as goal

pub returns : goal.returns
returns c = opens-old-or-new
