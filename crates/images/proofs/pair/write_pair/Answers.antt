use Rattle.std.proofs.Common.{refl, inl}
use Rattle.wbl_migrate.proofs.Touching.{failed_step, staged_step}
use Rattle.images.specs.declared.pair.TheConstants.{PAIR_WORD}
use Rattle.images.proofs.PairSteps.{pair_contents, pair_elsewhere, pair_image, pair_moments}
use Rattle.images.proofs.pair.write_pair.Goals as goal

pub returns-in-Ok-clause-written : goal.returns-in-Ok-clause-written
returns-in-Ok-clause-written g c = c.in-Ok.ensures.ok.certain PAIR_WORD (inl refl)

pub returns-in-Ok-clause-elsewhere : goal.returns-in-Ok-clause-elsewhere
returns-in-Ok-clause-elsewhere g c = pair_elsewhere (staged_step c.in-Ok.ensures.ok)

pub returns-in-Ok-clause-moments : goal.returns-in-Ok-clause-moments
returns-in-Ok-clause-moments g c = pair_moments (staged_step c.in-Ok.ensures.ok)

pub returns-in-Ok-clause-image : goal.returns-in-Ok-clause-image
returns-in-Ok-clause-image g c = pair_image (staged_step c.in-Ok.ensures.ok)

pub returns-in-Ok-clause-contents : goal.returns-in-Ok-clause-contents
returns-in-Ok-clause-contents g c = pair_contents (staged_step c.in-Ok.ensures.ok)

pub returns-in-Err-clause-elsewhere : goal.returns-in-Err-clause-elsewhere
returns-in-Err-clause-elsewhere g c = pair_elsewhere (failed_step c.in-Err.ensures.err)

pub returns-in-Err-clause-moments : goal.returns-in-Err-clause-moments
returns-in-Err-clause-moments g c = pair_moments (failed_step c.in-Err.ensures.err)

pub returns-in-Err-clause-image : goal.returns-in-Err-clause-image
returns-in-Err-clause-image g c = pair_image (failed_step c.in-Err.ensures.err)

pub returns-in-Err-clause-contents : goal.returns-in-Err-clause-contents
returns-in-Err-clause-contents g c = pair_contents (failed_step c.in-Err.ensures.err)
