use Rattle.std.proofs.Common.{[], refl}
use Rattle.links.proofs.Says.{IsLeft-refl}
use Rattle.links.proofs.ServedOn.{HasSaidOn-err, HasSaidOn-nothing}
use Rattle.links.proofs.serving_on.serve_on.Goals as goal

-- there was no memory to read into
pub returns-in_err-block-clause-said : goal.returns-in_err-block-clause-said
returns-in_err-block-clause-said g c = HasSaidOn-err _ [] (HasSaidOn-nothing _ _ _ (IsLeft-refl _)) (λ _. refl)
