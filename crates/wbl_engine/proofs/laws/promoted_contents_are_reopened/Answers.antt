use Rattle.wbl_engine.proofs.PromotingLemmas.{promoted_refusal}
use Rattle.wbl_engine.proofs.laws.promoted_contents_are_reopened.Goals as goal

pub returns : goal.returns
returns c = promoted_refusal
