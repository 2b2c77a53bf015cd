use Rattle.std.proofs.Common.{refl, inl, inr}
use Rattle.links.specs.Opening.{silent}
use Rattle.links.proofs.FirstPieces.{HearsLink-first, OpensOrAwaits-by, OpensTo-behind}
use Rattle.links.proofs.sender.LinkSender.open.Goals as goal

pub returns-in_default-clause-lost : goal.returns-in_default-clause-lost
returns-in_default-clause-lost g c = silent _

pub returns-in-Err-share-clause-lost : goal.returns-in-Err-share-clause-lost
returns-in-Err-share-clause-lost g c = let told = c.in-Ok-opened.ensures.opened in HearsLink-first _ _ _ _ _ _ _ _ told.3

pub returns-in_default-clause-left : goal.returns-in_default-clause-left
returns-in_default-clause-left g c = inl (refl, refl, (refl, refl))

pub returns-in-Err-clause-left : goal.returns-in-Err-clause-left
returns-in-Err-clause-left g c = inl (c.in-Err.ensures.link, c.in-Err.ensures.kept, (refl, refl))

pub returns-in-Err-share-clause-left : goal.returns-in-Err-share-clause-left
returns-in-Err-share-clause-left g c = let told = c.in-Ok-opened.ensures.opened in inr (OpensOrAwaits-by _ _ _ _ _ _ _ _ told.3)
