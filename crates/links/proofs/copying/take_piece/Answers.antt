use Rattle.std.proofs.Common.{refl}
use Rattle.links.proofs.GatheredParts.{IsPieceEnd-refused}
use Rattle.links.proofs.copying.take_piece.Goals as goal

pub returns-in-Err-clause-ends : goal.returns-in-Err-clause-ends
returns-in-Err-clause-ends g c = (refl, IsPieceEnd-refused _ _ c.args.decoder.now c.args.piece.now c.in-Err.refusal c.in-Err.ensures.cause)
