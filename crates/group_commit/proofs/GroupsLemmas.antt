-- Groups that wait to be committed, as they come and go.
use Rattle.std.proofs.Common.{◌≡◌, arith}
use Rattle.model.specs.Group.{Contents}
use Rattle.wbl_engine.specs.Contents.{Same}

-- contents that say the same of each entry are one
pub Same-is : (old new : Contents) → Same old new → new ≡ old
Same-is old new same = grind arith
