use Rattle.std.proofs.Common.{rules}
use Rattle.marks.proofs.Keeps.{raises_local}
use Rattle.marks.proofs.marks.Marks.raise_local.Goals as goal

pub fetch_max-requires : goal.fetch_max-requires
fetch_max-requires c = (search rules, search rules, raises_local _ _ _ _ _ (search rules))
