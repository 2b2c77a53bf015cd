use Rattle.std.proofs.Common.{rules}
use Rattle.marks.proofs.Keeps.{raises_remote}
use Rattle.marks.proofs.marks.Marks.raise_remote.Goals as goal

pub fetch_max-requires : goal.fetch_max-requires
fetch_max-requires c = (search rules, search rules, raises_remote _ _ _ _ _ (search rules))
