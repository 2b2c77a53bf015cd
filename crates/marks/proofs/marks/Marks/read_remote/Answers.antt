use Rattle.std.proofs.Common.{rules}
use Rattle.marks.proofs.Keeps.{finds_remote}
use Rattle.marks.proofs.marks.Marks.read_remote.Goals as goal

pub load-requires : goal.load-requires
load-requires c = (search rules, search rules, finds_remote _ _ _ _)
