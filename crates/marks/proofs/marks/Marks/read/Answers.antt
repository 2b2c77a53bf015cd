use Rattle.std.proofs.Common.{rules}
use Rattle.marks.proofs.Keeps.{finds_local, finds_remote}
use Rattle.marks.proofs.marks.Marks.read.Goals as goal

pub load-local-requires : goal.load-local-requires
load-local-requires c = (search rules, search rules, finds_local _ _ _ _)

pub load-remote-requires : goal.load-remote-requires
load-remote-requires c = (search rules, search rules, finds_remote _ _ _ _)
