use Rattle.std.proofs.Common.{rules}
use Rattle.marks.proofs.Keeps.{finds_heard}
use Rattle.marks.proofs.marks.Marks.has_heard.Goals as goal

pub load-found-requires : goal.load-found-requires
load-found-requires c = (search rules, search rules, finds_heard _ _ _ _)
