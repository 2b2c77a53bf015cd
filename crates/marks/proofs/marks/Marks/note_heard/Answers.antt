use Rattle.std.proofs.Common.{rules}
use Rattle.marks.proofs.Keeps.{hears}
use Rattle.marks.proofs.marks.Marks.note_heard.Goals as goal

pub store-requires : goal.store-requires
store-requires c = (search rules, search rules, hears _ _ _ _)
