use Rattle.std.proofs.Common.{sym, ◌∙◌}
use Rattle.wbl_engine.proofs.Readable.{unchanged_stays}
use Rattle.wbl_engine.proofs.RoomLemmas.{full_some}
use Rattle.wbl_engine.proofs.reopening.make_room.Goals as goal

pub returns-then-not-is_full-clause-moments : goal.returns-then-not-is_full-clause-moments
returns-then-not-is_full-clause-moments g c = unchanged_stays c.requires.readable

pub clear_oldest-requires-clause-some : goal.clear_oldest-requires-clause-some
clear_oldest-requires-clause-some g c = full_some c.args.current (sym c.is_full.ensures ∙ c.if-not-is_full.false)
