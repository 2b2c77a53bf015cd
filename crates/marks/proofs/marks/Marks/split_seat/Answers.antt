use Rattle.std.proofs.Common.{rules}
use Rattle.marks.proofs.Seats.{splits}
use Rattle.marks.proofs.marks.Marks.split_seat.Goals as goal

pub split_seat-requires : goal.split_seat-requires
split_seat-requires g c = (search rules, search rules, splits _ _ _ _)
