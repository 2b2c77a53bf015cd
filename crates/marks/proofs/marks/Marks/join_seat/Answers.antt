use Rattle.std.proofs.Common.{rules}
use Rattle.marks.proofs.Seats.{joins}
use Rattle.marks.proofs.marks.Marks.join_seat.Goals as goal

pub join_seat-requires : goal.join_seat-requires
join_seat-requires c = (search rules, search rules, search rules, search rules, joins _ _ _ _)
