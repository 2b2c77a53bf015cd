use Rattle.std.proofs.Common.{arith}
use Rattle.images.proofs.StatusLemmas.{status-whole}
use Rattle.images.proofs.reading.print_numbers.Goals as goal

pub returns : goal.returns
returns g c =
    status-whole c.args.reading.now c.args.taken c.args.room _ _ _ _ _ _ _ _ _ _ _ _ _ _ _ _ _
    (omega (c.len-count.ensures, c.args.reading.now.versions.counted.ok.0, arith))
    (omega (c.saturating_sub.ensures, c.len-count.ensures, c.args.reading.now.versions.counted.ok.0, c.count_live-live.ensures, arith))
    (omega (c.len.ensures, c.args.reading.now.versions.gapped.ok.0, arith)) c.entries_of_lines.ensures c.len-2.ensures.value
    c.in_ok-print_role.ensures c.in_ok-print_number.ensures c.in_ok-print_number-2.ensures c.in_ok-print_number-3.ensures c.in_ok-print_number-4.ensures
    c.in_ok-print_number-5.ensures c.in_ok-print_number-6.ensures c.in_ok-print_number-7.ensures c.in_ok-print_number-8.ensures c.in_ok-print_number-9.ensures
    c.in_ok-print_number-10.ensures
