use Rattle.images.proofs.PrintedLemmas.{image-whole}
use Rattle.images.proofs.inspecting.print.Goals as goal

pub returns : goal.returns
returns g c =
    image-whole c.args.current.now c.args.pair c.args.live c.len.result c.version.result c.deref.result.now _ _ _ _ _ _ _ _ _ _ _ _ _ c.version.ensures c.len.ensures.value c.deref.ensures.0
    c.in_ok-print_number.ensures c.in_ok-print_number-2.ensures c.in_ok-print_number-3.ensures c.in_ok-print_number-4.ensures c.in_ok-print_number-5.ensures
    c.in_ok-print_number-6.ensures c.in_ok-print_role.ensures c.in_ok-print_number-7.ensures c.in_ok-print_number-8.ensures c.in_ok-print_number-9.ensures c.in_ok-print_gaps.ensures
    c.in_ok-print_number-10.ensures
