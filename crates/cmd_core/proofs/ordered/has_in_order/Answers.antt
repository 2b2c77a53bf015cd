use Rattle.std.proofs.Common.{sym, ◌∙◌}
use Rattle.cmd_core.proofs.OrderedLemmas.{has-at_cut}
use Rattle.cmd_core.proofs.ordered.has_in_order.Goals as goal

pub returns : goal.returns
returns g c =
    let read = rw c.split_at.ensures.back at c.begins_with_key.ensures in
    read ∙ sym (has-at_cut g.R.KeptRecord.kept c.args.key.now c.args.records.now c.start_of_key.result c.requires.order c.start_of_key.ensures)
