use Rattle.std.proofs.Common.{sym, ◌∙◌}
use Rattle.kv_types.specs.declared.record_id.RecordId.TheVariants.{Str}
use Rattle.cmd_core.proofs.OrderedLemmas.{value-at_cut}
use Rattle.cmd_core.proofs.ordered.string_in_order.Goals as goal

pub returns : goal.returns
returns g c =
    let read = rw c.split_at.ensures.back at c.first_string.ensures in
    read ∙ sym (value-at_cut g.R.KeptRecord.kept (Str c.args.key.now) c.args.records.now c.start_of_key.result c.requires.order c.start_of_key.ensures)
