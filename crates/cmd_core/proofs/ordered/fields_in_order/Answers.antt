use Rattle.cmd_core.proofs.OrderedLemmas.{fields-filter}
use Rattle.cmd_core.proofs.ordered.fields_in_order.Goals as goal

pub returns : goal.returns
returns g c = rw (← fields-filter g.R.KeptRecord.kept c.args.key.now c.args.records.now, ← c.fields_of_key.ensures) c.fields_in.ensures
