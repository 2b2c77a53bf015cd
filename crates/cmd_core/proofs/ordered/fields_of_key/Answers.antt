use Rattle.std.proofs.Common.{rules}
use Rattle.cmd_core.proofs.OrderedLemmas.{fields-rise, fields-range}
use Rattle.cmd_core.proofs.ordered.fields_of_key.Goals as goal

pub slice_bounds-result-count : goal.slice_bounds-result-count
slice_bounds-result-count g c = fields-rise g.R.KeptRecord.kept c.args.key.now c.args.records.now _ _ c.start_of_fields-start.ensures c.end_of_key-end.ensures

pub slice_bounds-result-start : goal.slice_bounds-result-start
slice_bounds-result-start g c =
    let rise = fields-rise g.R.KeptRecord.kept c.args.key.now c.args.records.now c.start_of_fields-start.result c.end_of_key-end.result c.start_of_fields-start.ensures c.end_of_key-end.ensures in
    search rules

pub returns : goal.returns
returns g c = fields-range g.R.KeptRecord.kept c.args.key.now c.args.records.now _ _ c.start_of_fields-start.ensures c.end_of_key-end.ensures
