use Rattle.stream_codec.proofs.Waiting.{waits_change}
use Rattle.stream_codec.proofs.missing.missing_of_change.Goals as goal

pub returns-in-Ok : goal.returns-in-Ok
returns-in-Ok c =
    let d = c.in-Ok in
    waits_change c.args.body c.args.left c.args.bytes.now d.kind d.rest.now c.least_size.result c.missing_behind.result c.least_size.ensures d.ensures c.missing_behind.ensures
