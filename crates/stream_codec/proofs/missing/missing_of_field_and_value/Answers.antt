use Rattle.stream_codec.proofs.Waiting.{waits_field_and_value}
use Rattle.stream_codec.proofs.missing.missing_of_field_and_value.Goals as goal

pub returns-in-Ok : goal.returns-in-Ok
returns-in-Ok c =
    let d = c.in-Ok in
    waits_field_and_value c.args.body c.args.spare c.args.bytes.now d.field.now d.rest.now c.missing_of_value.result d.ensures c.missing_of_value.ensures
