use Rattle.stream_codec.proofs.Waiting.{waits_put_string, waits_put_field, waits_drop_field}
use Rattle.stream_codec.proofs.missing.missing_behind.Goals as goal

pub returns-in-PutString-Ok : goal.returns-in-PutString-Ok
returns-in-PutString-Ok c =
    let d = c.in-PutString-Ok in
    waits_put_string c.args.body c.args.kind c.args.spare c.args.bytes.now d.key.now d.rest.now c.missing_of_value.result d.is-0 d.ensures c.missing_of_value.ensures

pub returns-in-PutField-Ok : goal.returns-in-PutField-Ok
returns-in-PutField-Ok c =
    let d = c.in-PutField-Ok in
    waits_put_field c.args.body c.args.kind c.args.spare c.args.bytes.now d.key.now d.rest.now c.missing_of_field_and_value.result d.is-0 d.ensures c.missing_of_field_and_value.ensures

pub returns-in-DropField-Ok : goal.returns-in-DropField-Ok
returns-in-DropField-Ok c =
    let d = c.in-DropField-Ok in
    waits_drop_field c.args.body c.args.kind c.args.spare c.args.bytes.now d.key.now d.rest.now c.missing_of_name.result d.is-0 d.ensures c.missing_of_name.ensures
