use Rattle.wbl_engine.proofs.SyncedContents.{durable_from}
use Rattle.wbl_engine.proofs.laws.durable_contents_are_left.Goals as goal

pub returns : goal.returns
returns g c =
    let engine = c.args.engine.now in
    durable_from (g.E.Durable.device_floor engine) (g.E.Durable.device engine) (g.E.Durable.contents engine) (g.met.E.Durable.synced engine c.requires.sound)
    c.requires.durable
