use Rattle.wbl_engine.proofs.SyncedContents.{synced_durable}
use Rattle.wbl_engine.proofs.laws.synced_contents_are_durable.Goals as goal

pub returns : goal.returns
returns c = synced_durable
