use Rattle.wbl_migrate.proofs.Migratable.{migratable_map}
use Rattle.wbl_migrate.proofs.migrating.migratable_images_keep_their_map.Goals as goal

pub returns : goal.returns
returns c lines r s image stays = migratable_map lines r s image stays
