use Rattle.images.proofs.PairLemmas.{contents_same, counted_same, earned_same, gapped_same, image_same, live_same, migratable_same, not_opened_same, opened_same, record_same, refused_same, superblock_same, undamaged_same, version_at_same, version_same}
use Rattle.images.proofs.pair.images_are_read_without_their_number.Goals as goal

pub returns-clause-superblock : goal.returns-clause-superblock
returns-clause-superblock c layout lines base image same = superblock_same base image same layout lines

pub returns-clause-earned : goal.returns-clause-earned
returns-clause-earned c layout lines base image same = earned_same base image same layout lines

pub returns-clause-version : goal.returns-clause-version
returns-clause-version c = version_same

pub returns-clause-current : goal.returns-clause-current
returns-clause-current c lines r base image same = record_same base image same lines r

pub returns-clause-undamaged : goal.returns-clause-undamaged
returns-clause-undamaged c lines r base image same = undamaged_same base image same lines r

pub returns-clause-versions : goal.returns-clause-versions
returns-clause-versions c lines r base image same = version_at_same base image same lines r

pub returns-clause-map : goal.returns-clause-map
returns-clause-map c layout lines r s base image same = image_same base image same layout lines r s

pub returns-clause-migratable : goal.returns-clause-migratable
returns-clause-migratable c lines r s base image same = migratable_same base image same lines r s

pub returns-clause-contents : goal.returns-clause-contents
returns-clause-contents c contents base image same = contents_same base image same contents

pub returns-clause-counted : goal.returns-clause-counted
returns-clause-counted c lines r base image same whole = counted_same base image same lines r _ whole.versions.entries

pub returns-clause-gapped : goal.returns-clause-gapped
returns-clause-gapped c r count base image same = gapped_same base image same r count

pub returns-clause-live : goal.returns-clause-live
returns-clause-live c r count base image same = live_same base image same r count

pub returns-clause-refused : goal.returns-clause-refused
returns-clause-refused c = refused_same

pub returns-clause-not_opened : goal.returns-clause-not_opened
returns-clause-not_opened c = not_opened_same

pub returns-clause-opened : goal.returns-clause-opened
returns-clause-opened c lines role contents base image same = opened_same base image same lines role contents
