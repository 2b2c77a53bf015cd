use Rattle.std.proofs.Common.{◌≡◌, sym, subst}
use Rattle.pmem.specs.Crash.{image_of}
use Rattle.pmem.proofs.Staging.{IsImage-settled}
use Rattle.model.specs.Image.{Image}
use Rattle.wbl_migrate.specs.Stage.{IsMovable}
use Rattle.wbl_migrate.proofs.laws.crashed_devices_go_on.Goals as goal

pub returns : goal.returns
returns c d stage lines r s settled movable image is =
    let same : image ≡ image_of d.words = λ i word. IsImage-settled d.words image settled is word i in
    subst (λ (left : Image). IsMovable stage lines r s left) (sym same) movable
