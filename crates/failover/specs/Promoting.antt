-- What a crash inside a promotion leaves.
use Rattle.std.specs.Prelude.{◌⊎◌}
use Rattle.model.specs.Group.{Contents}
use Rattle.model.specs.Image.{Image}
use Rattle.wbl_engine.specs.Contents.{Keeps}
use Rattle.wbl_engine.specs.Promoting.{promoted}

-- the image holds what the standby held, or that under a primary's record of the next epoch
abbrev pub IsBeforeOrPromoted : Contents → Image → Type 0
IsBeforeOrPromoted contents image = Keeps contents image ⊎ Keeps (promoted contents) image
