use Rattle.images.proofs.PrintedLemmas.{tells-promotion}
use Rattle.images.proofs.promoting.promote_image.Goals as goal

pub returns-in-Ok-writeln : goal.returns-in-Ok-writeln
returns-in-Ok-writeln g c =
    record {
      told =
          tells-promotion c.in_ok-standby.ensures.reopens c.in-Ok.ensures.moved c.into_device.ensures c.in-Ok.ensures.durable c.epoch-epoch.ensures
          c.in-Ok-writeln.ensures.bytes;
    }
