use Rattle.images.proofs.PairSteps.{is_formatted}
use Rattle.images.proofs.formatting.new_image.Goals as goal

pub returns-clause-formatted : goal.returns-clause-formatted
returns-clause-formatted g c =
    is_formatted c.in_ok-device.ensures.lines c.in-Ok.ensures.new c.into_device-device.ensures c.in-Ok.ensures.durable c.write_pair.ensures.contents
    c.in_ok-write_pair.ensures.written
