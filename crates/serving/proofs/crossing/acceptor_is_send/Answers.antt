use denote.Param.Send.{sendable}
use denote.Param.SendFields.{declared_send}
use Rattle.std.proofs.Crossing.{Arc-send, Vec-send}
use Rattle.serving.specs.contracts.accepting.Acceptor as acceptor
use Rattle.serving.proofs.crossing.acceptor_is_send.Goals as goal

pub returns : goal.returns
returns c =
    declared_send acceptor.the_type (
      Vec-send _ c.entrance_is_send.ensures,
      (search sendable, (Arc-send _ c.ready_is_send.ensures c.ready_is_sync.ensures, (Arc-send _ c.flag_is_send.ensures c.flag_is_sync.ensures, (c.waker_is_send.ensures, tt)))),
    )
