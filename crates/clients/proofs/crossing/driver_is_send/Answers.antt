use denote.RattleType.{RattleType}
use denote.Param.Send.{IsSend, sendable}
use denote.Param.SendFields.{declared_send}
use Rattle.std.proofs.Crossing.{crosses, Arc-send, Vec-send}
use Rattle.std.specs.contracts.option.Option as option
use Rattle.clients.specs.contracts.driver.Driver as driver
use Rattle.clients.specs.contracts.driven_connections.DrivenConnections as connections
use Rattle.clients.proofs.crossing.driver_is_send.Goals as goal

option_send : (R : RattleType) → IsSend R → IsSend (option.the_row R)
option_send R s = search sendable depth 20

pub returns : goal.returns
returns c =
    declared_send driver.the_type (
      declared_send connections.the_type (
        search (crosses, sendable) depth 20,
        (
          search (crosses, sendable) depth 20,
          (
            c.entrance_is_send.ensures,
            (
              Vec-send _ (option_send _ c.connection_is_send.ensures),
              (search sendable, (search sendable depth 20, (search sendable depth 20, (Arc-send _ c.shown_is_send.ensures c.shown_is_sync.ensures, (search sendable depth 20, tt))))),
            ),
          ),
        ),
      ),
      (c.marks_are_send.ensures, tt),
    )
