use denote.RattleType.{RattleType}
use denote.Param.Send.{IsSend, IsSync}
use denote.Param.SendFields.{declared_send}
use Rattle.std.proofs.Crossing.{crosses, Arc-send, Deque-send}
use Rattle.std.specs.contracts.sync.Mutex as mutex
use Rattle.clients.specs.contracts.intake.DriverEntrance as entrance
use Rattle.clients.specs.contracts.intake.Intake as intake
use Rattle.clients.proofs.crossing.entrance_is_send.Goals as goal

mutex_send : (R : RattleType) → IsSend R → IsSend (mutex.the_row R)
mutex_send R s = search crosses

mutex_sync : (R : RattleType) → IsSend R → IsSync (mutex.the_row R)
mutex_sync R s = search crosses

pub returns : goal.returns
returns c =
    let inside = declared_send intake.the_type (c.lobby_is_send.ensures, (Deque-send _ c.connection_is_send.ensures, tt)) in
    declared_send entrance.the_type (Arc-send _ (mutex_send _ inside) (mutex_sync _ inside), (Arc-send _ c.calls_are_send.ensures c.calls_are_sync.ensures, (Arc-send _ c.idle_is_send.ensures c.idle_is_sync.ensures, (Arc-send _ (mutex_send _ c.room_is_send.ensures) (mutex_sync _ c.room_is_send.ensures), tt))))
