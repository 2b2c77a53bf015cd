use denote.Param.Send.{param_send}
use Rattle.serving.proofs.starting.start_driver.Goals as goal

pub is_running-requires-send-T : goal.is_running-requires-send-T
is_running-requires-send-T g c κs within = record { owned = c.driver_is_send.ensures.owned; leaving = λ k. (param_send 1 _ c.driver_is_send.ensures).leaving k }
