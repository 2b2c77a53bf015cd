use denote.Param.Send.{param_send}
use Rattle.serving.proofs.starting.start_acceptor.Goals as goal

pub is_accepting-requires-send-A : goal.is_accepting-requires-send-A
is_accepting-requires-send-A g c κs within = record { owned = c.acceptor_is_send.ensures.owned; leaving = λ k. (param_send 1 _ c.acceptor_is_send.ensures).leaving k }
