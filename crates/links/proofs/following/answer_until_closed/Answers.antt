use Rattle.links.proofs.ServedOn.{HasSaid-on, Served-on}
use Rattle.links.proofs.Serving.{OnErr-into, OnOk-into}
use Rattle.links.proofs.following.answer_until_closed.Goals as goal

pub returns-clause-served : goal.returns-clause-served
returns-clause-served g c =
    OnOk-into c.answer_from.result (λ served. (served.0, Served-on _ _ _ _ _ served.0 c.new-decoder.ensures served.1)) c.answer_from.ensures.served

pub returns-clause-said : goal.returns-clause-said
returns-clause-said g c =
    OnErr-into c.answer_from.result (λ said. (said.0, HasSaid-on _ _ _ _ _ said.0 c.new-decoder.ensures said.1, said.2)) c.answer_from.ensures.said
