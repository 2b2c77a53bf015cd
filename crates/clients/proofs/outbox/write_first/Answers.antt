use Rattle.clients.proofs.SendsLemmas.{sends-front}
use Rattle.clients.proofs.outbox.write_first.Goals as goal

pub returns-in-Ok-clause-sends : goal.returns-in-Ok-clause-sends
returns-in-Ok-clause-sends g c =
    sends-front (g.W.Write.contents c.args.writer.now) (g.W.Write.contents c.write_some.new.writer) c.args.gate.now.pending c.sent.new.self.pending c.pending.result.now c.pending.ensures.first.0 c.in-Ok.count
    c.pending.ensures.first.1 c.in-Ok.ensures.ok.0 c.in-Ok.ensures.ok.1 c.sent.ensures.pending
