use Rattle.std.proofs.Common.{◌∙◌}
use Rattle.clients.proofs.SendsLemmas.{sends-on}
use Rattle.clients.proofs.outbox.write_pending.Goals as goal

pub loop-gate-preserved : goal.loop-gate-preserved
loop-gate-preserved g c = record {
  sends = sends-on (g.W.Write.contents c.args.writer.now) (g.W.Write.contents c.loop-gate.writer) (g.W.Write.contents c.write_first.new.writer) c.args.gate.now.pending c.loop-gate.gate.pending c.write_first.new.gate.pending
      c.loop-gate.invariant.sends c.write_first.ensures.sends;
  waiting = c.write_first.ensures.waiting ∙ c.loop-gate.invariant.waiting;
  replies = c.write_first.ensures.replies ∙ c.loop-gate.invariant.replies;
}

pub returns-then-not-branch-clause-sends : goal.returns-then-not-branch-clause-sends
returns-then-not-branch-clause-sends g c =
    sends-on (g.W.Write.contents c.args.writer.now) (g.W.Write.contents c.loop-gate.writer) (g.W.Write.contents c.write_first.new.writer) c.args.gate.now.pending c.loop-gate.gate.pending c.write_first.new.gate.pending
    c.loop-gate.invariant.sends c.write_first.ensures.sends

pub returns-in_err-write_first-clause-sends : goal.returns-in_err-write_first-clause-sends
returns-in_err-write_first-clause-sends g c =
    sends-on (g.W.Write.contents c.args.writer.now) (g.W.Write.contents c.loop-gate.writer) (g.W.Write.contents c.write_first.new.writer) c.args.gate.now.pending c.loop-gate.gate.pending c.write_first.new.gate.pending
    c.loop-gate.invariant.sends c.write_first.ensures.sends
