use Rattle.std.proofs.Common.{[]}
use Rattle.primary.proofs.ClosedLemmas.{close-stands}
use Rattle.primary.proofs.KeptLemmas.{close-at, close-keeps}
use Rattle.primary.proofs.primary.close.Goals as goal

pub returns-clause-stands : goal.returns-clause-stands
returns-clause-stands g c = λ over.
    let b = c.args.back.now in
    let closed = c.close_next.ensures in
    close-stands (g.E.Durable.device b.committer.engine) (g.E.Durable.contents b.committer.engine) b.committer.aside.items c.args.front.now.sequencer c.close_next.new.sequencer b.work c.close_next.new.work
    c.close_next.result closed.closed closed.none closed.refused over

pub returns-clause-keeps : goal.returns-clause-keeps
returns-clause-keeps g c = λ past over keeps.
    let b = c.args.back.now in
    let closed = c.close_next.ensures in
    close-keeps (g.E.Durable.contents b.committer.engine).current.floor past (g.E.Durable.contents b.committer.engine) b.work c.close_next.new.work b.committer.aside.items c.args.front.now.sequencer c.close_next.new.sequencer [] over.consistent over.leads keeps
    c.close_next.result closed.closed closed.none closed.refused

pub returns-clause-at : goal.returns-clause-at
returns-clause-at g c =
    let closed = c.close_next.ensures in
    close-at c.args.back.now.work c.close_next.new.work c.args.front.now.sequencer c.close_next.new.sequencer c.close_next.result closed.closed closed.none closed.refused
