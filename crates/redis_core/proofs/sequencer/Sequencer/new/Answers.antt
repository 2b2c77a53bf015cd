use Rattle.std.proofs.Common.{[], None, replicate, sym, subst}
use Rattle.pipes.specs.declared.limits.TheConstants.{MAX_SEATS}
use Rattle.redis_core.specs.Sequencing.{Expects, Sequencing}
use Rattle.redis_core.proofs.ExpectingLemmas.{Expects-starts}
use Rattle.redis_core.proofs.sequencer.Sequencer.new.Goals as goal

pub returns-clause-ok : goal.returns-clause-ok
returns-clause-ok g c = rw (c.in_ok-waiting.ensures.items, c.new-2.ensures, c.in_ok-seats.ensures.closed)

pub returns-clause-expects : goal.returns-clause-expects
returns-clause-expects g c = λ contents out.
    subst (λ (s : Sequencing). Expects s contents [] []) (sym (returns-clause-ok g c)) (Expects-starts (g.K.Keyspace.table c.args.keyspace) c.args.room.heap c.args.room.ended.items c.args.position c.args.epoch (replicate MAX_SEATS None) contents out)
