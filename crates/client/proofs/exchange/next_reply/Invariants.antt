use Rattle.client.proofs.ExchangeLemmas.{HasRead}
use Rattle.client.proofs.exchange.next_reply.Given as goal

abbrev pub invariant-loop-piece : goal.invariant-loop-piece
invariant-loop-piece g l = HasRead (g.R.Read.remaining l.initial.reader) (g.R.Read.remaining l.reader) l.initial.parser l.parser
