use Rattle.pipes.specs.Ring.{taken_at}
use Rattle.clients.proofs.RoundsLemmas.{breaks-at-once}
use Rattle.clients.proofs.reply_side.ReplySide.lose.Goals as goal

pub returns-clause-writes : goal.returns-clause-writes
returns-clause-writes c seen = breaks-at-once seen (taken_at c.args.self.now.replies) c.args.self.now.outbox.gate
