use Rattle.std.proofs.Common.{refl}
use Rattle.clients.proofs.RequestLemmas.{reads-same}
use Rattle.clients.proofs.request_side.RequestSide.read.Goals as goal

pub returns-then-not-is_held-clause-reads : goal.returns-then-not-is_held-clause-reads
returns-then-not-is_held-clause-reads g c = reads-same c.args.self.now c.args.self.now refl refl
