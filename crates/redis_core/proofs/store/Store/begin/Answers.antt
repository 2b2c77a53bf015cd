use Rattle.std.proofs.Common.{refl}
use Rattle.redis_core.proofs.RunningLemmas.{underway-begin}
use Rattle.redis_core.proofs.store.Store.begin.Goals as goal

pub returns : goal.returns
returns g c = λ requests.
    underway-begin c.args.self.now c.args.position requests (record { part = c.empty_part.result; left = 16777216 }) c.requires
    c.empty_part.ensures.position c.empty_part.ensures.changes c.empty_part.ensures.ended refl
