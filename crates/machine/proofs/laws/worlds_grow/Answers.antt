use Rattle.std.proofs.Common.{take}
use Rattle.machine.specs.Event.{start_with, last_world}
use Rattle.machine.proofs.RunLemmas.{run-take, sound-run}
use Rattle.machine.proofs.GrowLemmas.{grows-run, keyspace-stays}
use Rattle.machine.proofs.laws.worlds_grow.Goals as goal

pub returns-clause-grows : goal.returns-clause-grows
returns-clause-grows c = grows-run

pub returns-clause-cuts : goal.returns-clause-cuts
returns-clause-cuts c = λ allowed n events done worlds run p low.
    let old = last_world (start_with allowed) (take n worlds) in
    keyspace-stays old (last_world (start_with allowed) worlds) p (sound-run allowed (take n events) (take n done) (take n worlds) (run-take n (start_with allowed) events done worlds run)) (grows-run allowed n events done worlds run) low
