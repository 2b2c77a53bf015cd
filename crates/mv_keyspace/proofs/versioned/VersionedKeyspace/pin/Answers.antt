use Rattle.std.proofs.Common.{◌∙◌, ap}
use Rattle.mv_keyspace.specs.Versions.{past_of, shown}
use Rattle.mv_keyspace.proofs.ShownLemmas.{shown-last}
use Rattle.mv_keyspace.proofs.versioned.VersionedKeyspace.pin.Goals as goal

pub returns-clause-shown : goal.returns-clause-shown
returns-clause-shown g c =
    let old = c.args.self.now in
    let table = g.L.Live.table old.live in
    let pinned = c.in_ok-pin.ensures in
    ap (λ position. shown position table (past_of c.pin.new.self)) pinned.pin
    ∙ ap (shown old.past.position table) pinned.versions
    ∙ shown-last old.past.position table (past_of old.past) old.passed
