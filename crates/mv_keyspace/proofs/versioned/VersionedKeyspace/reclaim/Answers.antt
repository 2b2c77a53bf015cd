use Rattle.std.proofs.Common.{◌∙◌, ap, sym, subst}
use Rattle.mv_keyspace.specs.Versions.{past_of, pins_of, shown, IsUpTo}
use Rattle.mv_keyspace.proofs.ShownLemmas.{shown-reclaimed, up_to-reclaimed}
use Rattle.mv_keyspace.proofs.versioned.VersionedKeyspace.reclaim.Goals as goal

pub invariant_of-self : goal.invariant_of-self
invariant_of-self g c =
    let old = c.args.self.now in
    let table = g.L.Live.table old.live in
    let done = c.reclaim.ensures in
    record {
      passed =
          subst (λ n. IsUpTo n table (past_of c.reclaim.new.self)) (sym done.position)
          (subst (IsUpTo old.past.position table) (sym done.versions) (up_to-reclaimed old.past.position c.args.horizon (pins_of old.past) table (past_of old.past) old.passed));
    }

pub returns-clause-shown : goal.returns-clause-shown
returns-clause-shown g c = λ pin pinned.
    let old = c.args.self.now in
    let table = g.L.Live.table old.live in
    ap (shown pin table) c.reclaim.ensures.versions ∙ shown-reclaimed pin c.args.horizon (pins_of old.past) table (past_of old.past) pinned
