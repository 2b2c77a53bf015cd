use Rattle.std.proofs.Common.{◌≡◌, ◌++◌, ◌∙◌, ap₂, sym, subst, arith}
use Rattle.mv_keyspace.specs.Versions.{Versions, kept, past_of, pins_of, shown, IsUpTo}
use Rattle.mv_keyspace.proofs.ShownLemmas.{shown-kept, up_to-changed}
use Rattle.mv_keyspace.proofs.versioned.VersionedKeyspace.apply.Given.{Over}
use Rattle.mv_keyspace.proofs.versioned.VersionedKeyspace.apply.Goals as goal
use Rattle.mv_keyspace.proofs.versioned.VersionedKeyspace.apply.Goals.{After-keep}

past_after : (g : Over) (c : After-keep g) → past_of c.keep.new.self ≡ past_of c.args.self.now.past ++ kept (pins_of c.args.self.now.past) c.args.position c.args.changes.now (g.L.Live.table c.args.self.now.live)
past_after g c = c.keep.ensures.versions ∙ ap₂ (λ (past more : Versions). past ++ more) c.in_ok-reserve.ensures.versions (c.in_ok-noted.ensures.ok c.args.position)

pub invariant_of-self-2 : goal.invariant_of-self-2
invariant_of-self-2 g c =
    let old = c.args.self.now in
    let n = c.keep.new.self.position in
    let reached = c.keep.ensures.rises in
    let reserved = c.in_ok-reserve.ensures.position in
    record {
      passed =
          subst (λ table. IsUpTo n table (past_of c.keep.new.self)) (sym c.in_ok-apply.ensures.table)
          (subst (IsUpTo n _) (sym (past_after g c))
          (up_to-changed old.past.position n c.args.position (pins_of old.past) c.args.changes.now (g.L.Live.table old.live) (past_of old.past) (omega arith) reached.1 old.passed));
    }

pub returns-clause-shown : goal.returns-clause-shown
returns-clause-shown g c = λ pin pinned lt.
    let old = c.args.self.now in
    ap₂ (shown pin) c.in_ok-apply.ensures.table (past_after g c.before)
    ∙ shown-kept (pins_of old.past) pin c.args.position (g.L.Live.table old.live) (past_of old.past) c.args.changes.now pinned lt old.passed.ordered
