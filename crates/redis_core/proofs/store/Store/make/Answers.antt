use Rattle.std.proofs.Common.{◌≡◌, ◌≢◌, ℕ, ◌-◌, ◌==◌, Bool, false, ap, vec_len, length, map, take, drop, sym, subst, subst₂, ◌∙◌, eqb-true}
use Rattle.std.proofs.lemmas.Bool.{true≢false}
use Rattle.kv_types.specs.Keyspace.{Keyspace}
use Rattle.model.specs.Group.{change_of}
use Rattle.mv_keyspace.specs.Table.{records}
use Rattle.redis_core.specs.Marking.{AreCleared}
use Rattle.redis_core.specs.Stored.{Stored, Makes}
use Rattle.redis_core.specs.Copying.{copy_in}
use Rattle.redis_core.proofs.CopiedLemmas.{copy-kept, last-made}
use Rattle.redis_core.proofs.RunningLemmas.{makes-empty, changes_after}
use Rattle.redis_core.proofs.store.Store.make.Goals as goal

some_made : {n m : ℕ} {b : Bool} → n ≡ m → b ≡ (n == 0) → b ≡ false → m ≢ 0
some_made {n} {m} {b} size is none zero = absurd (true≢false (sym (ap (λ k. k == 0) (size ∙ zero)) ∙ sym is ∙ none))

pub returns-then-is_empty-clause-ok : goal.returns-then-is_empty-clause-ok
returns-then-is_empty-clause-ok g c =
    let none = eqb-true (vec_len c.args.changes) 0 (sym c.is_empty.ensures ∙ c.if-is_empty.true) in
    makes-empty c.args.self.now c.args.changes.items c.args.running.now.part (sym c.args.changes.ok.0 ∙ none)

pub returns-clause-ok : goal.returns-clause-ok
returns-clause-ok g c =
    let changes = c.args.changes.items in
    let part = c.args.running.now.part in
    let keyspace = c.self.inside.keyspace in
    let performed = c.perform.new.keyspace in
    let copying = c.self.inside.copying in
    let inside : Stored = record {
      table = g.K.Keyspace.table keyspace;
      room = c.self.inside.heap;
      sessions = c.self.inside.seats;
      copy = copy_in (g.K.Keyspace.table keyspace) (g.K.Keyspace.past keyspace) copying;
      last = g.K.Keyspace.last keyspace;
    } in
    let new : Stored = record {
      table = g.K.Keyspace.table performed;
      room = c.perform.new.heap;
      sessions = c.mark.new.seats;
      copy = copy_in (g.K.Keyspace.table performed) (g.K.Keyspace.past performed) copying;
      last = g.K.Keyspace.last performed;
    } in
    let adds = c.in_ok-perform.ensures.ok in
    let known = subst (λ now. AreCleared (g.K.Lookup.keyspace c.self.inside.keyspace) now inside.sessions c.in_ok-cleared.cleared.items) c.deref.ensures.value c.in_ok-cleared.ensures.held in
    let held = subst (λ (s : Keyspace). AreCleared s changes inside.sessions c.in_ok-cleared.cleared.items) (g.met.K.Keyspace.reads c.self.inside.keyspace) known in
    let cleared = subst (λ keys. AreCleared (records inside.table) changes inside.sessions keys) (sym c.deref-3.ensures.value) held in
    let from = c.len-from.ensures ∙ part.changes.ok.0 in
    let slice = subst₂ (λ n items. map change_of (take (length items - n) (drop n items)) ≡ changes) (sym from) (sym c.deref-2.ensures.value)
    (changes_after part inside.table inside.room changes c.perform.new.part new.table new.room adds) in
    let made : Makes inside changes part c.perform.new.part new = record {
      adds = adds;
      marks = c.mark.ensures (records inside.table) changes slice cleared;
      counted = λ some. c.if-running-ge-COUNTER_LIMIT.false;
      copy = copy-kept copying (g.K.Keyspace.pins keyspace) inside.table new.table (g.K.Keyspace.past keyspace) (g.K.Keyspace.past performed) part.position c.self.invariant.pins_are c.self.invariant.pinned
          c.in_ok-perform.ensures.shown;
      last = last-made changes inside.last part.position new.last (some_made (c.args.changes.ok.0) c.is_empty.ensures c.if-is_empty.false) c.in_ok-perform.ensures.last;
    } in
    subst (λ (s : Stored). Makes s changes part c.perform.new.part new) c.self.view_is made
