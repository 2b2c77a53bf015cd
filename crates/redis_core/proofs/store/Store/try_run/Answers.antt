use Rattle.std.proofs.Common.{◌≡◌, ◌+◌, ◌≤◌, true, false, subst}
use Rattle.kv_types.specs.Change.{changes_size}
use Rattle.model.specs.Command.{outcome_of, Gives}
use Rattle.mv_keyspace.specs.Table.{records}
use Rattle.redis_core.specs.Stored.{Stored}
use Rattle.redis_core.proofs.RunningLemmas.{same-running}
use Rattle.redis_core.proofs.StoreLemmas.{runs-too_large, runs-own}
use Rattle.redis_core.proofs.store.Store.try_run.Goals as goal

never : false ≡ true → ⊥
never e = cc

pub returns-in_default-clause-ok : goal.returns-in_default-clause-ok
returns-in_default-clause-ok g c =
    let words = c.args.request.now in
    let meant = subst (λ keyspace. Gives c.in_ok-reply.field-0 (outcome_of keyspace words)) (g.met.K.Keyspace.reads c.self.inside.keyspace) c.in_ok-reply.ensures in
    let outcome = subst (λ (s : Stored). Gives c.in_ok-reply.field-0 (outcome_of (records s.table) words)) c.self.view_is meant in
    let changes = c.in_ok-reply.field-0.changes.items in
    let large = subst (λ now. ¬ (changes_size now ≤ c.args.running.now.left)) c.deref.ensures.value (λ le. never (c.in_default.ensures.fits.1 le)) in
    runs-too_large c.args.self.now words c.args.running.now changes c.error.result c.args.running.now outcome.changes large c.error.ensures (same-running c.args.running.now)

pub returns-clause-ok : goal.returns-clause-ok
returns-clause-ok g c =
    let words = c.args.request.now in
    let meant = subst (λ keyspace. Gives c.in_ok-reply.field-0 (outcome_of keyspace words)) (g.met.K.Keyspace.reads c.self.inside.keyspace) c.in_ok-reply.ensures in
    let outcome = subst (λ (s : Stored). Gives c.in_ok-reply.field-0 (outcome_of (records s.table) words)) c.self.view_is meant in
    let left = subst (λ now. c.in-Some.left + changes_size now ≡ c.args.running.now.left) c.deref.ensures.value c.in-Some.ensures.left in
    runs-own c.args.self.now words c.args.running.now c.in_ok-reply.field-0.changes.items c.in_ok-reply.field-0.reply (record { part = c.make.new.running.part; left = c.in-Some.left }) c.make.new.self
    outcome.reply outcome.changes left c.in_ok-make.ensures.ok
