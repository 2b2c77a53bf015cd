use Rattle.std.proofs.Common.{◌+◌, ◌<◌, [], ◌∷◌, length, refl, sym, subst}
use Rattle.model.specs.declared.group.TheConstants.{MAX_PARTS}
use Rattle.redis_core.specs.Sequencing.{Sequencing}
use Rattle.redis_core.proofs.RunningLemmas.{underway-more}
use Rattle.redis_core.proofs.FinishedLemmas.{ready-finished, runs-finished}
use Rattle.redis_core.proofs.sequencer.Sequencer.run.Goals as goal

pub invariant_of-self : goal.invariant_of-self
invariant_of-self g c =
    let words = c.args.request.now in
    let start = c.self.inside.store in
    let under = underway-more start (c.self.inside.position + 1) (words ∷ []) [] words [] c.begin-running.result start c.run-reply.result c.run-reply.new.running c.run-reply.new.self
    (c.begin-running.ensures (words ∷ [])) c.run-reply.ensures in
    let few = subst (λ (s : Sequencing). length s.waiting < MAX_PARTS) (sym c.self.view_is) c.requires.few in
    rw c.finish.ensures.capacity
    (ready-finished start c.run-reply.new.self c.self.inside.position c.self.inside.waiting.items _ (words ∷ []) (c.run-reply.result ∷ []) [] c.run-reply.new.running _ _ under
    c.finish.ensures.finishes c.self.invariant few)

pub returns-clause-ran : goal.returns-clause-ran
returns-clause-ran g c =
    let words = c.args.request.now in
    let start = c.self.inside.store in
    let under = underway-more start (c.self.inside.position + 1) (words ∷ []) [] words [] c.begin-running.result start c.run-reply.result c.run-reply.new.running c.run-reply.new.self
    (c.begin-running.ensures (words ∷ [])) c.run-reply.ensures in
    rw (← c.self.view_is)
    (runs-finished _ _ c.run-reply.new.self (words ∷ []) (c.run-reply.result ∷ []) c.run-reply.new.running start.last under c.self.invariant.copied c.finish.ensures.finishes
    refl refl refl refl refl refl refl refl)
