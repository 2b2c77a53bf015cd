use Rattle.std.proofs.Common.{◌+◌, ◌<◌, [], length, refl, ap, sym, subst}
use Rattle.kv_types.specs.declared.reply.Reply.{Array}
use Rattle.model.specs.declared.group.TheConstants.{MAX_PARTS}
use Rattle.redis_core.specs.Sequencing.{Sequencing}
use Rattle.redis_core.proofs.FinishedLemmas.{ready-finished, runs-finished}
use Rattle.redis_core.proofs.sequencer.Sequencer.run_all.Goals as goal

pub invariant_of-self : goal.invariant_of-self
invariant_of-self g c =
    let requests = c.args.requests.now in
    let start = c.self.inside.store in
    let under = c.run_all-replies.ensures (c.self.inside.position + 1) (c.begin-running.ensures requests) in
    let few = subst (λ (s : Sequencing). length s.waiting < MAX_PARTS) (sym c.self.view_is) c.requires.few in
    rw c.finish.ensures.capacity
    (ready-finished start c.run_all-replies.new.self c.self.inside.position c.self.inside.waiting.items _ requests c.run_all-replies.result.items [] c.run_all-replies.new.running _ _ under
    c.finish.ensures.finishes c.self.invariant few)

pub returns : goal.returns
returns g c =
    let requests = c.args.requests.now in
    let replies = c.run_all-replies.result.items in
    let start = c.self.inside.store in
    let under = c.run_all-replies.ensures (c.self.inside.position + 1) (c.begin-running.ensures requests) in (
      replies,
      ap Array c.from_vec.ensures,
      rw (← c.self.view_is)
          (runs-finished _ _ c.run_all-replies.new.self requests replies c.run_all-replies.new.running start.last under c.self.invariant.copied c.finish.ensures.finishes
          refl refl refl refl refl refl refl refl),
    )
