use Rattle.std.proofs.Common.{◌≡◌, ◌+◌, ℕ, suc, List, ◌∷◌, drop, sym, ap, subst, ◌∙◌, arith, drop-cons}
use Rattle.std.proofs.lemmas.List.{drop_all}
use Rattle.kv_types.specs.declared.reply.Reply.{Reply}
use Rattle.redis_core.specs.Stored.{AreUnderWay}
use Rattle.redis_core.proofs.RunningLemmas.{underway-more}
use Rattle.redis_core.proofs.store.Store.run_all.Goals as goal

pub loop-request-preserved : goal.loop-request-preserved
loop-request-preserved g c = record {
  under = λ position start.
      let requests = c.args.requests.now in
      let i = c.loop-request.request-index in
      let words = c.request-item.result in
      let e : suc i ≡ i + 1 = omega arith in
      let next : drop i requests ≡ words ∷ drop (i + 1) requests =
      drop-cons requests i words c.loop-request-test.true ∙ ap (λ w. w ∷ drop (suc i) requests) (sym c.request-item.is) ∙ ap (λ n. words ∷ drop n requests) e in
      let now = subst (λ (rest : List (List (List ℕ))). AreUnderWay c.args.self.now position requests c.loop-request.replies.items rest c.loop-request.running c.loop-request.self) next
      (c.loop-request.invariant.under position start) in
      subst (λ (replies : List Reply). AreUnderWay c.args.self.now position requests replies (drop (i + 1) requests) c.run.new.running c.run.new.self) (sym c.push_reserved.ensures.items)
      (underway-more c.args.self.now position requests c.loop-request.replies.items words (drop (i + 1) requests) c.loop-request.running c.loop-request.self c.run.result c.run.new.running c.run.new.self now c.run.ensures);
  counted = omega (arith, c.push_reserved.ensures.len, c.loop-request.invariant.counted);
  room = omega (arith, c.push_reserved.ensures.capacity, c.loop-request.invariant.room);
}

pub returns : goal.returns
returns g c = λ position start.
    let requests = c.args.requests.now in
    subst (λ (rest : List (List (List ℕ))). AreUnderWay c.args.self.now position requests c.loop-request.replies.items rest c.loop-request.running c.loop-request.self)
    (drop_all c.loop-request.request-index requests (omega (arith, c.loop-request-test.false))) (c.loop-request.invariant.under position start)
