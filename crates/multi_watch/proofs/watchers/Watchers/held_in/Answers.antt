use Rattle.std.proofs.Common.{rules, ◌≡◌, ◌&&◌, [], ◌∷◌, ◌++◌, true, sym, ap, ap₂, subst, ◌∙◌}
use Rattle.std.specs.Map.Iter.{deref}
use Rattle.std.proofs.lemmas.Map.Iter.{rest_more}
use Rattle.cmd_core.specs.Contents.{has_key}
use Rattle.multi_watch.proofs.HeldLemmas.{is_one_of, finds, held_next, AllShort, all_short, others_short}
use Rattle.multi_watch.proofs.watchers.Watchers.held_in.Goals as goal

pub loop-key-init : goal.loop-key-init
loop-key-init g c =
    let s = g.L.Lookup.keyspace c.args.lookup.now in
    let table = c.args.self.now.table.entries in
    let none : c.new-held.result.items ≡ [] = search rules in
    let all = c.into_iter-key-iterator.ensures.into_iter_gives ∙ c.keys-key-items.ensures.rest in
    record {
      held = λ own. (ap₂ (finds s own) none all ∙ ap (λ b. b && has_key s own) (is_one_of own table));
      short = subst AllShort (sym all) (all_short table c.args.self.now.each_watched);
    }

pub loop-key-preserved-in_ok-push : goal.loop-key-preserved-in_ok-push
loop-key-preserved-in_ok-push g c =
    let s = g.L.Lookup.keyspace c.args.lookup.now in
    let key = c.in-Some.key.now in
    let held = c.loop-key.held.items in
    let left = c.next.new.self in
    let next : c.loop-key.key-iterator ≡ key ∷ left = rest_more deref _ _ _ _ c.in-Some.is c.next.ensures.steps in
    let more : c.push.new.self.items ≡ held ++ key.items ∷ [] = search rules in
    let has : has_key s key.items ≡ true = search rules in
    record {
      held = λ own. (held_next s own key held left c.push.new.self.items c.loop-key.key-iterator has more next ∙ c.loop-key.invariant.held own);
      short = others_short key left c.loop-key.key-iterator next c.loop-key.invariant.short;
    }
