use Rattle.std.proofs.Common.{[], ◌∷◌, ◌++◌, length, sym, ap, ◌∙◌, append_assoc, arith}
use Rattle.std.specs.Vec.Iter.{into_iter_items}
use Rattle.kv_types.specs.Keyspace.{play}
use Rattle.kv_types.proofs.PlayLemmas.{play_all-append}
use Rattle.kv_types.proofs.plain_keyspace.play_each.Goals as goal

pub loop-change-preserved : goal.loop-change-preserved
loop-change-preserved c =
    let before = c.loop-change.invariant in
    let steps = c.in-Some.ensures.steps.0 in (
      c.in-Ok.ensures.ok ∙ ap (λ s. play s c.in-Some.change) before.0 ∙ sym (play_all-append c.args.records.now.items c.loop-change.yielded (c.in-Some.change ∷ [])),
      before.1 ∙ ap (λ rest. c.loop-change.yielded ++ rest) steps ∙ sym (append_assoc c.loop-change.yielded (c.in-Some.change ∷ []) (into_iter_items c.next.new.self)),
      omega (arith, before.2, ap length steps, c.play_on.ensures.len, c.play_on.ensures.capacity),
    )
