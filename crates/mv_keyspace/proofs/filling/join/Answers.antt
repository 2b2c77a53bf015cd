use Rattle.std.proofs.Common.{◌≡◌, ◌++◌, ◌∷◌, [], sym, subst, ◌∙◌}
use Rattle.kv_types.specs.Keyspace.{key_of}
use Rattle.kv_types.proofs.OrderLemmas.{same_key}
use Rattle.mv_keyspace.specs.Slots.{AreSlots, rows_in}
use Rattle.mv_keyspace.proofs.FillingLemmas.{joined-order, joined-slots, joined-rows, next-slots, next-rows, not-same}
use Rattle.mv_keyspace.proofs.filling.join.Goals as goal

pub add_last-requires : goal.add_last-requires
add_last-requires c =
    let same = same_key c.args.last.0 c.key-2.result.now (sym c.if-eq.ensures) ∙ c.key-2.ensures in
    joined-order c.args.pairs.now.items c.args.last c.args.row c.requires.order same

pub returns-then-eq-clause-slots : goal.returns-then-eq-clause-slots
returns-then-eq-clause-slots c =
    let same = same_key c.args.last.0 c.key-2.result.now (sym c.if-eq.ensures) ∙ c.key-2.ensures in
    joined-slots c.args.pairs.now.items c.args.last c.args.row c.requires.order same c.add_last.new.self c.in_ok-add_last.ensures c.requires.slots

pub returns-then-eq-clause-rows : goal.returns-then-eq-clause-rows
returns-then-eq-clause-rows c =
    let same = same_key c.args.last.0 c.key-2.result.now (sym c.if-eq.ensures) ∙ c.key-2.ensures in
    joined-rows c.args.pairs.now.items c.args.last c.args.row c.requires.order same c.add_last.new.self c.in_ok-add_last.ensures

pub returns-clause-slots : goal.returns-clause-slots
returns-clause-slots c =
    let next = c.in_ok-next.next in
    let other = λ (e : c.args.last.0 ≡ key_of c.args.row.id). not-same c.args.last.0 c.key-2.result.now c.if-eq.ensures (e ∙ sym c.key-2.ensures) in
    subst (λ items. AreSlots (items ++ next ∷ [])) (sym c.in_ok-push.ensures.items)
    (next-slots c.args.pairs.now.items c.args.last c.args.row c.requires.order c.requires.filled c.requires.slots other next c.in_ok-next.ensures.key c.in_ok-next.ensures.rows)

pub returns-clause-rows : goal.returns-clause-rows
returns-clause-rows c =
    let next = c.in_ok-next.next in
    subst (λ items. rows_in (items ++ next ∷ []) ≡ rows_in (c.args.pairs.now.items ++ c.args.last ∷ []) ++ c.args.row ∷ []) (sym c.in_ok-push.ensures.items)
    (next-rows c.args.pairs.now.items c.args.last c.args.row c.requires.order next c.in_ok-next.ensures.rows)
