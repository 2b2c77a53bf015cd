use Rattle.std.proofs.Common.{◌≡◌, ◌≤◌, ◌++◌, ◌∷◌, [], length, sym, ap, subst, ◌∙◌, append_assoc, arith}
use Rattle.std.specs.Vec.Iter.{into_iter_items}
use Rattle.mv_keyspace.specs.Slots.{AreSlots, rows_in}
use Rattle.mv_keyspace.proofs.EndingLemmas.{AreInOrder}
use Rattle.mv_keyspace.proofs.FillingLemmas.{first-rows, first-slots, no-slots, order-first}
use Rattle.mv_keyspace.proofs.filling.pairs_of.Goals as goal

pub returns-in_default-clause-slots : goal.returns-in_default-clause-slots
returns-in_default-clause-slots c = subst AreSlots (sym c.in_ok-pairs.ensures.items) no-slots

pub loop-row-init : goal.loop-row-init
loop-row-init c =
    let last = c.in_ok-last.last in
    let first = c.in-Some.first in
    let later = into_iter_items c.into_iter-row-iterator.result in
    let none = sym c.in_ok-pairs.ensures.items in
    let taken = sym c.in-Some.ensures.items ∙ c.into_iter-rows.ensures.rest in
    let whole = ap (λ items. first ∷ items) (ap into_iter_items c.into_iter-row-iterator.ensures.into_iter_gives) ∙ taken in
    record {
      slots = subst (λ es. AreSlots (es ++ last ∷ [])) none (first-slots last first c.in_ok-last.ensures.key c.in_ok-last.ensures.rows);
      filled = subst (λ rows. 1 ≤ length rows) (sym c.in_ok-last.ensures.rows) (omega arith);
      rows = subst (λ es. rows_in (es ++ last ∷ []) ++ later ≡ c.args.rows.items) none (first-rows last first later c.in_ok-last.ensures.rows ∙ whole);
    }

pub join-requires-clause-order : goal.join-requires-clause-order
join-requires-clause-order c =
    let row = c.in-Some-row.row in
    let rest = into_iter_items c.next-in-loop-row.new.self in
    let rows = rows_in (c.loop-row.pairs.items ++ c.loop-row.last ∷ []) in
    let whole = sym (ap (λ items. rows ++ items) c.in-Some-row.ensures.steps.0) ∙ c.loop-row.invariant.rows in
    order-first (rows ++ row ∷ []) rest (subst AreInOrder (sym whole ∙ sym (append_assoc rows (row ∷ []) rest)) c.requires)
