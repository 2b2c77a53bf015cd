use Rattle.std.proofs.Common.{◌≡◌, ◌+◌, [], ◌∷◌, length, drop, subst, sym, ap, ◌∙◌, arith}
use Rattle.std.specs.Vec.Iter.{into_iter_items}
use Rattle.cmd_core.specs.Contents.{keys_of}
use Rattle.model.specs.Group.{change_of, put_of}
use Rattle.mv_keyspace.specs.Table.{place, puts_of}
use Rattle.mv_keyspace.specs.Keys.{keys_beside}
use Rattle.mv_keyspace.specs.Row.{records_of, table_of, numbers_of}
use Rattle.mv_keyspace.proofs.EndingLemmas.{AreInOrder, order-lawful}
use Rattle.mv_keyspace.proofs.KeyCountLemmas.{keys_beside-placed}
use Rattle.mv_keyspace.proofs.ListLemmas.{in_order-placed}
use Rattle.mv_keyspace.proofs.PlayingLemmas.{length-staged, ended-few, playing-start, playing-named, staged-step, change-step}
use Rattle.mv_keyspace.proofs.list_rows.play.Goals as goal
use Rattle.mv_keyspace.proofs.list_rows.play.Goals.{After-make_change}

pub loop-change-init : goal.loop-change-init
loop-change-init c = record {
  playing =
      let table = table_of c.args.rows.now.items in
      let changes = c.args.changes.now in
      let staged = table_of (into_iter_items c.into_iter-staged.result) in
      λ position is.
      playing-start position table changes (numbers_of c.args.ended.now.items) staged c.requires.lawful c.requires.fresh (ap table_of c.into_iter-staged.ensures.rest ∙ is);
  counted = c.requires.counted;
  room = omega (arith, c.into_iter-staged.ensures.len, c.requires.room);
  room_for_ended = omega (arith, c.into_iter-staged.ensures.len, c.requires.room_for_ended);
}

pub count_others-others-requires-clause-order : goal.count_others-others-requires-clause-order
count_others-others-requires-clause-order c =
    subst (λ rows. AreInOrder rows) (sym c.deref.ensures.value) (order-lawful c.loop-change.rows.items (c.loop-change.invariant.playing c.requires.staged.0 c.requires.staged.1).lawful)

pub make_change-requires-clause-order : goal.make_change-requires-clause-order
make_change-requires-clause-order c = order-lawful c.loop-change.rows.items (c.loop-change.invariant.playing c.requires.staged.0 c.requires.staged.1).lawful

-- a change that makes a row has it staged
pub make_change-requires-clause-room : goal.make_change-requires-clause-room
make_change-requires-clause-room c =
    let staged = staged-step c.loop-change.change-index (c.loop-change.invariant.playing c.requires.staged.0 c.requires.staged.1) c.loop-change-test.true c.change-item.is in
    let rest = drop (c.loop-change.change-index + 1) c.args.changes.now in
    omega (arith, length-staged c.requires.staged.0 (put_of c.change-item.result) (puts_of rest) (into_iter_items c.loop-change.staged) staged, c.loop-change.invariant.room)

pub make_change-requires-clause-room_for_ended : goal.make_change-requires-clause-room_for_ended
make_change-requires-clause-room_for_ended c =
    omega (arith, ended-few (change_of c.change-item.result) c.loop-change.rows.items, c.loop-change.rows.ok.0, c.loop-change.invariant.room_for_ended)

-- the rows after the change
placed : (c : After-make_change) → table_of c.make_change.new.rows.items ≡ place c.requires.staged.0 (table_of c.loop-change.rows.items) c.change-item.result
placed c =
    (c.make_change.ensures.table c.requires.staged.0 (puts_of (drop (c.loop-change.change-index + 1) c.args.changes.now))
    (staged-step c.loop-change.change-index (c.loop-change.invariant.playing c.requires.staged.0 c.requires.staged.1) c.loop-change-test.true c.change-item.is)).0

pub count_with-count-requires-clause-order : goal.count_with-count-requires-clause-order
count_with-count-requires-clause-order c =
    let rows = c.loop-change.rows.items in
    let playing = c.loop-change.invariant.playing c.requires.staged.0 c.requires.staged.1 in
    subst (λ left. AreInOrder left) (sym c.deref-in-loop-change.ensures.value)
    (in_order-placed c.requires.staged.0 rows c.make_change.new.rows.items (c.change-item.result ∷ []) (placed (goal.at.count_with-count-requires-clause-order c).After-make_change) (order-lawful rows playing.lawful))

pub count_with-count-requires-clause-others : goal.count_with-count-requires-clause-others
count_with-count-requires-clause-others c =
    let change = c.change-item.result in
    let same = keys_beside-placed c.requires.staged.0 c.loop-change.rows.items c.make_change.new.rows.items change (placed (goal.at.count_with-count-requires-clause-others c).After-make_change) in
    c.count_others-others.ensures.value
    ∙ ap (λ left. length (keys_beside (change_of change) (records_of left))) c.deref.ensures.value
    ∙ ap (λ keys. length keys) (sym same)
    ∙ ap (λ left. length (keys_beside (change_of change) (records_of left))) (sym c.deref-in-loop-change.ensures.value)

pub loop-change-preserved : goal.loop-change-preserved
loop-change-preserved c = record {
  playing = λ position is.
      let n = c.loop-change.change-index in
      let playing = c.loop-change.invariant.playing position is in
      let staged = staged-step n playing c.loop-change-test.true c.change-item.is in
      let made = c.make_change.ensures.table position (puts_of (drop (n + 1) c.args.changes.now)) staged in
      change-step n playing c.loop-change-test.true c.change-item.is _ _ made.0 made.1 _ c.make_change.ensures.ended;
  counted = c.count_with-count.ensures ∙ ap (λ rows. length (keys_of (records_of rows))) c.deref-in-loop-change.ensures.value;
  room = omega (arith, c.make_change.ensures.fewer, c.make_change.ensures.left, c.make_change.ensures.capacity, c.loop-change.invariant.room);
  room_for_ended = omega (arith, c.make_change.ensures.len, c.make_change.ensures.left, c.make_change.ensures.capacity_for_ended, c.loop-change.invariant.room_for_ended);
}

pub returns-clause-ended : goal.returns-clause-ended
returns-clause-ended c = λ position is.
    playing-named c.loop-change.change-index c.args.ended.now.items c.loop-change.ended.items (c.loop-change.invariant.playing position is) c.loop-change-test.false
