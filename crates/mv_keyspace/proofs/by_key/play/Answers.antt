use Rattle.std.proofs.Common.{◌+◌, ◌∷◌, drop, IsTrue, subst, sym, ap, ◌∙◌, arith}
use Rattle.std.proofs.lemmas.List.{drop_more}
use Rattle.model.specs.Group.{change_of}
use Rattle.mv_keyspace.specs.Table.{puts_of}
use Rattle.mv_keyspace.specs.Row.{ended_rows, table_of}
use Rattle.mv_keyspace.specs.Slots.{AreKeyed, awaits, ends, makes_fields, rows_in}
use Rattle.mv_keyspace.proofs.ListLemmas.{length-ended}
use Rattle.mv_keyspace.proofs.PlayingLemmas.{playing-named, staged-step, change-step}
use Rattle.mv_keyspace.proofs.WritingLemmas.{makes-first, makes-later}
use Rattle.mv_keyspace.proofs.by_key.play.Goals as goal

pub make_one-count-requires-clause-lists : goal.make_one-count-requires-clause-lists
make_one-count-requires-clause-lists c = λ q makes.
    let changes = c.args.changes.now in
    let n = c.loop-change.change-index in
    let next = drop_more changes n c.change-item.result c.loop-change-test.true ∙ ap (λ x. x ∷ drop (n + 1) changes) (sym c.change-item.is) in
    c.loop-change.invariant.lists q (subst (λ rest. IsTrue (makes_fields q rest)) (sym next) (makes-first q c.change-item.result (drop (n + 1) changes) makes))

pub loop-change-preserved : goal.loop-change-preserved
loop-change-preserved c =
    let changes = c.args.changes.now in
    let n = c.loop-change.change-index in
    let change = c.change-item.result in
    let next = drop_more changes n change c.loop-change-test.true ∙ ap (λ x. x ∷ drop (n + 1) changes) (sym c.change-item.is) in
    record {
      slots = c.make_one-count.ensures.slots;
      keyed = (subst AreKeyed next c.loop-change.invariant.keyed).1;
      playing = λ position is.
          let playing = c.loop-change.invariant.playing position is in
          let staged = staged-step n playing c.loop-change-test.true c.change-item.is in
          let made = c.make_one-count.ensures.table position (puts_of (drop (n + 1) changes)) staged in
          change-step n playing c.loop-change-test.true c.change-item.is _ _ made.0 made.1 _ c.make_one-count.ensures.ended;
      counted = c.make_one-count.ensures.counted;
      lists = λ q makes. c.make_one-count.ensures.lists q ∙ c.loop-change.invariant.lists q (subst (λ rest. IsTrue (makes_fields q rest)) (sym next) (makes-later q change (drop (n + 1) changes) makes));
      awaited = λ q. omega (arith, ap (awaits q) next, c.loop-change.invariant.awaited q, c.make_one-count.ensures.awaited q);
      room_for_ended = λ position is.
          let table = table_of (rows_in c.loop-change.slots.entries) in
          let staged = staged-step n (c.loop-change.invariant.playing position is) c.loop-change-test.true c.change-item.is in
          let made = (c.make_one-count.ensures.table position (puts_of (drop (n + 1) changes)) staged).0 in
          let named = length-ended c.loop-change.ended.items c.make_one-count.new.ended.items (ended_rows (change_of change) table) c.make_one-count.ensures.ended in
          omega (arith, ap (ends position table) next, ap (λ t. ends position t (drop (n + 1) changes)) made, c.loop-change.invariant.room_for_ended position is, named, c.make_one-count.ensures.capacity_for_ended, c.loop-change.ended.ok.0, c.make_one-count.new.ended.ok.0);
    }

pub returns-clause-ended : goal.returns-clause-ended
returns-clause-ended c = λ position is.
    playing-named c.loop-change.change-index c.args.ended.now.items c.loop-change.ended.items (c.loop-change.invariant.playing position is) c.loop-change-test.false
