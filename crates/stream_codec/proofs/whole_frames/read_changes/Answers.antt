use Rattle.std.proofs.Common.{[], ◌∷◌, ◌++◌, ◌-◌, length, ap, sym, ◌∙◌, arith}
use Rattle.stream_codec.specs.declared.change.Body.TheVariants as bodies
use Rattle.stream_codec.specs.Reading.{changes_at}
use Rattle.stream_codec.specs.Shown.{shown}
use Rattle.stream_codec.specs.Scanning.{with_front}
use Rattle.stream_codec.proofs.Skipping.{IsEnd-length, taken_size, with_front_step, all_read, cut_short}
use Rattle.stream_codec.proofs.whole_frames.read_changes.Goals as goal

pub to_change-requires : goal.to_change-requires
to_change-requires c =
    (taken_size bodies.Changes c.loop-left.left c.loop-left.rest.now (shown c.in-Ok.change) c.in-Ok.after.now c.in-Ok.ensures).3

pub overflow_sub-left : goal.overflow_sub-left
overflow_sub-left c =
    let t = taken_size bodies.Changes c.loop-left.left c.loop-left.rest.now (shown c.in-Ok.change) c.in-Ok.after.now c.in-Ok.ensures in
    IsEnd-length c.loop-left.rest.now c.in-Ok.after.now t.4

pub overflow_sub-left-in-Ok : goal.overflow_sub-left-in-Ok
overflow_sub-left-in-Ok c =
    let t = taken_size bodies.Changes c.loop-left.left c.loop-left.rest.now (shown c.in-Ok.change) c.in-Ok.after.now c.in-Ok.ensures in
    omega (arith, t.0, t.1)

pub loop-left-smaller : goal.loop-left-smaller
loop-left-smaller c =
    let t = taken_size bodies.Changes c.loop-left.left c.loop-left.rest.now (shown c.in-Ok.change) c.in-Ok.after.now c.in-Ok.ensures in
    omega (arith, t.0, t.1, t.2)

pub loop-left-preserved : goal.loop-left-preserved
loop-left-preserved c =
    let left = c.loop-left.left in
    let rest = c.loop-left.rest.now in
    let after = c.in-Ok.after.now in
    c.loop-left.invariant
    ∙ with_front_step bodies.Changes c.loop-left.changes.items left rest (shown c.in-Ok.change) after c.loop-left-test.true c.in-Ok.ensures
    ∙ ap (λ all. with_front all (changes_at bodies.Changes (left - (length rest - length after)) after))
    (sym (c.in_ok-push-in-Ok.ensures.items ∙ ap (λ change. c.loop-left.changes.items ++ change ∷ []) c.in_ok-to_change-in-Ok.ensures))

pub returns-in-Err : goal.returns-in-Err
returns-in-Err c =
    cut_short bodies.Changes c.args.left c.args.bytes.now c.loop-left.left c.loop-left.rest.now c.loop-left.changes.items c.in-Err.field-0 c.loop-left.invariant c.loop-left-test.true c.in-Err.ensures

pub returns : goal.returns
returns c =
    all_read bodies.Changes c.args.left c.args.bytes.now c.loop-left.left c.loop-left.rest.now c.loop-left.changes.items c.loop-left.invariant c.loop-left-test.false
