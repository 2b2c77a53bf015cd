use Rattle.std.proofs.Common.{[], ◌∷◌, ◌++◌, ◌-◌, length, map, option_map, ap, sym, ◌∙◌, arith}
use Rattle.stream_codec.specs.declared.change.Body.TheVariants as bodies
use Rattle.stream_codec.specs.Reading.{changes_at}
use Rattle.stream_codec.specs.Message.{put_of}
use Rattle.stream_codec.specs.Shown.{shown}
use Rattle.stream_codec.specs.Scanning.{with_front}
use Rattle.stream_codec.proofs.Skipping.{IsEnd-length, taken_size, taken_put, with_front_step, map_one_more, is_copied, not_copied, all_read, cut_short}
use Rattle.stream_codec.proofs.whole_frames.read_puts.Goals as goal

pub to_put-requires : goal.to_put-requires
to_put-requires c =
    (taken_size bodies.Puts c.loop-left.left c.loop-left.rest.now (shown c.in-Ok.change) c.in-Ok.after.now c.in-Ok.ensures).3

pub overflow_sub-left : goal.overflow_sub-left
overflow_sub-left c =
    let t = taken_size bodies.Puts c.loop-left.left c.loop-left.rest.now (shown c.in-Ok.change) c.in-Ok.after.now c.in-Ok.ensures in
    IsEnd-length c.loop-left.rest.now c.in-Ok.after.now t.4

pub overflow_sub-left-in-Ok : goal.overflow_sub-left-in-Ok
overflow_sub-left-in-Ok c =
    let t = taken_size bodies.Puts c.loop-left.left c.loop-left.rest.now (shown c.in-Ok.change) c.in-Ok.after.now c.in-Ok.ensures in
    omega (arith, t.0, t.1)

pub loop-left-smaller : goal.loop-left-smaller
loop-left-smaller c =
    let t = taken_size bodies.Puts c.loop-left.left c.loop-left.rest.now (shown c.in-Ok.change) c.in-Ok.after.now c.in-Ok.ensures in
    omega (arith, t.0, t.1, t.2)

pub loop-left-preserved : goal.loop-left-preserved
loop-left-preserved c =
    let left = c.loop-left.left in
    let rest = c.loop-left.rest.now in
    let after = c.in-Ok.after.now in
    let puts = c.loop-left.puts.items in
    let change = shown c.in-Ok.change in
    let is = is_copied c.in-Some.put change (taken_put left rest change after c.in-Ok.ensures) (ap (option_map put_of) (sym c.in-Some.is) ∙ c.in_ok-put-in-Ok.ensures) in
    c.loop-left.invariant
    ∙ with_front_step bodies.Puts (map put_of puts) left rest change after c.loop-left-test.true c.in-Ok.ensures
    ∙ ap (λ all. with_front all (changes_at bodies.Puts (left - (length rest - length after)) after))
    (sym (ap (map put_of) c.in_ok-push-in-Ok.ensures.items ∙ map_one_more puts c.in-Some.put ∙ ap (λ change. map put_of puts ++ change ∷ []) is))

pub returns-in_default : goal.returns-in_default
returns-in_default c =
    let change = shown c.in-Ok.change in
    let put = taken_put c.loop-left.left c.loop-left.rest.now change c.in-Ok.after.now c.in-Ok.ensures in
    λ changes rest read. absurd (not_copied change put (ap (option_map put_of) (sym c.in_default.is) ∙ c.in_ok-put-in-Ok.ensures))

pub returns-in-Err : goal.returns-in-Err
returns-in-Err c =
    cut_short bodies.Puts c.args.left c.args.bytes.now c.loop-left.left c.loop-left.rest.now (map put_of c.loop-left.puts.items) c.in-Err.field-0 c.loop-left.invariant c.loop-left-test.true c.in-Err.ensures

pub returns : goal.returns
returns c =
    all_read bodies.Puts c.args.left c.args.bytes.now c.loop-left.left c.loop-left.rest.now (map put_of c.loop-left.puts.items) c.loop-left.invariant c.loop-left-test.false
