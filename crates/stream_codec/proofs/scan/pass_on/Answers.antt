use Rattle.std.proofs.Common.{sym, ◌∙◌}
use Rattle.kv_types.specs.declared.stop.Stop.TheVariants.{Short, Broken}
use Rattle.stream_codec.proofs.Skipping.{IsEnd-then, stopped_after, whole_after}
use Rattle.stream_codec.proofs.Stepping.{more_is, step_leads, step_stops}
use Rattle.stream_codec.proofs.scan.pass_on.Goals as goal

pub step_at-requires : goal.step_at-requires
step_at-requires c = more_is c.loop-next.next (sym c.is_more.ensures ∙ c.loop-next-test.true)

pub loop-next-smaller : goal.loop-next-smaller
loop-next-smaller c = (step_leads c.loop-next.next (more_is c.loop-next.next (sym c.is_more.ensures ∙ c.loop-next-test.true)) c.loop-next.rest.now c.in-Ok.later c.in-Ok.after.now c.in-Ok.ensures).shorter

pub loop-next-preserved : goal.loop-next-preserved
loop-next-preserved c =
    let t = step_leads c.loop-next.next (more_is c.loop-next.next (sym c.is_more.ensures ∙ c.loop-next-test.true)) c.loop-next.rest.now c.in-Ok.later c.in-Ok.after.now c.in-Ok.ensures in
    record {
      alike = λ more. c.loop-next.invariant.alike more ∙ t.alike more;
      end = IsEnd-then c.args.bytes.now c.loop-next.rest.now c.in-Ok.after.now c.loop-next.invariant.end t.end;
    }

pub returns-in-Err-Short : goal.returns-in-Err-Short
returns-in-Err-Short c =
    let more = more_is c.loop-next.next (sym c.is_more.ensures ∙ c.loop-next-test.true) in (
      c.loop-next.invariant.alike,
      c.loop-next.invariant.end,
      more,
      step_stops c.loop-next.next more c.loop-next.rest.now Short (rw c.in-Err-Short.field-0-is at c.in-Err-Short.ensures),
    )

pub returns-in-Err-Broken : goal.returns-in-Err-Broken
returns-in-Err-Broken c =
    stopped_after c.args.next c.args.bytes.now c.loop-next.next c.loop-next.rest.now (Broken tt) c.loop-next.invariant.alike
    (step_stops c.loop-next.next (more_is c.loop-next.next (sym c.is_more.ensures ∙ c.loop-next-test.true)) c.loop-next.rest.now (Broken tt) (rw c.in-Err-Broken.field-0-is at c.in-Err-Broken.ensures))

pub returns : goal.returns
returns c = (whole_after c.args.next c.args.bytes.now c.loop-next.next c.loop-next.rest.now c.loop-next.invariant.alike (sym c.is_more.ensures ∙ c.loop-next-test.false), c.loop-next.invariant.end)
