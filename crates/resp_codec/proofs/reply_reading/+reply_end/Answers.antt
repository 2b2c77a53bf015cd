use Rattle.std.proofs.Common.{ap, sym, ◌∙◌}
use Rattle.std.proofs.lemmas.Result.{err_from_is_err_and}
use Rattle.kv_types.specs.Reader.{skipped}
use Rattle.resp_codec.specs.GivesReplies.{head_read}
use Rattle.resp_codec.proofs.ReplyParts.{no-element, skipped-opens, skipped-element, stopped-element}
use Rattle.resp_codec.proofs.reply_reading.+reply_end.Goals as goal

pub loop-i-init : goal.loop-i-init
loop-i-init t c =
    skipped-opens c.args.limits c.args.depth c.args.bytes.now c.most_at.result c.in-Opens.count (head_read c.in_ok-head.head) c.in_ok-head.after.now c.most_at.ensures c.in_ok-head.ensures (ap head_read c.in-Opens.is)

pub returns-in_default-checked_sub : goal.returns-in_default-checked_sub
returns-in_default-checked_sub t c =
    sym c.loop-i.invariant ∙ ap skipped (no-element c.args.limits c.args.depth c.in-Opens.count c.loop-i._i c.loop-i.rest.now c.in_default-checked_sub.ensures c.loop-i-test.true)

pub returns-in_err-rest : goal.returns-in_err-rest
returns-in_err-rest t c =
    let p = err_from_is_err_and c.from_residual-in_err-rest.result c.from_residual-in_err-rest.ensures.1 in
    rw (p.1, p.2)
    (sym c.loop-i.invariant
    ∙ ap skipped (stopped-element c.args.limits c.args.depth c.in-Some.inner c.in-Opens.count c.loop-i._i c.loop-i.rest.now _ c.in-Some.ensures c.loop-i-test.true c.in_err-rest.ensures))

pub loop-i-preserved : goal.loop-i-preserved
loop-i-preserved t c =
    sym (skipped-element c.args.limits c.args.depth c.in-Some.inner c.in-Opens.count c.loop-i._i c.loop-i.rest.now c.in_ok-rest.rest.now c.in-Some.ensures c.loop-i-test.true c.in_ok-rest.ensures)
    ∙ c.loop-i.invariant
