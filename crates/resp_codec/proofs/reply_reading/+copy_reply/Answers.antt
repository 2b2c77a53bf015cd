use Rattle.std.proofs.Common.{◌-◌, ◌+◌, ap, sym, ◌∙◌}
use Rattle.resp_codec.specs.GivesReplies.{head_read, element_at, read_in, behind, array_of}
use Rattle.resp_codec.specs.ReplyReading.{elements_at}
use Rattle.resp_codec.proofs.ReplyParts.{no-element, copied-opens, copied-element, uncopied-element, copied-all, none_copied, some_copied}
use Rattle.resp_codec.proofs.reply_reading.+copy_reply.Goals as goal

pub loop-i-init : goal.loop-i-init
loop-i-init t c =
    copied-opens c.args.limits c.args.depth c.args.bytes.now c.most_at.result c.in-Opens.count (head_read c.in-Ok.head) c.in-Ok.after.now c.new-replies.result c.most_at.ensures c.in-Ok.ensures (ap head_read c.in-Opens.is) c.new-replies.ensures

pub returns-in_default-checked_sub : goal.returns-in_default-checked_sub
returns-in_default-checked_sub t c =
    sym (ap (λ r. array_of (behind c.loop-i.replies (read_in r))) (no-element c.args.limits c.args.depth c.in-Opens.count c.loop-i._i c.loop-i.rest.now c.in_default-checked_sub.ensures c.loop-i-test.true))
    ∙ c.loop-i.invariant

pub returns-in_default-2 : goal.returns-in_default-2
returns-in_default-2 t c =
    sym (uncopied-element c.args.limits c.args.depth c.in-Some.inner c.in-Opens.count c.loop-i._i c.loop-i.replies c.loop-i.rest.now c.in-Some.ensures c.loop-i-test.true (none_copied _ _ _ c.in_ok-reply.ensures c.in_default-2.is))
    ∙ c.loop-i.invariant

pub loop-i-preserved : goal.loop-i-preserved
loop-i-preserved t c =
    sym (ap array_of
    (copied-element c.args.limits c.args.depth c.in-Some.inner c.in-Opens.count c.loop-i._i c.loop-i.replies c.loop-i.rest.now c.in-Some-2.reply c.in-Some-2.after.now c.in-Some.ensures c.loop-i-test.true (some_copied _ _ _ _ c.in_ok-reply.ensures c.in-Some-2.is)
    ∙ ap (λ replies. behind replies (read_in (elements_at (element_at c.args.limits c.args.depth) (c.in-Opens.count - (c.loop-i._i + 1)) c.in-Some-2.after.now))) (sym c.in_ok-push.ensures.ok)))
    ∙ c.loop-i.invariant

pub returns : goal.returns
returns t c =
    copied-all (element_at c.args.limits c.args.depth) c.in-Opens.count c.loop-i._i c.loop-i.replies c.loop-i.rest.now c.loop-i-test.false ∙ c.loop-i.invariant
