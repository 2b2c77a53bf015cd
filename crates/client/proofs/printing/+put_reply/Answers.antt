use Rattle.std.proofs.Common.{◌≡◌, ◌++◌, OnOk, sym, subst}
use Rattle.kv_types.specs.declared.reply.Reply.{Reply}
use Rattle.client.specs.Printed.{lines_at}
use Rattle.client.proofs.PrintedLemmas.{count_put}
use Rattle.client.proofs.printing.+put_reply.Goals as goal

pub loop-element-init : goal.loop-element-init
loop-element-init t c =
    rw c.as_slice-element-items.ensures
    (count_put c.args.depth c.in_ok-inner-in-Array.inner c.len.result c.args.reply.now c.in-Array.replies c.args.text.now.items c.put_count.new.text.items c.in-Array.is c.len.ensures c.in_ok-inner-in-Array.ensures c.in_ok-put_count-in-Array.ensures)

pub returns-in-NullArray : goal.returns-in-NullArray
returns-in-NullArray t c =
    subst (λ (reply : Reply). OnOk c.put_line-in-NullArray.result (c.put_line-in-NullArray.new.text.items ≡ c.args.text.now.items ++ lines_at c.args.depth reply)) (sym c.in-NullArray.is) c.put_line-in-NullArray.ensures
