use Rattle.std.proofs.Common.{◌∷◌, ◌++◌}
use Rattle.std.proofs.lemmas.Result.{err_from_is_err_and}
use Rattle.std.specs.Fmt.{decimal}
use Rattle.std.specs.List.{flat_map}
use Rattle.kv_types.specs.Request.{line_end}
use Rattle.kv_types.specs.Reply.{text_of}
use Rattle.resp_codec.proofs.ReplyTexts.{text_of_counted, no_room, head_put}
use Rattle.resp_codec.proofs.replies.+put_reply.Goals as goal

pub returns-in_err-put_number-in-Array : goal.returns-in_err-put_number-in-Array
returns-in_err-put_number-in-Array g t c =
    let p = err_from_is_err_and c.from_residual-in_err-put_number-in-Array.result c.from_residual-in_err-put_number-in-Array.ensures.1 in
    let whole = text_of_counted c.args.reply.now c.in-Array.replies c.len-in-Array.result c.in-Array.is c.len-in-Array.ensures in
    rw p.1 (no_room (g.W.BufMut.spare c.args.out.now) (42 ∷ decimal c.len-in-Array.result ++ line_end) (flat_map text_of c.in-Array.replies) (text_of c.args.reply.now) whole c.in_err-put_number-in-Array.ensures)

pub loop-element-init : goal.loop-element-init
loop-element-init g t c =
    let whole = text_of_counted c.args.reply.now c.in-Array.replies c.len-in-Array.result c.in-Array.is c.len-in-Array.ensures in
    rw c.as_slice-element-items.ensures (head_put (g.W.BufMut.written c.args.out.now) (g.W.BufMut.written c.put_number-in-Array.new.out) (42 ∷ decimal c.len-in-Array.result ++ line_end) (flat_map text_of c.in-Array.replies) (text_of c.args.reply.now) (g.W.BufMut.spare c.args.out.now) (g.W.BufMut.spare c.put_number-in-Array.new.out) whole c.in_ok-put_number-in-Array.ensures)
