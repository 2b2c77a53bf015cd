use Rattle.std.proofs.Common.{◌∷◌, ◌++◌, ap, sym, ◌∙◌, append_assoc}
use Rattle.std.specs.Fmt.{decimal}
use Rattle.std.specs.List.{flat_map}
use Rattle.kv_types.specs.Request.{line_end}
use Rattle.kv_types.specs.Reply.{text_of}
use Rattle.resp_codec.proofs.ReplyTexts.{text_of_counted}
use Rattle.reply_gate.specs.Parts.{all_bytes}
use Rattle.reply_gate.proofs.parts.Parts.+put.Goals as goal

pub loop-element-init : goal.loop-element-init
loop-element-init t c =
    let head = 42 ∷ decimal c.len.result ++ line_end in
    let texts = flat_map text_of c.in-Array.replies in
    let whole = text_of_counted c.args.reply.now c.in-Array.replies c.len.result c.in-Array.is c.len.ensures in
    rw c.as_slice-element-items.ensures (record {
      whole =
          ap (λ bytes. bytes ++ texts) c.in_ok-put_head-in-Array.ensures.ok ∙ append_assoc (all_bytes c.args.self.now) head texts
          ∙ ap (λ text. all_bytes c.args.self.now ++ text) (sym whole);
      grew = c.put_head.ensures.grew;
    })
