use Rattle.std.proofs.Common.{◌≡◌, ap, ◌∙◌, length, arith}
use Rattle.std.proofs.lemmas.List.{at_drop_all}
use Rattle.std.specs.Fmt.{decimal}
use Rattle.std.specs.List.{flat_map}
use Rattle.kv_types.specs.Reply.{text_of}
use Rattle.resp_codec.proofs.ReplyTexts.{length-text_of-Array}
use Rattle.resp_codec.proofs.replies.+text_len.Goals as goal

pub loop-element-init : goal.loop-element-init
loop-element-init t c =
    let replies = c.in-Array.replies in
    let whole = ap (λ reply. length (text_of reply)) c.in-Array.is ∙ length-text_of-Array replies in
    let digits : length c.format-in-Array.result.now ≡ length (decimal (length replies)) = ap length c.format-in-Array.ensures.text ∙ ap (λ n. length (decimal n)) c.len-in-Array.ensures in
    rw c.as_slice-element-items.ensures (omega (arith, whole, digits, c.in_ok-len-in-Array.ensures), omega (arith, c.in_ok-len-in-Array.ensures))

pub returns-after-loop-element : goal.returns-after-loop-element
returns-after-loop-element t c =
    let none = ap length (at_drop_all (flat_map text_of) c.as_slice-element-items.result.now c.loop-element.element-index c.loop-element-test.false) in
    let h = c.loop-element.invariant in
    (omega (arith, none, h.0, h.1), omega (arith, none, h.0))
