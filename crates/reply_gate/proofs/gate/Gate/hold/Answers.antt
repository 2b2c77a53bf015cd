use Rattle.std.proofs.Common.{◌≡◌, ◌-◌, length, ap, arith, length-append}
use Rattle.kv_types.specs.Reply.{text_of}
use Rattle.reply_gate.specs.Parts.{all_bytes}
use Rattle.reply_gate.proofs.HeldLemmas.{held_more}
use Rattle.reply_gate.proofs.gate.Gate.hold.Goals as goal

pub invariant_of-self-2 : goal.invariant_of-self-2
invariant_of-self-2 c =
    let old = all_bytes c.self.inside.parts in
    let text = text_of c.args.reply.now in
    let written = c.in_ok-write.ensures.ok in
    let bytes : c.len.result - c.len-before.result ≡ length text =
    omega (arith, c.len.ensures, c.len-before.ensures, ap length written, length-append old text) in
    held_more c.self.inside.pending old text (all_bytes c.write.new.self) c.self.inside.held.items c.push_back_reserved.new.self.items c.args.position
    (c.len.result - c.len-before.result) written (cc (c.push_back_reserved.ensures.items, c.reserve.ensures.items)) bytes c.self.invariant.0 c.self.invariant.1
