use Rattle.std.proofs.Common.{arith}
use Rattle.reply_gate.proofs.GrowsLemmas.{grows-same}
use Rattle.reply_gate.proofs.WovenLemmas.{value-put}
use Rattle.reply_gate.proofs.parts.Parts.put_shared.Goals as goal

pub returns-then-self-count-clause-grew : goal.returns-then-self-count-clause-grew
returns-then-self-count-clause-grew c = grows-same _

pub invariant_of-self-2 : goal.invariant_of-self-2
invariant_of-self-2 c =
    let s = c.args.self.now in
    let put = value-put s.led s.shared s.values.items c.push_back_reserved.new.self.items s.text.items c.args.value s.woven (omega arith) (omega (arith, c.len-count.ensures.value, s.woven.bounded))
    (cc (c.push_back_reserved.ensures.items, c.in_ok-reserve.ensures.items, c.len-text.ensures.value)) in
    record { woven = rw (c.len-text.ensures.value, c.len-count.ensures.value) put.0 }

pub returns-clause-ok : goal.returns-clause-ok
returns-clause-ok c =
    let s = c.args.self.now in
    (value-put s.led s.shared s.values.items c.push_back_reserved.new.self.items s.text.items c.args.value s.woven (omega arith) (omega (arith, c.len-count.ensures.value, s.woven.bounded))
    (cc (c.push_back_reserved.ensures.items, c.in_ok-reserve.ensures.items, c.len-text.ensures.value))).1
