use Rattle.std.proofs.Common.{◌≡◌, length, arith}
use Rattle.reply_gate.proofs.WovenLemmas.{lead-taken, value-counted, value-taken, value-gone}
use Rattle.reply_gate.proofs.parts.Parts.advance_first.Goals as goal

pub returns-then-part-gt0-clause-rest : goal.returns-then-part-gt0-clause-rest
returns-then-part-gt0-clause-rest c =
    let s = c.args.self.now in
    let is = rw c.in-Some.ensures.items at s.woven in
    rw (c.push_front_reserved.ensures.items, c.advance-then-part-gt0.ensures.items, c.in-Some.ensures.items)
    (lead-taken s.led s.shared c.min-count.result c.in-Some.part c.pop_front.new.self.items s.text.items is (omega (arith, c.min-count.ensures))).1

pub overflow_sub-self-2 : goal.overflow_sub-self-2
overflow_sub-self-2 c =
    let is = rw c.in-Some.ensures.items at c.args.self.now.woven in
    omega (arith, value-counted _ _ _ _ _ is (omega (arith, c.if-part-gt0.false)), c.min-count-2.ensures, c.len.ensures.value)

pub invariant_of-self-then-count-len : goal.invariant_of-self-then-count-len
invariant_of-self-then-count-len c =
    let s = c.args.self.now in
    let is = rw c.in-Some.ensures.items at s.woven in
    record {
      woven = rw (c.push_front_reserved-then-count-len.ensures.items, c.advance-then-count-len.ensures)
          (value-taken s.led s.shared c.min-count-2.result c.in-Some.part c.pop_front.new.self.items s.text.items is (omega (arith, c.if-part-gt0.false)) (omega (arith, c.if-count-len.true, c.len-2.ensures.value))).0;
    }

pub invariant_of-self-else-count-len : goal.invariant_of-self-else-count-len
invariant_of-self-else-count-len c =
    let s = c.args.self.now in
    let is = rw c.in-Some.ensures.items at s.woven in
    let all : c.min-count-2.result ≡ length c.in-Some.part.bytes = omega (arith, c.min-count-2.ensures, c.len.ensures.value, c.len-2.ensures.value, c.if-count-len.false) in
    record { woven = rw all (value-gone s.led s.shared c.in-Some.part c.pop_front.new.self.items s.text.items is (omega (arith, c.if-part-gt0.false))).0 }
