use Rattle.std.proofs.Common.{◌≡◌, ◌+◌, ◌-◌, ◌^◌, ◌<◌, ◌≤◌, ◌++◌, ℕ, suc, List, ◌∷◌, length, get_or, drop, drop-cons, add-one, subst, arith}
use Rattle.std.proofs.Math.ListN.{drop_of_length-le}
use Rattle.kv_types.specs.declared.place.Extent.{Extent}
use Rattle.packing.specs.declared.moves.Move.{Move}
use Rattle.packing.specs.declared.placed.Placed.{Placed}
use Rattle.packing.specs.Sliding.{LeavesRun, step}
use Rattle.packing.proofs.SlideLemmas.{HasSlid, leaves_all, leaves_below, slid_at_first, slid_step}
use Rattle.packing.proofs.sliding.slide.Goals as goal

module _ (first end lines : ℕ) (extents : List Extent) (moves : List Move) (floor : ℕ) (ps : List Placed) (i : ℕ) (d : Placed) (slid : HasSlid first end lines extents moves floor (drop i ps))
    (has : i < length ps) where
  here : HasSlid first end lines extents moves floor (get_or ps i d ∷ drop (suc i) ps)
  here = subst (HasSlid first end lines extents moves floor) (drop-cons ps i d has) slid

  leaves : (need line : ℕ) → line ≡ (get_or ps i d).extent.first_line → need ≤ line - floor → LeavesRun first end lines (record { first_line = floor; lines = need }) extents moves
  leaves need line is far =
      let from = here.stack.chain.0 in
      leaves_below first end lines extents moves floor need (get_or ps i d) (drop (suc i) ps) here (omega (arith, is, far, from))

  stepped : (moves' : List Move) (floor' : ℕ) → end < 2 ^ 64
      → (floor + (get_or ps i d).extent.lines < 2 ^ 64 → moves' ≡ moves ++ (step end floor (get_or ps i d)).0)
      → ((get_or ps i d).extent.first_line + (get_or ps i d).extent.lines < 2 ^ 64 → floor + (get_or ps i d).extent.lines < 2 ^ 64 → floor' ≡ (step end floor (get_or ps i d)).1)
      → HasSlid first end lines extents moves' floor' (drop (i + 1) ps)
  stepped moves' floor' small moved raised =
      let chain = here.stack.chain in
      let from = chain.0 in
      let within = chain.1.within in
      let one : (get_or ps i d).extent.first_line + (get_or ps i d).extent.lines < 2 ^ 64 = omega (arith, within, small) in
      let two : floor + (get_or ps i d).extent.lines < 2 ^ 64 = omega (arith, from, within, small) in
      let next = slid_step first end lines extents moves floor (get_or ps i d) (drop (suc i) ps) here in
      rw (moved two, raised one two, add-one) next

pub loop-one-init : goal.loop-one-init
loop-one-init c = λ lines extents order can. rw c.new.ensures.items (slid_at_first c.args.first c.args.end lines extents c.args.placed.now c.args.need order can)

pub returns-then-saturating_sub-need : goal.returns-then-saturating_sub-need
returns-then-saturating_sub-need c = λ lines extents order can.
    let has : c.loop-one.one-index < length c.args.placed.now = omega (arith, c.loop-one-test.true) in
    let slid = c.loop-one.invariant lines extents order can in
    leaves _ _ _ _ _ _ c.args.placed.now c.loop-one.one-index _ slid has c.args.need c.first_line.result c.first_line.ensures (omega arith)

pub loop-one-preserved : goal.loop-one-preserved
loop-one-preserved c = λ lines extents order can.
    let has : c.loop-one.one-index < length c.args.placed.now = omega (arith, c.loop-one-test.true) in
    let slid = c.loop-one.invariant lines extents order can in
    stepped _ _ _ _ _ _ c.args.placed.now c.loop-one.one-index _ slid has c.take.new.self.moves.items c.take.new.self.floor (omega arith) c.in_ok-take.ensures.moves c.in_ok-take.ensures.floor

pub returns : goal.returns
returns c = λ lines extents order can.
    let all : length c.args.placed.now ≤ c.loop-one.one-index = omega (arith, c.loop-one-test.false) in
    let slid = subst (HasSlid c.args.first c.args.end lines extents c.loop-one.slid.moves.items c.loop-one.slid.floor) (drop_of_length-le c.args.placed.now all) (c.loop-one.invariant lines extents order can) in
    leaves_all c.args.first c.args.end lines extents c.loop-one.slid.moves.items c.loop-one.slid.floor c.args.need slid can
