use Rattle.std.proofs.Common.{arith, ◌≡◌, ℕ, ◌||◌, Bool, false, sym, subst}
use Rattle.pmem.specs.Device.{Word}
use Rattle.pmem.specs.Cell.{Holds}
use Rattle.pmem.specs.History.{words_of}
use Rattle.pmem.proofs.Keeping.{HoldsIn-weaken}
use Rattle.pmem.proofs.sim.SimPmemPmem.fence.Goals as goal
use Rattle.pmem.proofs.sim.SimPmemPmem.fence.Goals.{After-advance-else-pass_fence-self}

-- a fence succeeds only where the device is not starved
fed : (c : After-advance-else-pass_fence-self) → c.args.self.now.starved ≡ false
fed c = grind (arith, c.if-pass_fence-self.false)

held : (c : After-advance-else-pass_fence-self) → Holds c.fence.new.self (words_of c.fenced.new.self) false
held c =
    let device = c.args.self.now in
    subst (λ (w : ℕ → Word). Holds c.fence.new.self w false) (sym c.fenced.ensures.words)
    (c.fence.ensures.held (words_of device.history)
    (subst (λ (b : Bool). Holds device.cells (words_of device.history) b) (fed c) device.holds))

pub invariant_of-self-else-pass_fence-self-clause-holds : goal.invariant_of-self-else-pass_fence-self-clause-holds
invariant_of-self-else-pass_fence-self-clause-holds c =
    HoldsIn-weaken false (c.args.self.now.starved || c.advance-else-pass_fence-self.result) (held c)

pub invariant_of-self-else-pass_fence-self-clause-kept : goal.invariant_of-self-else-pass_fence-self-clause-kept
invariant_of-self-else-pass_fence-self-clause-kept c =
    let device = c.args.self.now in
    rw c.advance-else-pass_fence-self.ensures.answer
    (c.advance-else-pass_fence-self.ensures.held device.history device.starved c.fenced.ensures.past
    (HoldsIn-weaken false device.starved (held c))
    (rw c.fence.ensures.lines device.kept))
