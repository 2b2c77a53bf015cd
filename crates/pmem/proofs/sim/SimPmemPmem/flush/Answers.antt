use Rattle.std.proofs.Common.{ℕ, ◌||◌, Bool, vec_len, sym, subst}
use Rattle.pmem.specs.Device.{Word}
use Rattle.pmem.specs.Cell.{Holds}
use Rattle.pmem.specs.Keep.{HoldsKept}
use Rattle.pmem.specs.History.{words_of}
use Rattle.pmem.proofs.Keeping.{HoldsIn-weaken}
use Rattle.pmem.proofs.Simulating.{starves_cases}
use Rattle.pmem.proofs.sim.SimPmemPmem.flush.Goals as goal
use Rattle.pmem.proofs.sim.SimPmemPmem.flush.Goals.{After-advance}

held : (c : After-advance) → Holds c.flush.new.self (words_of c.flushed.new.self) c.args.self.now.starved
held c =
    let device = c.args.self.now in
    subst (λ (w : ℕ → Word). Holds c.flush.new.self w device.starved) (sym c.flushed.ensures.words)
    (c.flush.ensures.held (words_of device.history) device.starved device.holds)

pub invariant_of-self-clause-holds : goal.invariant_of-self-clause-holds
invariant_of-self-clause-holds c = HoldsIn-weaken c.args.self.now.starved c.advance.result (held c)

pub invariant_of-self-clause-kept : goal.invariant_of-self-clause-kept
invariant_of-self-clause-kept c =
    let device = c.args.self.now in
    subst (λ (b : Bool). HoldsKept c.advance.new.self (vec_len c.flush.new.self.heads) c.flushed.new.self (device.starved || b)) (sym c.advance.ensures.answer)
    (c.advance.ensures.held device.history device.starved c.flushed.ensures.past (held c)
    (subst (λ (lines : ℕ). HoldsKept device.keep lines device.history device.starved) (sym c.flush.ensures.lines) device.kept))

pub returns-clause-starves : goal.returns-clause-starves
returns-clause-starves c =
    let device = c.args.self.now in
    starves_cases device.starved c.advance.result device.keep c.advance.new.self (vec_len device.cells.heads) device.history device.kept
    c.advance.ensures.answer c.advance.ensures.forgets
