use Rattle.std.proofs.Common.{◌≡◌, ℕ, ◌||◌, Bool, vec_len, vec_capacity, ◌≤◌, true, sym, subst}
use Rattle.std.proofs.lemmas.Result.{on_ok_weaker, on_err_weaker}
use Rattle.pmem.specs.Device.{Word, store_at}
use Rattle.pmem.specs.Cell.{Holds}
use Rattle.pmem.specs.Keep.{HoldsKept, is_forgotten}
use Rattle.pmem.specs.History.{words_of}
use Rattle.pmem.specs.declared.keep.Keep.TheVariants.{Awaited}
use Rattle.pmem.proofs.Keeping.{HoldsIn-weaken, HoldsKept-weaken}
use Rattle.pmem.proofs.Simulating.{Holds-stored, starves_cases, store_starves, err-refused}
use Rattle.pmem.proofs.sim.SimPmemPmem.store.Goals as goal
use Rattle.pmem.proofs.sim.SimPmemPmem.store.Goals.{After-advance}

held : (c : After-advance) → Holds c.store.new.self (words_of c.stored.new.self) (c.args.self.now.starved || c.is_err-refused.result)
held c =
    let device = c.args.self.now in
    subst (λ (w : ℕ → Word). Holds c.store.new.self w (device.starved || c.is_err-refused.result)) (sym c.stored.ensures.words)
    (Holds-stored c.store.result c.is_err-refused.result c.store.new.self (store_at c.args.word c.args.value (words_of device.history)) device.starved
    c.is_err-refused.ensures.value
    (on_ok_weaker c.store.result (λ store. store (words_of device.history) device.starved device.holds) c.store.ensures.ok)
    (on_err_weaker c.store.result (λ store. store (words_of device.history) device.starved device.holds) c.store.ensures.err))

pub invariant_of-self-clause-holds : goal.invariant_of-self-clause-holds
invariant_of-self-clause-holds c = HoldsIn-weaken (c.args.self.now.starved || c.is_err-refused.result) c.advance.result (held c)

pub invariant_of-self-clause-kept : goal.invariant_of-self-clause-kept
invariant_of-self-clause-kept c =
    let device = c.args.self.now in
    let starved = device.starved || c.is_err-refused.result in
    subst (λ (b : Bool). HoldsKept c.advance.new.self (vec_len c.store.new.self.heads) c.stored.new.self (starved || b)) (sym c.advance.ensures.answer)
    (c.advance.ensures.held device.history starved c.stored.ensures.past (held c)
    (subst (λ (lines : ℕ). HoldsKept device.keep lines device.history starved) (sym c.store.ensures.lines)
    (HoldsKept-weaken device.keep (vec_len device.cells.heads) device.history device.starved c.is_err-refused.result device.kept)))

pub returns-clause-starves : goal.returns-clause-starves
returns-clause-starves c =
    let device = c.args.self.now in
    store_starves device.starved c.is_err-refused.result c.advance.result
    ((vec_capacity device.cells.pool ≤ vec_len device.cells.pool) × (vec_len c.store.new.self.pool ≡ vec_len device.cells.pool))
    ((device.keep ≡ Awaited 0) × (is_forgotten c.advance.new.self ≡ true))
    (err-refused c.store.result c.is_err-refused.result c.is_err-refused.ensures.value c.store.ensures.refused)
    (starves_cases device.starved c.advance.result device.keep c.advance.new.self (vec_len device.cells.heads) device.history device.kept
    c.advance.ensures.answer c.advance.ensures.forgets)
