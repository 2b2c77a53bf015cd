use Rattle.std.proofs.Common.{ℕ, refl, vec_len, ap, ◌∙◌}
use Rattle.pmem.specs.Device.{Word, moment}
use Rattle.pmem.specs.Crash.{image_of}
use Rattle.pmem.specs.History.{words_of}
use Rattle.pmem.specs.Sim.{state_of}
use Rattle.pmem.proofs.Floors.{left_unkept}
use Rattle.pmem.proofs.Restarting.{crash_picked, crash_within}
use Rattle.pmem.proofs.sim.SimPmemCrashing.crash.Goals as goal

pub returns-clause-picked : goal.returns-clause-picked
returns-clause-picked c =
    let device = c.args.self.now in
    crash_picked device.keep (vec_len device.cells.heads) device.history device.starved (state_of device) refl refl device.kept c.restore.new.cells
    (c.restore.ensures.held device.history device.starved device.holds device.kept) c.args.picks.now (image_of (words_of c.crashed.new.self))
    (λ word. ap (λ (w : ℕ → Word). image_of w word) c.crashed.ensures.words ∙ c.crash.ensures.picked word)

pub returns-clause-within : goal.returns-clause-within
returns-clause-within c =
    let device = c.args.self.now in
    crash_within device.keep (vec_len device.cells.heads) device.history device.starved (state_of device) refl refl device.kept c.restore.new.cells
    (c.restore.ensures.held device.history device.starved device.holds device.kept) c.args.picks.now (image_of (words_of c.crashed.new.self))
    (λ word. ap (λ (w : ℕ → Word). image_of w word) c.crashed.ensures.words ∙ c.crash.ensures.picked word)

pub returns-clause-left : goal.returns-clause-left
returns-clause-left c = let d = state_of c.args.self.now in left_unkept d (moment d) (image_of (words_of c.crashed.new.self)) (returns-clause-within c)
