-- What a simulated device has gone through.
use Rattle.std.specs.Prelude.{◌≡◌, ℕ, true, false, [], length, None, vec_len, vec_capacity, ◌≤◌}
use Rattle.pmem.specs.declared.sim.SimPmem.{SimPmem}
use Rattle.pmem.specs.declared.keep.Keep.TheVariants.{Awaited}
use Rattle.pmem.specs.Device.{State, settled}
use Rattle.pmem.specs.Device.Fences.{Sure}
use Rattle.pmem.specs.History.{words_of, past_of, failures_of}
use Rattle.pmem.specs.Keep.{kept_moment, is_forgotten}

-- the state of a device of zeros before its first call
abbrev pub fresh : ℕ → State
fresh lines = record { words = λ word. settled 0; past = []; lines = lines; failures = 0; starved = false; fences = Sure None; kept = None }

abbrev pub state_of : SimPmem → State
state_of device =
    record {
      words = words_of device.history;
      past = past_of device.history;
      lines = vec_len device.cells.heads;
      failures = failures_of device.history;
      starved = device.starved;
      fences = Sure device.fail_in;
      kept = kept_moment device.keep (length (past_of device.history));
    }

-- a store found no room for one more older candidate, and the pool did not grow
abbrev pub IsRefusedGrowth : SimPmem → SimPmem → Type 0
IsRefusedGrowth old new =
    (vec_capacity old.cells.pool ≤ vec_len old.cells.pool) × (vec_len new.cells.pool ≡ vec_len old.cells.pool)

-- the call had to make the copy that the next crash picks from, and there is none
abbrev pub IsRefusedCopy : SimPmem → SimPmem → Type 0
IsRefusedCopy old new = (old.keep ≡ Awaited 0) × (is_forgotten new.keep ≡ true)

-- the copy that the next crash picks from is missing
abbrev pub LacksCopy : SimPmem → Type 0
LacksCopy device = is_forgotten device.keep ≡ true
