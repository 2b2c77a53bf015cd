-- An engine over the list of calls, while that grows.
use Rattle.std.proofs.Common.{rules, ℕ, ◌≤◌, Bool, List, ◌++◌, sym, subst}
use Rattle.pmem.specs.Device.{State}
use Rattle.model.specs.declared.call.Call.{Call}
use Rattle.model.specs.Call.{position_of}
use Rattle.model.specs.Image.{IsMapOf}
use Rattle.model.specs.Group.{Contents, entries_of}
use Rattle.model.specs.Standing.{Holder}
use Rattle.model.proofs.CallsLemmas.{keyspace_after-cut_at-append}
use Rattle.node_steps.specs.Committing.{AreContentsAt, EngineStands}

pub AreContentsAt-grows : (holder : Holder) (calls more : List Call) (p : ℕ) (contents : Contents) → p ≤ position_of calls → AreContentsAt holder calls p contents → AreContentsAt holder (calls ++ more) p contents
AreContentsAt-grows holder calls more p contents le are =
    search (rules, subst (IsMapOf contents.versions (entries_of contents)) (sym (keyspace_after-cut_at-append calls more p le)) are.map, are)

pub EngineStands-grows : (holder : Holder) (calls more : List Call) (p : ℕ) (device : State) (contents : Contents) (is_faulted : Bool) → p ≤ position_of calls
    → EngineStands holder calls p device contents is_faulted → EngineStands holder (calls ++ more) p device contents is_faulted
EngineStands-grows holder calls more p device contents is_faulted le stands =
    search (rules, AreContentsAt-grows holder calls more p contents le stands.contents_at, stands)
