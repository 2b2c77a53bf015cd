-- The changes of a list of calls by their position: change p takes the keyspace of position p to that of the next one.
use Rattle.std.specs.Prelude.{ℕ, zero, suc, ◌+◌, List, [], ◌∷◌, ◌++◌, if◌then◌else◌}
use Rattle.kv_types.specs.declared.change.Change.{Change}
use Rattle.model.specs.declared.call.Call.{Call}
use Rattle.model.specs.State.{State, start_state}
use Rattle.model.specs.Call.{changes_of, after_call, is_changing}

-- the changes of a changing call at position 0, and at a later position those of a later call
abbrev pub changes_or : List Change → (ℕ → List Change) → ℕ → List Change
changes_or changes following zero = changes
changes_or changes following (suc p) = following p

abbrev pub changes_at_from : State → List Call → ℕ → List Change
changes_at_from state [] p = []
changes_at_from state (call ∷ calls) p =
    if is_changing state call then changes_or (changes_of state call) (changes_at_from (after_call state call) calls) p
    else changes_at_from (after_call state call) calls p

-- the changes of the call that took the list from position p to the next one
abbrev pub changes_at : List Call → ℕ → List Change
changes_at = changes_at_from start_state

-- the changes of `count` consecutive positions, starting at `p`
abbrev pub changes_since : List Call → ℕ → ℕ → List Change
changes_since calls p zero = []
changes_since calls p (suc count) = changes_at calls p ++ changes_since calls (p + 1) count
