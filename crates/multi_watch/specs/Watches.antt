-- The watched keys of one session, as the code has them: a table from the bytes of each key to whether it was modified.
use Rattle.std.specs.Prelude.{ℕ, Bool, ◌≤◌, List, length, map}
use Rattle.std.specs.List.{AllByRecursion, list_any}
use Rattle.std.specs.Global.{Vec}
use Rattle.kv_types.specs.declared.limits.TheConstants.{MAX_KEY_BYTES}
use Rattle.cmd_core.specs.Contents.{same_bytes}
use Rattle.multi_watch.specs.declared.watch.Watch.{Watch}

-- the entries of the table, in the order of first naming
abbrev pub Marks : Type 0
Marks = List (Vec ℕ × Bool)

abbrev pub keys_of : Marks → List (Vec ℕ)
keys_of marks = map (λ mark. mark.0) marks

abbrev pub watch_of : Vec ℕ × Bool → Watch
watch_of mark = record { key = mark.0.items; is_modified = mark.1 }

abbrev pub watches_of : Marks → List Watch
watches_of marks = map watch_of marks

-- each is as short as a key
abbrev pub AreShort : List (Vec ℕ) → Type 0
AreShort keys = AllByRecursion (λ key. length key.items ≤ MAX_KEY_BYTES) keys

-- a key is one of these
abbrev pub is_key_in : List ℕ → List (Vec ℕ) → Bool
is_key_in own keys = list_any (λ key. same_bytes key.items own) keys
