-- The keys that changes modify, marked in the sessions that watch them.
use Rattle.std.specs.Prelude.{◌≡◌, ℕ, ◌&&◌, true, List}
use Rattle.std.specs.List.{list_any}
use Rattle.std.specs.Option.{option_map}
use Rattle.kv_types.specs.declared.change.Change.{Change}
use Rattle.kv_types.specs.Keyspace.{Keyspace}
use Rattle.cmd_core.specs.Contents.{same_bytes, has_key}
use Rattle.multi_watch.specs.Session.{is_watched, modified_where}
use Rattle.multi_watch.specs.Modified.{is_clear, modifies}
use Rattle.multi_watch.specs.Sessions.{Sessions, slot, session_at}

-- In the session of every seat, these changes of a keyspace are marked.
abbrev pub Marks : Keyspace → List Change → Sessions → Sessions → Type 0
Marks s changes old new = (seat : ℕ) → slot new seat ≡ option_map (modified_where (modifies s changes)) (slot old seat)

-- Of the keys that somebody watches, these are the ones that the changes clear away with the keyspace.
abbrev pub AreCleared : Keyspace → List Change → Sessions → List (List ℕ) → Type 0
AreCleared s changes sessions keys = (seat : ℕ) (own : List ℕ) → is_watched own (session_at sessions seat).watched ≡ true
    → list_any (λ key. same_bytes own key) keys ≡ (list_any is_clear changes && has_key s own)
