-- Which sessions watch which keys, as the table has it.
use Rattle.std.specs.Prelude.{◌≡◌, ◌≢◌, ◌≤◌, ℕ, Bool, ◌&&◌, ◌||◌, not, nat_eq, List, [], length, Option, Some, None}
use Rattle.std.specs.List.{list_any}
use Rattle.std.specs.Global.{Vec}
use Rattle.std.specs.Map.{lookup}
use Rattle.kv_types.specs.declared.limits.TheConstants.{MAX_KEY_BYTES}
use Rattle.cmd_core.specs.Contents.{same_bytes}
use Rattle.multi_watch.specs.declared.watch.Watch.{Watch}
use Rattle.multi_watch.specs.Session.{is_watched}

-- the entries of the table, in any order: for the bytes of each key the numbers of the sessions that watch it
abbrev pub Table : Type 0
Table = List (Vec ℕ × Vec ℕ)

abbrev pub numbers_of : Option (Vec ℕ) → List ℕ
numbers_of None = []
numbers_of (Some numbers) = numbers.items

abbrev pub has_number : ℕ → List ℕ → Bool
has_number number numbers = list_any (λ other. nat_eq other number) numbers

-- what the table has at a key
abbrev pub numbers_at : Table → List ℕ → Option (Vec ℕ)
numbers_at table key = lookup (λ own. same_bytes key own.items) table

-- the session of this number watches the key
abbrev pub watches : Table → List ℕ → ℕ → Bool
watches table key number = has_number number (numbers_of (numbers_at table key))

-- each key of the table is watched by some session, and is as short as a key
abbrev pub EachWatched : Table → Type 0
EachWatched table = (key : List ℕ) (numbers : Vec ℕ) → numbers_at table key ≡ Some numbers → (numbers.items ≢ []) × (length key ≤ MAX_KEY_BYTES)

-- the table says the same
abbrev pub SaysSame : Table → Table → Type 0
SaysSame old new = (key : List ℕ) (number : ℕ) → watches new key number ≡ watches old key number

-- the session of this number watches the added key besides
abbrev pub Adds : Table → List ℕ → ℕ → Table → Type 0
Adds old added session new =
    (key : List ℕ) (number : ℕ) → watches new key number ≡ (watches old key number || (same_bytes added key && nat_eq session number))

-- the session of this number watches the removed key no longer
abbrev pub Removes : Table → List ℕ → ℕ → Table → Type 0
Removes old removed session new =
    (key : List ℕ) (number : ℕ) → watches new key number ≡ (watches old key number && not (same_bytes removed key && nat_eq session number))

-- the same of each of these keys
abbrev pub AddsAll : Table → List Watch → ℕ → Table → Type 0
AddsAll old watched session new =
    (key : List ℕ) (number : ℕ) → watches new key number ≡ (watches old key number || (is_watched key watched && nat_eq session number))

abbrev pub RemovesAll : Table → List Watch → ℕ → Table → Type 0
RemovesAll old watched session new =
    (key : List ℕ) (number : ℕ) → watches new key number ≡ (watches old key number && not (is_watched key watched && nat_eq session number))
