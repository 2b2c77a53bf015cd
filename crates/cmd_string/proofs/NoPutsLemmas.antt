-- The commands that put nothing: one lemma for each.
use Rattle.std.proofs.Common.{◌≡◌, ℕ, ◌==◌, List, [], ◌∷◌, length, Option, Some, None, Bool, true, false, if◌then◌else◌, map, pos, refl}
use Rattle.kv_types.specs.declared.change.Change.TheVariants.{DropKey, Clear}
use Rattle.kv_types.specs.Keyspace.{Keyspace}
use Rattle.cmd_core.specs.Contents.{string_at, keys_of}
use Rattle.cmd_core.specs.Outcome.{Integer, Bulk, reads}
use Rattle.cmd_core.specs.Puts.{put_sizes}
use Rattle.cmd_core.proofs.PutsLemmas.{PutsNothing, on_ok-nothing}
use Rattle.cmd_string.specs.Connection.{ping, echo, quit}
use Rattle.cmd_string.specs.Keys.{removed, del, exists, type_of, dbsize, flushdb}
use Rattle.cmd_string.specs.Strings.{bytes_of, get, taken, getdel, strlen, mget}

-- ---- no key

pub ping-puts : (words : List (List ℕ)) → PutsNothing (ping words)
ping-puts [] = refl
ping-puts (text ∷ []) = refl
ping-puts (text ∷ more ∷ words) = refl

pub echo-puts : (words : List (List ℕ)) → PutsNothing (echo words)
echo-puts [] = refl
echo-puts (text ∷ []) = refl
echo-puts (text ∷ more ∷ words) = refl

pub quit-puts : (words : List (List ℕ)) → PutsNothing (quit words)
quit-puts words = refl

-- ---- strings

pub get-puts : (s : Keyspace) (words : List (List ℕ)) → PutsNothing (get s words)
get-puts s [] = refl
get-puts s (key ∷ []) = on_ok-nothing (string_at s key) (λ value. reads (Bulk value)) (λ value. refl)
get-puts s (key ∷ more ∷ words) = refl

taken-puts : (key : List ℕ) (value : Option (List ℕ)) → PutsNothing (taken key value)
taken-puts key None = refl
taken-puts key (Some value) = refl

pub getdel-puts : (s : Keyspace) (words : List (List ℕ)) → PutsNothing (getdel s words)
getdel-puts s [] = refl
getdel-puts s (key ∷ []) = on_ok-nothing (string_at s key) (λ value. taken key value) (λ value. taken-puts key value)
getdel-puts s (key ∷ more ∷ words) = refl

pub strlen-puts : (s : Keyspace) (words : List (List ℕ)) → PutsNothing (strlen s words)
strlen-puts s [] = refl
strlen-puts s (key ∷ []) = on_ok-nothing (string_at s key) (λ value. reads (Integer (pos (length (bytes_of value))))) (λ value. refl)
strlen-puts s (key ∷ more ∷ words) = refl

pub mget-puts : (s : Keyspace) (words : List (List ℕ)) → PutsNothing (mget s words)
mget-puts s words = refl

-- ---- keys, whatever they hold

drops-put : (keys : List (List ℕ)) → put_sizes (map DropKey keys) ≡ []
drops-put [] = refl
drops-put (key ∷ keys) = drops-put keys

pub del-puts : (s : Keyspace) (words : List (List ℕ)) → PutsNothing (del s words)
del-puts s words = drops-put (removed s words)

pub exists-puts : (s : Keyspace) (words : List (List ℕ)) → PutsNothing (exists s words)
exists-puts s words = refl

pub type_of-puts : (s : Keyspace) (words : List (List ℕ)) → PutsNothing (type_of s words)
type_of-puts s [] = refl
type_of-puts s (key ∷ []) = refl
type_of-puts s (key ∷ more ∷ words) = refl

pub dbsize-puts : (s : Keyspace) (words : List (List ℕ)) → PutsNothing (dbsize s words)
dbsize-puts s [] = refl
dbsize-puts s (word ∷ words) = refl

cleared-puts : (is_empty : Bool) → put_sizes (if is_empty then [] else Clear ∷ []) ≡ []
cleared-puts true = refl
cleared-puts false = refl

pub flushdb-puts : (s : Keyspace) (words : List (List ℕ)) → PutsNothing (flushdb s words)
flushdb-puts s [] = cleared-puts (length (keys_of s) == 0)
flushdb-puts s (word ∷ words) = refl
