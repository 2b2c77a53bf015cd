-- What a connection has set up: its transaction, and the keys that it watches (the Redis pages of MULTI, EXEC, DISCARD, WATCH and
-- UNWATCH).
use Rattle.std.specs.Prelude.{ℕ, Bool, false, ◌||◌, if◌then◌else◌, List, [], ◌∷◌, ◌++◌, map}
use Rattle.std.specs.List.{list_any}
use Rattle.cmd_core.specs.Contents.{same_bytes}
use Rattle.multi_watch.specs.declared.watch.Watch.{Watch}

pub record Session : Type 0 where
  -- a transaction is open
  pub is_open : Bool
  -- the requests that wait in it, oldest first, each as its words
  pub queue : List (List (List ℕ))
  -- a request in it was refused, so the transaction will not run
  pub is_spoiled : Bool
  -- each watched key, and whether a call has modified it since
  pub watched : List Watch

-- no transaction is open and no key is watched
abbrev pub idle_session : Session
idle_session = record { is_open = false; queue = []; is_spoiled = false; watched = [] }

-- the transaction is over, and the keys are watched still
abbrev pub closed : Session → Session
closed session = record { is_open = false; queue = []; is_spoiled = false; watched = session.watched }

-- ---- the keys that are watched

abbrev pub with_watched : List Watch → Session → Session
with_watched watched session = record session { watched = watched }

abbrev pub is_watched : List ℕ → List Watch → Bool
is_watched key watched = list_any (λ watch. same_bytes watch.key key) watched

-- a key from the moment at which it is watched
abbrev pub unmodified : List ℕ → Watch
unmodified key = record { key = key; is_modified = false }

-- These keys are watched besides, in the order of first naming. One that is watched already stays as it is.
abbrev pub watching : List (List ℕ) → List Watch → List Watch
watching [] watched = watched
watching (key ∷ keys) watched = watching keys (if is_watched key watched then watched else watched ++ unmodified key ∷ [])

abbrev pub marked_where : (List ℕ → Bool) → Watch → Watch
marked_where is_modified watch = record { key = watch.key; is_modified = watch.is_modified || is_modified watch.key }

-- A call has modified the keys that the test tells: the watch of each is marked.
abbrev pub modified_where : (List ℕ → Bool) → Session → Session
modified_where is_modified session = with_watched (map (marked_where is_modified) session.watched) session

abbrev pub marked : List ℕ → Watch → Watch
marked key = marked_where (λ own. same_bytes own key)

-- A call has modified the key: its watch is marked, if there is one.
abbrev pub modified : List ℕ → Session → Session
modified key = modified_where (λ own. same_bytes own key)

-- some watched key was modified
abbrev pub has_modified : Session → Bool
has_modified session = list_any (λ watch. watch.is_modified) session.watched

-- an open transaction will not run
abbrev pub spoiled : Session → Session
spoiled session = record session { is_spoiled = session.is_open || session.is_spoiled }
