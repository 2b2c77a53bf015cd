-- What a session goes through: requests of its own connection, and keys that calls modify.
use Rattle.std.specs.Prelude.{ℕ, List, [], ◌∷◌, IsTrue}
use Rattle.multi_watch.specs.Session.{Session, is_watched, modified}
use Rattle.multi_watch.specs.Admission.{session_after_request}

pub data Event : Type 0 where
  Asks : (words : List (List ℕ)) → Event
  Modifies : (key : List ℕ) → Event

abbrev pub after_event : Session → Event → Session
after_event session (Asks words) = session_after_request session words
after_event session (Modifies key) = modified key session

abbrev pub after_events : Session → List Event → Session
after_events session [] = session
after_events session (event ∷ events) = after_events (after_event session event) events

-- the session watches the key now, and after each of the events
abbrev pub WatchesThrough : List ℕ → Session → List Event → Type 0
WatchesThrough key session [] = IsTrue (is_watched key session.watched)
WatchesThrough key session (event ∷ events) = IsTrue (is_watched key session.watched) × WatchesThrough key (after_event session event) events
