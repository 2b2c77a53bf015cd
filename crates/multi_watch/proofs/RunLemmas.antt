-- A mark stays for as long as its key is watched, and a marked session runs no transaction.
use Rattle.std.proofs.Common.{◌≡◌, ◌≢◌, ℕ, Bool, true, false, cond, ◌&&◌, List, [], ◌∷◌, ◌++◌, map, drop, sym, ◌∙◌, arith}
use Rattle.std.specs.List.{list_any}
use Rattle.std.proofs.lemmas.Bool.{or_left}
use Rattle.std.proofs.lemmas.List.Folds.{list_any-append}
use Rattle.cmd_core.specs.Contents.{same_bytes}
use Rattle.multi_watch.specs.declared.verb.Verb.{Verb}
use Rattle.multi_watch.specs.declared.watch.Watch.{Watch}
use Rattle.multi_watch.specs.Session.{Session, is_watched, unmodified, watching, marked, modified}
use Rattle.multi_watch.specs.Verb.{verb_of}
use Rattle.multi_watch.specs.Admission.{Step, RunAll, step_of, admit}
use Rattle.multi_watch.proofs.SessionsLemmas.{same_keys}
use Rattle.multi_watch.specs.Run.{Event, Asks, Modifies, after_event, after_events, WatchesThrough}

-- some watch of the key is marked
abbrev has_mark : List ℕ → List Watch → Bool
has_mark key watched = list_any (λ watch. watch.is_modified && same_bytes watch.key key) watched

now_marked : (key : List ℕ) (watched : List Watch) → is_watched key watched ≡ true → has_mark key (map (marked key) watched) ≡ true
now_marked key [] is = is
now_marked key (watch ∷ watched) is = grind (arith, now_marked key watched)

still_marked : (key other : List ℕ) (watched : List Watch) → has_mark key watched ≡ true → has_mark key (map (marked other) watched) ≡ true
still_marked key other [] is = is
still_marked key other (watch ∷ watched) is = grind (arith, still_marked key other watched)

marked_beside : (key : List ℕ) (known : Bool) (other : List ℕ) (watched : List Watch) → has_mark key watched ≡ true
    → has_mark key (cond known watched (watched ++ unmodified other ∷ [])) ≡ true
marked_beside key true other watched is = is
marked_beside key false other watched is = list_any-append (λ watch. watch.is_modified && same_bytes watch.key key) watched (unmodified other ∷ []) ∙ or_left (has_mark key watched) _ is

marked_watching : (key : List ℕ) (keys : List (List ℕ)) (watched : List Watch) → has_mark key watched ≡ true → has_mark key (watching keys watched) ≡ true
marked_watching key [] watched is = is
marked_watching key (other ∷ keys) watched is =
    marked_watching key keys (cond (is_watched other watched) watched (watched ++ unmodified other ∷ [])) (marked_beside key (is_watched other watched) other watched is)

has_some : (key : List ℕ) (watched : List Watch) → has_mark key watched ≡ true → list_any (λ watch. watch.is_modified) watched ≡ true
has_some key [] is = is
has_some key (watch ∷ watched) is = grind (arith, has_some key watched)

-- ---- one request

-- after the step the mark is there still, where the key is watched still
abbrev Keeps : List ℕ → Step → Type 0
Keeps key taken = is_watched key taken.session.watched ≡ true → has_mark key taken.session.watched ≡ true

-- the step runs no transaction
abbrev RunsNone : Step → Type 0
RunsNone taken = (requests : List (List (List ℕ))) → taken.admission ≢ RunAll requests

module _ (key : List ℕ) (words : List (List ℕ)) (s : Session) (is : has_mark key s.watched ≡ true) where
  keeps : (v : Verb) → Keeps key (step_of v words s)
  keeps v watched = grind (arith, marked_watching key (drop 1 words) s.watched is, is)

  runs_none : (v : Verb) → RunsNone (step_of v words s)
  runs_none v requests ran = grind (arith, has_some key s.watched is)

-- ---- all that follows

watched_now : (key : List ℕ) (session : Session) (events : List Event) → WatchesThrough key session events → is_watched key session.watched ≡ true
watched_now key session [] watches = watches
watched_now key session (event ∷ events) watches = watches.0

marked_after : (key : List ℕ) (session : Session) (event : Event) → has_mark key session.watched ≡ true → is_watched key (after_event session event).watched ≡ true
    → has_mark key (after_event session event).watched ≡ true
marked_after key session (Asks words) is watched = keeps key words session is (verb_of words) watched
marked_after key session (Modifies other) is watched = still_marked key other session.watched is

marked_through : (key : List ℕ) (session : Session) (events : List Event) → has_mark key session.watched ≡ true → WatchesThrough key session events
    → has_mark key (after_events session events).watched ≡ true
marked_through key session [] is watches = is
marked_through key session (event ∷ events) is watches =
    marked_through key (after_event session event) events (marked_after key session event is (watched_now key (after_event session event) events watches.1)) watches.1

pub modified_stops : (key : List ℕ) (session : Session) (events : List Event) (words : List (List ℕ)) (requests : List (List (List ℕ)))
    → WatchesThrough key (modified key session) events → admit (after_events (modified key session) events) words ≢ RunAll requests
modified_stops key session events words requests watches =
    let watched : is_watched key session.watched ≡ true = sym (same_keys key key session.watched) ∙ watched_now key (modified key session) events watches in
    let is = marked_through key (modified key session) events (now_marked key session.watched watched) watches in
    runs_none key words (after_events (modified key session) events) is (verb_of words) requests
