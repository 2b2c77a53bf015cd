-- Lists of places, one place after another.
use Rattle.std.proofs.Common.{◌≡◌, ℕ, zero, suc, ◌<◌, ◌≤◌, ◌++◌, inl, inr, All, List, [], ◌∷◌, length, Option, Some, None, slice_index_or, slice_set, refl, sym, ap, subst, ◌∙◌, arith}
use Rattle.std.proofs.lemmas.List.{get_or-set_same, get_or-set_other}
use Rattle.std.proofs.lemmas.Bool.Decides.{eqb_tells}
use Rattle.std.proofs.lemmas.List.{append_assoc}
use Rattle.std.proofs.lemmas.List.Elements.{All-append}
use Rattle.mio.specs.declared.event.event.Event.{Event}
use Rattle.mio.specs.Event.{event_token}
use Rattle.clients.specs.declared.driven.DrivenConnection.{DrivenConnection}
use Rattle.clients.specs.Driven.{StaysAt}
use Rattle.clients.specs.Places.{IsHeardAs, IsHeardIn, IsNoted, Notes, NotesPlace, connection_at}
use Rattle.clients.proofs.ReplyLemmas.{stays_written-same, stays_written-join}
use Rattle.clients.proofs.RequestLemmas.{stays_read-same, stays_read-join}

abbrev pub Place : Type 0
Place = Option DrivenConnection

-- The places below the index are done, and the others as they were.
pub record Along (R : Place → Place → Type 0) (index : ℕ) (before now : List Place) : Type 0 where
  pub done : (k : ℕ) → k < index → R (connection_at before k) (connection_at now k)
  pub left : (k : ℕ) → index ≤ k → connection_at now k ≡ connection_at before k

pub noted-stays : (before after : Place) → IsNoted before → NotesPlace before after → IsNoted after
noted-stays None after noted notes = notes
noted-stays (Some before) None noted notes = absurd notes
noted-stays (Some before) (Some after) noted notes = notes.noted noted

pub stays_at-same : (connection : DrivenConnection) → StaysAt connection connection
stays_at-same connection = record {
  place = refl;
  requests = stays_read-same connection.requests;
  replies = stays_written-same connection.replies;
  noted = λ noted. noted;
}

pub stays_at-join : (first second third : DrivenConnection) → StaysAt first second → StaysAt second third → StaysAt first third
stays_at-join first second third stays then = record {
  place = then.place ∙ stays.place;
  requests = stays_read-join first.requests second.requests third.requests stays.requests then.requests;
  replies = stays_written-join first.replies second.replies third.replies stays.replies then.replies;
  noted = λ noted. then.noted (stays.noted noted);
}

pub notes-join : (first second third : Place) → NotesPlace first second → NotesPlace second third → NotesPlace first third
notes-join None second third notes then = noted-stays second third notes then
notes-join (Some first) None third notes then = absurd notes
notes-join (Some first) (Some second) None notes then = absurd then
notes-join (Some first) (Some second) (Some third) notes then = stays_at-join first second third notes then

pub notes-same : (place : Place) → NotesPlace place place
notes-same None = cc
notes-same (Some place) = stays_at-same place

pub notes-all : (first second third : List Place) → Notes first second → Notes second third → Notes first third
notes-all first second third notes then = λ k. notes-join (connection_at first k) (connection_at second k) (connection_at third k) (notes k) (then k)

-- a place is changed, and the others are as they were
pub notes-set : (before now : List Place) (index : ℕ) (new : Place) → ((k : ℕ) → connection_at now k ≡ connection_at before k) → index < length now
    → NotesPlace (connection_at now index) new → Notes before (slice_set now index new)
notes-set before now index new same lt here = λ k. elim (eqb_tells k index) [
  | inl is ↦ subst (λ (j : ℕ). NotesPlace (connection_at before j) (connection_at (slice_set now index new) j)) (sym is.1)
      (subst (λ (after : Place). NotesPlace (connection_at before index) after) (sym (get_or-set_same now index new None lt))
      (subst (λ (was : Place). NotesPlace was new) (same index) here))
  | inr isnt ↦ subst (λ (after : Place). NotesPlace (connection_at before k) after) (sym (get_or-set_other now index k new None isnt.1 ∙ same k))
      (notes-same (connection_at before k))
]

-- who is told of an event stays told
pub heard-later : (event : Event) (start now later : Place) → IsHeardAs event start now → NotesPlace now later → IsHeardAs event start later
heard-later event None now later heard notes = noted-stays now later heard notes
heard-later event (Some start) None later heard notes = absurd heard
heard-later event (Some start) (Some now) None heard notes = absurd notes
heard-later event (Some start) (Some now) (Some later) heard notes =
    (notes.noted heard.0, (λ is. notes.requests.ready (heard.1.0 is), λ is. notes.replies.ready (heard.1.1 is)))

pub heard-earlier : (event : Event) (start now later : Place) → NotesPlace start now → IsHeardAs event now later → IsHeardAs event start later
heard-earlier event None None later notes heard = heard
heard-earlier event None (Some now) None notes heard = absurd heard
heard-earlier event None (Some now) (Some later) notes heard = heard.0
heard-earlier event (Some start) None later notes heard = absurd notes
heard-earlier event (Some start) (Some now) None notes heard = heard
heard-earlier event (Some start) (Some now) (Some later) notes heard = heard

pub heard-all : (events : List Event) (start now later : List Place) → All (λ event. IsHeardIn event start now) events → Notes now later
    → All (λ event. IsHeardIn event start later) events
heard-all events start now later heard notes = λ k none lt. let event = slice_index_or events k none in heard-later event _ _ _ (heard k none lt) (notes (event_token event).0)

-- Of all events the first were heeded: who was at their places is told.
pub record Heeds (start places : List Place) (all rest : List Event) : Type 0 where
  pub first : List Event
  pub are : all ≡ first ++ rest
  pub ready : All (λ event. IsHeardIn event start places) first

pub heeds-next : (start places places' : List Place) (all rest rest' : List Event) (event : Event) → rest ≡ event ∷ rest' → Heeds start places all rest
    → Notes start places → Notes places places' → IsHeardIn event places places' → Heeds start places' all rest'
heeds-next start places places' all rest rest' event is heeds before notes here = record {
  first = heeds.first ++ event ∷ [];
  are = heeds.are ∙ ap (λ (more : List Event). heeds.first ++ more) is ∙ sym (append_assoc heeds.first (event ∷ []) rest');
  ready = All-append (λ (event : Event). IsHeardIn event start places') heeds.first (event ∷ [])
      (heard-all heeds.first start places places' heeds.ready notes)
      (only event (heard-earlier event _ _ _ (before _) here));
}
  where
    only : (event : Event) → IsHeardIn event start places' → All (λ event. IsHeardIn event start places') (event ∷ [])
    only event here zero d lt = here
    only event here (suc k) d lt = absurd (omega (arith, lt))
