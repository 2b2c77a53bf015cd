-- The connections of a driver, each at its place, and what a round of the driver does with them.
use Rattle.std.specs.Prelude.{◌≡◌, ℕ, Bool, true, false, List, All, Option, Some, None, IfSome, slice_index_or}
use Rattle.kv_types.specs.declared.seen.Seen.{Seen}
use Rattle.marks.specs.declared.view.MarkView.{MarkView}
use Rattle.mio.specs.declared.event.event.Event.{Event}
use Rattle.mio.specs.Event.{event_token}
use Rattle.mio.specs.Events.{items as events_in}
use Rattle.clients.specs.declared.driven.DrivenConnection.{DrivenConnection}
use Rattle.clients.specs.declared.driven_connections.DrivenConnections.{DrivenConnections}
use Rattle.clients.specs.declared.reply_side.ReplySide.{ReplySide}
use Rattle.clients.specs.declared.reply_side.WritingState.TheVariants as writing
use Rattle.clients.specs.declared.request_side.ReadingState.TheVariants as reading
use Rattle.clients.specs.declared.request_side.RequestSide.{RequestSide}
use Rattle.clients.specs.Driven.{Hears, IsVisit, StaysAt}

-- who is at a place
abbrev pub connection_at : List (Option DrivenConnection) → ℕ → Option DrivenConnection
connection_at places k = slice_index_or places k None

-- Somebody called to this place, or its socket is ready: who is there is visited next.
abbrev pub IsNoted : Option DrivenConnection → Type 0
IsNoted place = IfSome place (λ connection. connection.is_noted ≡ true)

abbrev pub IsNotedAt : List (Option DrivenConnection) → ℕ → Type 0
IsNotedAt places k = IsNoted (connection_at places k)

-- Who is at a place stays there, and who comes is noted.
abbrev pub NotesPlace : Option DrivenConnection → Option DrivenConnection → Type 0
NotesPlace None after = IsNoted after
NotesPlace (Some before) None = ⊥
NotesPlace (Some before) (Some after) = StaysAt before after

-- The socket of who is there is ready, as the poll reports: it is noted, and goes on with that for which it is ready. It may be gone, and another come.
abbrev pub IsHeardAs : Event → Option DrivenConnection → Option DrivenConnection → Type 0
IsHeardAs event None after = IsNoted after
IsHeardAs event (Some before) None = ⊥
IsHeardAs event (Some before) (Some after) = (after.is_noted ≡ true) × Hears event after

abbrev pub IsHeardIn : Event → List (Option DrivenConnection) → List (Option DrivenConnection) → Type 0
IsHeardIn event places places' = IsHeardAs event (connection_at places ((event_token event).0)) (connection_at places' ((event_token event).0))

-- One visit. Only who reads nothing more and has written all replies has left then.
abbrev pub IsVisitOf : Seen → DrivenConnection → Option DrivenConnection → Type 0
IsVisitOf seen before None = (requests : RequestSide) × (replies : ReplySide) × IsVisit seen before.requests requests before.replies replies
    × (requests.state ≡ reading.Over) × (replies.state ≡ writing.Over)
IsVisitOf seen before (Some after) = (after.place ≡ before.place) × IsVisit seen before.requests after.requests before.replies after.replies

-- Who is noted is visited, and nobody else.
abbrev pub VisitsNoted : Bool → Seen → DrivenConnection → Option DrivenConnection → Type 0
VisitsNoted true seen before after = IsVisitOf seen before after
VisitsNoted false seen before after = after ≡ Some before

abbrev pub VisitsPlace : Seen → Option DrivenConnection → Option DrivenConnection → Type 0
VisitsPlace seen None after = after ≡ None
VisitsPlace seen (Some before) after = VisitsNoted before.is_noted seen before after

-- at each place
abbrev pub Notes : List (Option DrivenConnection) → List (Option DrivenConnection) → Type 0
Notes places places' = (k : ℕ) → NotesPlace (connection_at places k) (connection_at places' k)

abbrev pub Visits : Seen → List (Option DrivenConnection) → List (Option DrivenConnection) → Type 0
Visits seen places places' = (k : ℕ) → VisitsPlace seen (connection_at places k) (connection_at places' k)

-- nobody has more to do at once
abbrev pub IsQuiet : Option DrivenConnection → Type 0
IsQuiet place = IfSome place (λ connection. connection.is_noted ≡ false)

-- both marks, as a seat knows them
abbrev pub seen_by : MarkView → Seen
seen_by view = record { local = view.local; remote = view.remote }

-- A round: all whose sockets are ready are noted beside those that were, and told for what they are, and then each that is noted is visited once, by the marks
-- as the driver's seat knows them at the end of the round.
pub record IsRound (before after : DrivenConnections) (known : MarkView) : Type 0 where
  pub between : List (Option DrivenConnection)
  pub notes : Notes before.places.items between
  pub ready : All (λ event. IsHeardIn event before.places.items between) (events_in before.events)
  pub visits : Visits (seen_by known) between after.places.items
  pub busy : after.is_busy ≡ false → (k : ℕ) → IsQuiet (connection_at after.places.items k)
