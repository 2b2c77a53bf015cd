-- What a connection is told, and what a visit of it does, where both marks were seen so far.
use Rattle.std.specs.Prelude.{◌≡◌, ◌⊎◌, true}
use Rattle.kv_types.specs.declared.seen.Seen.{Seen}
use Rattle.mio.specs.declared.event.event.Event.{Event}
use Rattle.mio.specs.Event.{is_readable, is_writable}
use Rattle.clients.specs.declared.driven.DrivenConnection.{DrivenConnection}
use Rattle.clients.specs.declared.reply_side.ReplySide.{ReplySide}
use Rattle.clients.specs.declared.reply_side.WritingState.TheVariants as writing
use Rattle.clients.specs.declared.request_side.ReadingState.TheVariants as reading
use Rattle.clients.specs.declared.request_side.RequestSide.{RequestSide}
use Rattle.clients.specs.ReplySide.{IsVisited, StaysWritten}
use Rattle.clients.specs.RequestSide.{Asks, StaysRead}

-- it goes on with that for which its socket is ready, as the poll reports
abbrev pub Hears : Event → DrivenConnection → Type 0
Hears event connection =
    (is_readable event ≡ true → connection.requests.is_ready ≡ true) × (is_writable event ≡ true → connection.replies.is_ready ≡ true)

-- Between two visits a connection stays at its place with what it owes, and one that is noted stays noted.
pub record StaysAt (before after : DrivenConnection) : Type 0 where
  pub place : after.place ≡ before.place
  pub requests : StaysRead before.requests after.requests
  pub replies : StaysWritten before.replies after.replies
  pub noted : before.is_noted ≡ true → after.is_noted ≡ true

-- One turn of reading and one of writing. The requests end only where that turn of reading came to their end or broke off, or all replies are written.
pub record IsVisit (seen : Seen) (requests requests' : RequestSide) (replies replies' : ReplySide) : Type 0 where
  pub asks : Asks requests requests'
  pub ends : requests.state ≡ reading.Open → (requests'.state ≡ reading.Open → ⊥)
      → (requests'.reader.is_done ≡ true) ⊎ (replies'.state ≡ writing.Over)
  pub writes : IsVisited seen replies replies'
