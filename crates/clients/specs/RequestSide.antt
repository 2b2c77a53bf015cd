-- What a turn of reading does with the requests of a connection. What a socket gives is not known.
use Rattle.std.specs.Prelude.{◌≡◌, true}
use Rattle.pipes.specs.Ring.{offered_at}
use Rattle.clients.specs.declared.request_side.RequestSide.{RequestSide}
use Rattle.clients.specs.declared.request_side.ReadingState.TheVariants as state
use Rattle.clients.specs.Reader.{OffersFor}

-- Some bytes were read and some items offered: whatever comes later, they are the first of those that are owed for these bytes, and the others are still owed.
abbrev pub ReadsOn : RequestSide → RequestSide → Type 0
ReadsOn side side' = OffersFor side.reader side'.reader (offered_at side.items) (offered_at side'.items)

-- By how far the reading was: of one that went on, also where this was its last turn, and of one whose last item was offered, to which nothing is added.
pub record Asks (side side' : RequestSide) : Type 0 where
  pub goes_on : side.state ≡ state.Open → ReadsOn side side'
  pub over : (side.state ≡ state.Open → ⊥) → offered_at side'.items ≡ offered_at side.items
  pub was_open : side'.state ≡ state.Open → side.state ≡ state.Open

-- Nothing is read and nothing offered.
pub record KeepsRequests (side side' : RequestSide) : Type 0 where
  pub reader : side'.reader ≡ side.reader
  pub items : side'.items ≡ side.items
  pub was_open : side'.state ≡ state.Open → side.state ≡ state.Open

-- Between two turns: who goes on still does, and what may be read still may.
pub record StaysRead (side side' : RequestSide) : Type 0 where
  pub keeps : KeepsRequests side side'
  pub stays : side.state ≡ state.Open → side'.state ≡ state.Open
  pub ready : side.is_ready ≡ true → side'.is_ready ≡ true
