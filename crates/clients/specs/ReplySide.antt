-- What a turn of writing does with the replies of a connection, where both marks were seen so far. What a socket takes is not known.
use Rattle.std.specs.Prelude.{◌≡◌, ◌<◌, ◌⊎◌, Bool, true, false, List, [], length, None, Result, Ok, Err}
use Rattle.kv_types.specs.declared.reply.Held.{Held as Answer}
use Rattle.kv_types.specs.declared.seen.Seen.{Seen}
use Rattle.pipes.specs.Ring.{taken_at}
use Rattle.reply_gate.specs.Gate.{Held}
use Rattle.clients.specs.declared.writing.Round.{Round}
use Rattle.clients.specs.declared.writing.Round.TheVariants as round
use Rattle.clients.specs.declared.reply_side.ReplySide.{ReplySide}
use Rattle.clients.specs.declared.reply_side.WritingState.{WritingState}
use Rattle.clients.specs.declared.reply_side.WritingState.TheVariants as state
use Rattle.clients.specs.declared.reply_side.Written.{Written}
use Rattle.clients.specs.declared.reply_side.Written.TheVariants as written
use Rattle.clients.specs.Texts.{unsent}
use Rattle.clients.specs.Rounds.{Releases, SendsOn, BreaksOff}

-- By the round that came of it, and whether the socket could take bytes before and may then: what the turn says.
abbrev pub Says : {E : Type 0} → Result Round E → Bool → Bool → Written → Type 0
Says (Ok round.Idle) was_ready is_ready said = (said ≡ written.Waits) × (is_ready ≡ was_ready)
Says (Ok round.Busy) was_ready is_ready said = (said ≡ written.Busy) × (is_ready ≡ was_ready)
Says (Ok round.Blocked) was_ready is_ready said = (said ≡ written.Waits) × (is_ready ≡ false)
Says (Ok round.Last) was_ready is_ready said = (said ≡ written.Ends) × (is_ready ≡ was_ready)
Says (Err error) was_ready is_ready said = (said ≡ written.Fails) × (is_ready ≡ was_ready)

-- By what the turn says: how far the writing is then. Nobody else has replies let go.
abbrev pub Stands : Written → WritingState → WritingState → Type 0
Stands written.Waits before after = after ≡ before
Stands written.Busy before after = after ≡ before
Stands written.Fails before after = after ≡ state.Failed
Stands written.Ends before after = after ≡ state.Over

-- By what the turn says, and whether the socket may take bytes then. While it may, all that may go out is written.
abbrev pub Wrote : Seen → Written → Bool → List Answer → List Answer → Held → Held → Type 0
Wrote seen written.Waits true taken taken' gate gate' = (gate'.pending ≡ []) × Releases seen taken taken' None None gate gate'
Wrote seen written.Waits false taken taken' gate gate' = SendsOn taken taken' None None gate gate' ⊎ Releases seen taken taken' None None gate gate'
Wrote seen written.Busy is_ready taken taken' gate gate' = (gate'.pending ≡ []) × Releases seen taken taken' None None gate gate'
Wrote seen written.Ends is_ready taken taken' gate gate' = (unsent gate' ≡ []) × Releases seen taken taken' None None gate gate'
Wrote seen written.Fails is_ready taken taken' gate gate' = BreaksOff seen taken taken' None None gate

abbrev pub Writes : Seen → Written → ReplySide → ReplySide → Type 0
Writes seen said side side' = Wrote seen said side'.is_ready (taken_at side.replies) (taken_at side'.replies) side.outbox.gate side'.outbox.gate

-- By how far the writing was. Only a socket that did not take all that may go out is not ready then: it is reported once it takes more.
pub record GoesOn (seen : Seen) (said : Written) (side side' : ReplySide) : Type 0 where
  pub writes : side.state ≡ state.Open → side.is_ready ≡ true → Writes seen said side side'
  pub waits : side.state ≡ state.Open → side.is_ready ≡ false → (said ≡ written.Waits) × (side' ≡ side)
  pub failed : side.state ≡ state.Failed → side'.outbox ≡ side.outbox
  pub over : side.state ≡ state.Over → (said ≡ written.Waits) × (side' ≡ side)
  pub stands : Stands said side.state side'.state
  pub ready : side.is_ready ≡ true → side'.is_ready ≡ false → 0 < length side'.outbox.gate.pending

-- A turn of writing.
pub record IsVisited (seen : Seen) (side side' : ReplySide) : Type 0 where
  pub said : Written
  pub goes_on : GoesOn seen said side side'

-- Between two turns: nothing is taken and nothing released, and a socket that may take bytes still may.
pub record StaysWritten (side side' : ReplySide) : Type 0 where
  pub outbox : side'.outbox ≡ side.outbox
  pub replies : side'.replies ≡ side.replies
  pub state : side'.state ≡ side.state
  pub ready : side.is_ready ≡ true → side'.is_ready ≡ true
