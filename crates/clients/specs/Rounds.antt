-- What a round of writing does, where both marks were seen so far.
use Rattle.std.specs.Prelude.{◌≡◌, ◌<◌, ◌⊎◌, ℕ, List, [], ◌++◌, length, take, drop, Option, option_to_list}
use Rattle.kv_types.specs.declared.reply.Held.{Held as Answer}
use Rattle.kv_types.specs.declared.seen.Seen.{Seen}
use Rattle.reply_gate.specs.declared.held_text.HeldText.{HeldText}
use Rattle.reply_gate.specs.Gate.{Held, covered_bytes, uncovered_rest}
use Rattle.clients.specs.declared.writing.Round.{Round}
use Rattle.clients.specs.declared.writing.Round.TheVariants.{Idle, Busy, Blocked, Last}
use Rattle.clients.specs.Texts.{texts_of, held_texts, unsent, Sends}

-- the replies that a gate holds once these were taken, and their texts
abbrev pub replies_with : Held → List Answer → List HeldText
replies_with gate more = gate.replies ++ held_texts more

abbrev pub waiting_with : Held → List Answer → List ℕ
waiting_with gate more = gate.waiting ++ texts_of more

-- how many bytes the longest prefix of these replies has that both marks cover
abbrev pub covered_with : Seen → Held → List Answer → ℕ
covered_with seen gate more = covered_bytes seen (replies_with gate more)

-- the bytes that may go out then: those that were released before, and the texts of that prefix
abbrev pub released_with : Seen → Held → List Answer → List ℕ
released_with seen gate more = gate.pending ++ take (covered_with seen gate more) (waiting_with gate more)

-- Replies were taken and held. Of the bytes that may go out the first were written, and the others are pending. Exactly the replies after the
-- prefix that both marks cover are still held, with their positions.
pub record Releases (seen : Seen) (taken taken' : List Answer) (contents contents' : Option (List ℕ)) (gate gate' : Held) : Type 0 where
  pub more : List Answer
  pub takes : taken' ≡ taken ++ more
  pub sends : Sends contents contents' (released_with seen gate more) gate'.pending
  pub waiting : gate'.waiting ≡ drop (covered_with seen gate more) (waiting_with gate more)
  pub replies : gate'.replies ≡ uncovered_rest seen (replies_with gate more)

-- Nothing was taken and nothing released: of the bytes that were pending the first were written.
pub record SendsOn (taken taken' : List Answer) (contents contents' : Option (List ℕ)) (gate gate' : Held) : Type 0 where
  pub takes : taken' ≡ taken
  pub sends : Sends contents contents' gate.pending gate'.pending
  pub waiting : gate'.waiting ≡ gate.waiting
  pub replies : gate'.replies ≡ gate.replies

-- By what the round came to. Where the writer takes no more, some of what may go out is left; otherwise all of it is written.
abbrev pub Rounds : Seen → Round → List Answer → List Answer → Option (List ℕ) → Option (List ℕ) → Held → Held → Type 0
Rounds seen Blocked taken taken' contents contents' gate gate' =
    (0 < length gate'.pending) × (SendsOn taken taken' contents contents' gate gate' ⊎ Releases seen taken taken' contents contents' gate gate')
Rounds seen Idle taken taken' contents contents' gate gate' = (gate'.pending ≡ []) × Releases seen taken taken' contents contents' gate gate'
Rounds seen Busy taken taken' contents contents' gate gate' = (gate'.pending ≡ []) × Releases seen taken taken' contents contents' gate gate'
Rounds seen Last taken taken' contents contents' gate gate' = (unsent gate' ≡ []) × Releases seen taken taken' contents contents' gate gate'

-- A round that failed: what was written is a front of the bytes that may go out where no more were taken than were, of which at most the last
-- was not held.
pub record BreaksOff (seen : Seen) (taken taken' : List Answer) (contents contents' : Option (List ℕ)) (gate : Held) : Type 0 where
  pub more : List Answer
  pub lost : Option Answer
  pub takes : taken' ≡ taken ++ (more ++ option_to_list lost)
  pub left : List ℕ
  pub sends : Sends contents contents' (released_with seen gate more) left
