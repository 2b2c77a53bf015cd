-- Replies as bytes, how they go from a ring to a writer, and what is kept of a gate.
use Rattle.std.specs.Prelude.{◌≡◌, ◌≤◌, ℕ, List, [], ◌∷◌, ◌++◌, length, map, All, flat_map, Option}
use Rattle.std.specs.Io.KnownBytes.{Appends}
use Rattle.kv_types.specs.declared.reply.Held.{Held as Answer}
use Rattle.kv_types.specs.Reply.{text_of}
use Rattle.reply_gate.specs.declared.held_text.HeldText.{HeldText}
use Rattle.reply_gate.specs.Gate.{Held, held_bytes}

-- the texts of the replies, one after another
abbrev pub texts_of : List Answer → List ℕ
texts_of = flat_map (λ answer. text_of answer.reply)

-- what a gate keeps of a reply besides its text: the position at which it was made, and how many bytes it has
abbrev pub held_text : Answer → HeldText
held_text answer = record { position = answer.position; bytes = length (text_of answer.reply) }

abbrev pub held_texts : List Answer → List HeldText
held_texts = map held_text

-- every reply that the gate holds was made at a position of at most `last`, and the lengths of the replies account for all bytes that wait
pub record IsWithin (last : ℕ) (gate : Held) : Type 0 where
  pub bounded : All (λ reply. reply.position ≤ last) gate.replies
  pub counted : length gate.waiting ≡ held_bytes gate.replies

-- what a gate holds that is not sent: what was released, and what waits
abbrev pub unsent : Held → List ℕ
unsent gate = gate.pending ++ gate.waiting

-- Replies were taken from a ring, and the gate holds them, in order, after those that it held: each with its text and with the position at which it was made.
pub record Holds (taken taken' : List Answer) (gate gate' : Held) : Type 0 where
  pub more : List Answer
  pub takes : taken' ≡ taken ++ more
  pub texts : gate'.waiting ≡ gate.waiting ++ texts_of more
  pub replies : gate'.replies ≡ gate.replies ++ held_texts more
  pub pending : gate'.pending ≡ gate.pending

-- The same, but that the gate does not hold the reply that was taken last.
pub record HoldsAllButLast (taken taken' : List Answer) (gate gate' : Held) : Type 0 where
  pub kept : List Answer
  pub lost : Answer
  pub takes : taken' ≡ kept ++ lost ∷ []
  pub holds : Holds taken kept gate gate'

-- Replies were taken from a ring and bytes were written: what was held at first, with the texts of those replies after it, is what was written,
-- with what is held at the end after it. So rounds join.
pub record Carries (taken taken' : List Answer) (contents contents' : Option (List ℕ)) (held held' : List ℕ) : Type 0 where
  pub more : List Answer
  pub written : List ℕ
  pub takes : taken' ≡ taken ++ more
  pub writes : Appends contents contents' written
  pub texts : held ++ texts_of more ≡ written ++ held'

-- The first bytes of what was to go out were written, and the rest of it is still to go out.
pub record Sends (contents contents' : Option (List ℕ)) (pending pending' : List ℕ) : Type 0 where
  pub first : List ℕ
  pub writes : Appends contents contents' first
  pub whole : pending ≡ first ++ pending'
