-- What the code knows of a frame of which not all bytes are there.
use Rattle.std.specs.Prelude.{◌≡◌, ℕ, ◌+◌, ◌-◌, ◌<◌, ◌≤◌, Bool, true, false, List, ◌++◌, length, drop, map, Option, None, Some, Result, Ok, Err, IfSome}
use Rattle.kv_types.specs.declared.stop.Stop.{Stop}
use Rattle.kv_types.specs.declared.stop.Stop.TheVariants.{Short, Broken}
use Rattle.kv_types.specs.Reader.{◌>>=◌, skipped}
use Rattle.stream_codec.specs.declared.change.Body.{Body}
use Rattle.stream_codec.specs.declared.message.Message.{Message}
use Rattle.stream_codec.specs.declared.scan.Progress.{Progress}
use Rattle.stream_codec.specs.declared.scan.Look.{Look}
use Rattle.stream_codec.specs.declared.scan.Look.TheVariants as look
use Rattle.stream_codec.specs.declared.scan.Pass.{Pass}
use Rattle.stream_codec.specs.declared.scan.Pass.TheVariants as pass
use Rattle.stream_codec.specs.declared.step.Next.{Next}
use Rattle.stream_codec.specs.Message.{Sent, sent_of}
use Rattle.stream_codec.specs.Bytes.{Outcome, IsBytes}
use Rattle.stream_codec.specs.Reading.{name_at, value_at, message_at}
use Rattle.stream_codec.specs.Stepping.{IsMore, end_from}
use Rattle.stream_codec.specs.Stream.{stream_at}

-- the values already read, followed by those that `read` gives
abbrev pub with_front : {A : Type 0} → List A → Outcome (List A) → Outcome (List A)
with_front front read = read >>= λ x. Ok (front ++ x.0, x.1)

-- `rest` is the end of the bytes
abbrev pub IsEnd : List ℕ → List ℕ → Type 0
IsEnd bytes rest = (prefix : List ℕ) × (bytes ≡ prefix ++ rest)

-- with fewer bytes more than are missing, `read` has only the beginning of what it reads, whatever bytes they are
abbrev pub Waits : {A : Type 0} → (List ℕ → Result A (Stop Unit)) → List ℕ → ℕ → Type 0
Waits read bytes missing = (more : List ℕ) → IsBytes more → length more < missing → read (bytes ++ more) ≡ Err Short

abbrev pub field_and_value_at : Body → ℕ → List ℕ → Outcome (List ℕ)
field_and_value_at body spare bytes = name_at spare bytes >>= λ field. value_at body (spare - length field.0) field.1

-- whatever comes, the frame ends where it does from what comes next on
abbrev pub EndsAlike : Next → List ℕ → Next → List ℕ → Type 0
EndsAlike first bytes later rest = (more : List ℕ) → end_from first (bytes ++ more) ≡ end_from later (rest ++ more)

-- how far a frame goes, from what comes next on
abbrev pub IsPass : Next → List ℕ → Pass → Type 0
IsPass first bytes (pass.Whole rest) = (end_from first bytes ≡ Ok rest.now) × IsEnd bytes rest.now
IsPass first bytes (pass.Begun later rest) = EndsAlike first bytes later rest.now × IsEnd bytes rest.now × IsMore later × (end_from later rest.now ≡ Err Short)
IsPass first bytes pass.Broken = end_from first bytes ≡ Err (Broken tt)

-- whatever comes, the frame ends where it does from this place in it on, and with fewer bytes than are wanted it is only begun
pub record IsAt (bytes : List ℕ) (progress : Progress) : Type 0 where
  pub within : progress.at ≤ length bytes
  pub same : (more : List ℕ) → skipped (message_at (bytes ++ more)) ≡ end_from progress.next (drop progress.at bytes ++ more)
  pub waits : (more : List ℕ) → IsBytes more → length bytes + length more < progress.wanted → message_at (bytes ++ more) ≡ Err Short

-- what is at the front
abbrev pub IsLook : List ℕ → Look → Type 0
IsLook bytes (look.Whole rest) = (skipped (message_at bytes) ≡ Ok rest.now) × IsEnd bytes rest.now
IsLook bytes (look.Begun progress) = (message_at bytes ≡ Err Short) × IsAt bytes progress
IsLook bytes look.Broken = message_at bytes ≡ Err (Broken tt)

abbrev pub sent_of_all : List Message → List Sent
sent_of_all messages = map sent_of messages

-- the bytes that are still to be given, or `None` after a fault
abbrev pub left_of : Option Progress → List ℕ → Option (List ℕ)
left_of None rest = None
left_of (Some progress) rest = Some rest

-- the bytes are these frames, and then the rest
pub record IsSplit (bytes : List ℕ) (messages : List Message) (progress : Option Progress) (rest : List ℕ) : Type 0 where
  pub stream : stream_at bytes ≡ record { messages = sent_of_all messages; unread = left_of progress rest }
  pub end : IsEnd bytes rest
  pub at : IfSome progress (λ p. IsAt rest p)

-- of what follows a fault nothing is said
abbrev pub IsKept : Bool → List ℕ → Progress → Type 0
IsKept true unread progress = Unit {0}
IsKept false unread progress = IsAt unread progress

abbrev pub unread_of : Bool → List ℕ → Option (List ℕ)
unread_of true rest = None
unread_of false rest = Some rest

-- the bytes were given as these frames, and what is left is kept
pub record IsTaken (bytes : List ℕ) (messages : List Message) (is_broken : Bool) (unread : List ℕ) (progress : Progress) : Type 0 where
  pub stream : stream_at bytes ≡ record { messages = sent_of_all messages; unread = unread_of is_broken unread }
  pub at : IsKept is_broken unread progress
