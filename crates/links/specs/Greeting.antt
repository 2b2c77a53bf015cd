-- What two nodes say first on a link, and what a standby without a number makes of it.
use Rattle.std.specs.Prelude.{◌≡◌, ◌≢◌, ◌⊎◌, ℕ, ◌<◌, List, ◌++◌, length, get_or, Option, None, Some, OnOk, OnErr, Result, Err, IsErrOf, []}
use Rattle.std.specs.Io.KnownBytes.{Appends, Consumes}
use Rattle.kv_types.specs.declared.refusal.Refusal.{Refusal}
use Rattle.kv_types.specs.declared.refusal.Refusal.TheVariants.{WrongLink, WrongPair}
use Rattle.frames.specs.declared.ack.Ack.{Ack}
use Rattle.greeting.specs.declared.greeting.Greeting.{Greeting}
use Rattle.greeting.specs.declared.greeting.TheConstants.{GREETING_BYTES, LINK_VERSION}
use Rattle.greeting.specs.Greeting.{IsOfOtherPair, MayLink, SpeaksAsOther, greeting_text}
use Rattle.links.specs.Serving.{Held, LinkSays, Served, ack_text}
use Rattle.links.specs.declared.greetings.Unmet.{Unmet}
use Rattle.links.specs.declared.greetings.Unmet.TheVariants.{Unwritten, Refused}
use Rattle.links.specs.declared.left.Left.{Left}
use Rattle.links.specs.declared.left.Left.TheVariants.{Stopped, Adopts}
use Rattle.node_log.specs.declared.link_error.LinkError.{LinkError}
use Rattle.node_log.specs.declared.link_error.LinkError.TheVariants.{Closed, Stops}

-- what a node of this release says first whose image has this number
abbrev pub greeting_of : ℕ → Greeting
greeting_of pair = record { version = LINK_VERSION; pair = pair }

-- The node said its greeting, and just the bytes of the other one's were read, with which it may link.
pub record Greets (own theirs : Greeting) (bytes left before after : Option (List ℕ)) : Type 0 where
  pub read : Consumes bytes left (greeting_text theirs)
  pub written : Appends before after (greeting_text own)
  pub may_link : MayLink own theirs

-- why the node does not link with one that said these bytes first
abbrev pub IsWhyNot : Greeting → List ℕ → Refusal → Type 0
IsWhyNot own text WrongLink = (get_or text 0 0 ≢ 8) ⊎ ((theirs : Greeting) × (text ≡ greeting_text theirs) × SpeaksAsOther own theirs)
IsWhyNot own text WrongPair = (theirs : Greeting) × (text ≡ greeting_text theirs) × IsOfOtherPair own theirs
IsWhyNot own text refusal = ⊥

-- What was read and written where the node greeted nobody: its own greeting, or the beginning of it where a write failed; and one that was refused was read whole.
abbrev pub IsUnmet : Greeting → Unmet → Option (List ℕ) → Option (List ℕ) → Option (List ℕ) → Option (List ℕ) → Type 0
IsUnmet own Unwritten bytes left before after = (left ≡ bytes) × ((part : List ℕ) × (rest : List ℕ) × (greeting_text own ≡ part ++ rest) × Appends before after part)
IsUnmet own (Refused why) bytes left before after =
    Appends before after (greeting_text own) × ((text : List ℕ) × Consumes bytes left text × (length text ≡ GREETING_BYTES) × IsWhyNot own text why)
IsUnmet own why bytes left before after = Appends before after (greeting_text own)

-- What was read and written on a link whose sides have greeted: what `serve_link` says of it, behind the greetings.
pub record ServesGreeted (own theirs : Greeting) (opening : Ack) (served : Result (Unit {0}) LinkError) (first : Held) (bytes before : Option (List ℕ)) (last : Held) (left after : Option (List ℕ)) : Type 0 where
  pub behind : Option (List ℕ)
  pub said : Option (List ℕ)
  pub greets : Greets own theirs bytes behind before said
  pub closed : OnOk served ((opened : Option (List ℕ)) × (unread : Option (List ℕ)) × Appends said opened (ack_text opening) × Served first behind opened last left after unread)
  pub ended : OnErr served ((part : List ℕ) × LinkSays opening first behind said last left after part × (¬ IsErrOf served Closed → part ≡ []))

-- A node of this greeting takes over a number for this reason: it has none, and somebody greeted it with that one, who brought it on from one position to another.
pub record TakesOver (own : Greeting) (number before after : ℕ) : Type 0 where
  pub has_none : own.pair ≡ 0
  pub is_one : number ≢ 0
  pub moved : before < after

-- Why the node takes no further link after one that ended so, and that had it take over this number, if it takes none: what stops it comes first.
abbrev pub left_of : Result (Unit {0}) LinkError → Option ℕ → Option Left
left_of (Err (Stops refusal)) number = Some (Stopped refusal)
left_of served (Some number) = Some (Adopts number)
left_of served None = None
