-- The gate of one connection: which replies go out (this project's profile).
use Rattle.std.specs.Prelude.{ℕ, ◌+◌, Bool, false, if◌then◌else◌, List, [], ◌∷◌}
use Rattle.kv_types.specs.declared.seen.Seen.{Seen}
use Rattle.kv_types.specs.Seen.{covers}
use Rattle.reply_gate.specs.declared.held_text.HeldText.{HeldText}

-- what a gate holds
pub record Held : Type 0 where
  -- the bytes that were released and not yet sent
  pub pending : List ℕ
  -- the text of the replies that are held
  pub waiting : List ℕ
  -- their positions and lengths, in order
  pub replies : List HeldText

-- both nodes hold the position at which the reply was made
abbrev pub is_covered : Seen → HeldText → Bool
is_covered seen reply = covers seen reply.position

-- the first reply is covered
abbrev pub is_first_covered : Seen → List HeldText → Bool
is_first_covered seen [] = false
is_first_covered seen (reply ∷ replies) = is_covered seen reply

-- how many bytes the longest prefix of covered replies has
abbrev pub covered_bytes : Seen → List HeldText → ℕ
covered_bytes seen [] = 0
covered_bytes seen (reply ∷ replies) = if is_covered seen reply then reply.bytes + covered_bytes seen replies else 0

-- the replies after that prefix
abbrev pub uncovered_rest : Seen → List HeldText → List HeldText
uncovered_rest seen [] = []
uncovered_rest seen (reply ∷ replies) = if is_covered seen reply then uncovered_rest seen replies else reply ∷ replies

-- how many bytes all of them have
abbrev pub held_bytes : List HeldText → ℕ
held_bytes [] = 0
held_bytes (reply ∷ replies) = reply.bytes + held_bytes replies
