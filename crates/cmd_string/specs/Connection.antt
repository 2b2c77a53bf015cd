-- The meaning of the commands that look at no key: the Redis page of each. The arguments are the words after the name.
use Rattle.std.specs.Prelude.{ℕ, List, [], ◌∷◌, Some}
use Rattle.cmd_core.specs.declared.outcome.Status.TheVariants as status
use Rattle.cmd_core.specs.Outcome.{Outcome, Simple, Bulk, reads, excluded}

abbrev pub ping : List (List ℕ) → Outcome
ping [] = reads (Simple status.Pong)
ping (text ∷ []) = reads (Bulk (Some text))
ping _ = excluded

abbrev pub echo : List (List ℕ) → Outcome
echo (text ∷ []) = reads (Bulk (Some text))
echo _ = excluded

-- what more words ask for is not looked at
abbrev pub quit : List (List ℕ) → Outcome
quit words = reads (Simple status.Ok)
