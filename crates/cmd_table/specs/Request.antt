-- What a request is answered and what it changes: it is read, and its command runs. A misuse is answered as its error.
use Rattle.std.specs.Prelude.{ℕ, Bool, true, false, List, [], ◌∷◌, Option, Some, Result, Ok, Err}
use Rattle.kv_types.specs.declared.change.Change.{Change}
use Rattle.kv_types.specs.declared.reply.Reply.{Reply, Error}
use Rattle.kv_types.specs.Keyspace.{Keyspace}
use Rattle.cmd_core.specs.Outcome.{Outcome, changes_of}
use Rattle.cmd_core.specs.Reply.{reply_of}
use Rattle.kv_types.specs.declared.command_name.CommandName.{CommandName}
use Rattle.kv_types.specs.declared.command_name.CommandName.TheVariants as name
use Rattle.cmd_table.specs.declared.misuse.Misuse.{Misuse}
use Rattle.cmd_table.specs.Row.{command_named}
use Rattle.cmd_table.specs.Misuse.{misuse_text}
use Rattle.cmd_table.specs.Command.{Command, read_command}
use Rattle.cmd_table.specs.Meaning.{does}

-- the reply, and the changes, one after another
pub record Effect : Type 0 where
  pub reply : Reply
  pub changes : List Change

abbrev pub effect_of : Outcome → Effect
effect_of outcome = record { reply = reply_of outcome; changes = changes_of outcome }

abbrev pub refusing : Misuse → Effect
refusing misuse = record { reply = Error (misuse_text misuse); changes = [] }

abbrev pub effect_of_reading : Keyspace → Result Command Misuse → Effect
effect_of_reading s (Ok command) = effect_of (does s command.name command.arguments)
effect_of_reading s (Err misuse) = refusing misuse

unfoldable pub outcome_of_words : Keyspace → List (List ℕ) → Effect
outcome_of_words s words = effect_of_reading s (read_command words)

abbrev pub is_quit : Option CommandName → Bool
is_quit (Some name.Quit) = true
is_quit _ = false

-- after this request nothing more is taken from its connection: the Redis page of QUIT
unfoldable pub closes : List (List ℕ) → Bool
closes [] = false
closes (word ∷ arguments) = is_quit (command_named word)
