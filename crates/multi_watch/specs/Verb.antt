-- What a request asks of a session.
use Rattle.std.specs.Prelude.{ℕ, List, Result, Ok, Err}
use Rattle.kv_types.specs.declared.command_name.CommandName.{CommandName}
use Rattle.kv_types.specs.declared.command_name.CommandName.TheVariants as name
use Rattle.cmd_table.specs.declared.misuse.Misuse.{Misuse}
use Rattle.cmd_table.specs.Command.{Command, read_request}
use Rattle.multi_watch.specs.declared.verb.Verb.{Verb}
use Rattle.multi_watch.specs.declared.verb.Verb.TheVariants.{Misused, Quit, Multi, Exec, Discard, Watch, Unwatch, Other}

abbrev pub verb_of_name : CommandName → Verb
verb_of_name name.Quit = Quit
verb_of_name name.Multi = Multi
verb_of_name name.Exec = Exec
verb_of_name name.Discard = Discard
verb_of_name name.Watch = Watch
verb_of_name name.Unwatch = Unwatch
verb_of_name _ = Other

abbrev pub verb_of_reading : Result Command Misuse → Verb
verb_of_reading (Ok command) = verb_of_name command.name
verb_of_reading (Err misuse) = Misused misuse

unfoldable pub verb_of : List (List ℕ) → Verb
verb_of words = verb_of_reading (read_request words)
