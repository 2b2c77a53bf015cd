-- From the words of a request to a command, or to why it is none (this project's profile).
use Rattle.std.specs.Prelude.{ℕ, ◌+◌, not, if◌then◌else◌, List, [], ◌∷◌, length, Option, Some, None, Result, Ok, Err}
use Rattle.cmd_core.specs.Shape.{takes, are_short}
use Rattle.kv_types.specs.declared.command_name.CommandName.{CommandName}
use Rattle.cmd_table.specs.declared.command.Command as code
use Rattle.cmd_table.specs.declared.misuse.Misuse.{Misuse}
use Rattle.cmd_table.specs.declared.misuse.Misuse.TheVariants.{UnknownName, WrongNumberOfWords, LongKey}
use Rattle.kv_types.specs.declared.command_name.TheConstants.{COMMANDS}
use Rattle.kv_types.specs.CommandName.{find}
use Rattle.cmd_table.specs.Row.{row, command_named}

pub record Command : Type 0 where
  pub name : CommandName
  -- the words after the name
  pub arguments : List (List ℕ)

abbrev pub read_arguments : CommandName → List (List ℕ) → Result Command Misuse
read_arguments name arguments =
    if not (takes (row name).words (length arguments + 1)) then Err (WrongNumberOfWords name)
    else (if not (are_short (row name).keys arguments) then Err LongKey else Ok (record { name = name; arguments = arguments }))

abbrev pub read_named : Option CommandName → List (List ℕ) → Result Command Misuse
read_named None arguments = Err UnknownName
read_named (Some name) arguments = read_arguments name arguments

-- First the name, then the number of words, then the lengths of keys and fields.
abbrev pub read_command : List (List ℕ) → Result Command Misuse
read_command [] = Err UnknownName
read_command (word ∷ arguments) = read_named (command_named word) arguments

-- The same, where the name may also be that of a command that only sessions answer.
abbrev pub read_request : List (List ℕ) → Result Command Misuse
read_request [] = Err UnknownName
read_request (word ∷ arguments) = read_named (find COMMANDS word) arguments

-- the reading as the code has it
abbrev pub reading_now : Result code.Command Misuse → Result Command Misuse
reading_now (Ok command) = Ok (record { name = command.name; arguments = command.arguments.now })
reading_now (Err misuse) = Err misuse
