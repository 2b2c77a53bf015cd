-- The texts of the refusals before a command runs (this project's profile).
use Rattle.std.specs.Prelude.{ℕ, List, ◌++◌, codes}
use Rattle.cmd_table.specs.declared.misuse.Misuse.{Misuse}
use Rattle.cmd_table.specs.declared.misuse.Misuse.TheVariants.{UnknownName, WrongNumberOfWords, LongKey}
use Rattle.kv_types.specs.CommandName.{text}

abbrev pub wrong_number_of_words : (name : List ℕ) → List ℕ
wrong_number_of_words name = codes "ERR wrong number of arguments for '" ++ name ++ codes "' command"

abbrev pub misuse_text : Misuse → List ℕ
misuse_text UnknownName = codes "ERR unknown command"
misuse_text (WrongNumberOfWords command) = wrong_number_of_words (text command)
misuse_text LongKey = codes "ERR key or field is longer than 512 bytes"
