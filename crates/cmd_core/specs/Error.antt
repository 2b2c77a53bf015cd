-- The texts of the errors of a run (this project's profile).
use Rattle.std.specs.Prelude.{ℕ, List, codes}
use Rattle.cmd_core.specs.declared.error.CommandError.{CommandError}
use Rattle.cmd_core.specs.declared.error.CommandError.TheVariants.{Syntax, NotAnInteger, HashNotAnInteger, Overflow, DecrementOverflow, WrongType, LongString}

abbrev pub error_text : CommandError → List ℕ
error_text Syntax = codes "ERR syntax error"
error_text NotAnInteger = codes "ERR value is not an integer or out of range"
error_text HashNotAnInteger = codes "ERR hash value is not an integer"
error_text Overflow = codes "ERR increment or decrement would overflow"
error_text DecrementOverflow = codes "ERR decrement would overflow"
error_text WrongType = codes "WRONGTYPE Operation against a key holding the wrong kind of value"
error_text LongString = codes "ERR string is longer than 1048576 bytes"
