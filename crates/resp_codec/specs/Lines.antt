-- The lines of a request that hold a number.
use Rattle.std.specs.Prelude.{ℕ, List, Result}
use Rattle.kv_types.specs.declared.item.ProtocolFault.{ProtocolFault}
use Rattle.kv_types.specs.declared.limits.TheConstants.{REQUEST_LIMITS}
use Rattle.kv_types.specs.declared.item.ProtocolFault.TheVariants.{ExpectedArray, InvalidMultibulkLength, InvalidBulkLength}
use Rattle.kv_types.specs.declared.stop.Stop.{Stop}
use Rattle.kv_types.specs.Reader.{Read, ◌>>=◌}
use Rattle.kv_types.specs.Reading.{after_byte, number_at, after_dollar}
use Rattle.resp_codec.specs.declared.reading.Line.{Line}
use Rattle.resp_codec.specs.declared.reading.Line.TheVariants.{Count, Length}

-- the number of a line, and the bytes after it
abbrev pub line_at : Line → List ℕ → Result (Read ℕ) (Stop ProtocolFault)
line_at Count bytes = after_byte 42 ExpectedArray bytes >>= λ rest. number_at REQUEST_LIMITS.words InvalidMultibulkLength rest
line_at Length bytes = after_dollar bytes >>= λ rest. number_at REQUEST_LIMITS.word_bytes InvalidBulkLength rest
