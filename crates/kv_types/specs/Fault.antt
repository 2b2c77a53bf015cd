-- The error text that tells a client of a protocol fault in its bytes (this project's profile).
use Rattle.std.specs.Prelude.{ℕ, ◌&&◌, nat_le, if◌then◌else◌, List, [], ◌∷◌, ◌++◌, codes}
use Rattle.kv_types.specs.declared.item.ProtocolFault.{ProtocolFault}
use Rattle.kv_types.specs.declared.item.ProtocolFault.TheVariants.{ExpectedArray, InvalidMultibulkLength, ExpectedBulk, InvalidBulkLength, ExpectedLineEnd}

-- the byte as it is shown: itself if it is printable (0x20 to 0x7e), and otherwise '?'
abbrev pub shown : ℕ → ℕ
shown byte = if nat_le 32 byte && nat_le byte 126 then byte else 63

-- the text of the error that answers a protocol fault
abbrev pub fault_message : ProtocolFault → List ℕ
fault_message ExpectedArray = codes "ERR Protocol error: expected '*'"
fault_message InvalidMultibulkLength = codes "ERR Protocol error: invalid multibulk length"
fault_message (ExpectedBulk byte) = codes "ERR Protocol error: expected '$', got '" ++ shown byte ∷ 39 ∷ []
fault_message InvalidBulkLength = codes "ERR Protocol error: invalid bulk length"
fault_message ExpectedLineEnd = codes "ERR Protocol error: expected CRLF"
