-- How the client prints replies (this project's profile).
use Rattle.std.specs.Prelude.{ℕ, zero, suc, ◌+◌, ◌-◌, ◌/◌, ◌%◌, List, [], ◌∷◌, ◌++◌, Bool, not, ◌&&◌, ◌==◌, nat_lt, nat_le, if◌then◌else◌, codes}
use Rattle.std.specs.List.{flat_map}
use Rattle.std.specs.Fmt.{decimal, signed_decimal}
use Rattle.kv_types.specs.declared.reply.Reply.{Reply, Simple, Error, Int, Bulk, NullBulk, Array', NullArray, Row_of-Reply, end_of-Reply, more_of-Reply}
use Rattle.kv_types.specs.Reply.{row_length}

-- '0' to '9' and 'a' to 'f'
abbrev pub hex_digit : ℕ → ℕ
hex_digit n = if nat_lt n 10 then 48 + n else 97 + (n - 10)

-- from ' ' to '~', and neither '"' nor '\'
abbrev pub is_plain : ℕ → Bool
is_plain byte = nat_le 32 byte && nat_le byte 126 && not (byte == 34) && not (byte == 92)

-- a plain byte as it is, any other as "\x" and its two digits
abbrev pub escaped : ℕ → List ℕ
escaped byte = if is_plain byte then byte ∷ [] else 92 ∷ 120 ∷ hex_digit (byte / 16) ∷ hex_digit (byte % 16) ∷ []

-- bytes between double quotes
abbrev pub quoted : List ℕ → List ℕ
quoted bytes = 34 ∷ flat_map escaped bytes ++ 34 ∷ []

-- two spaces for each array that a reply stands within
abbrev pub indentation : ℕ → List ℕ
indentation zero = []
indentation (suc depth) = 32 ∷ 32 ∷ indentation depth

-- a line at this depth
abbrev pub line : ℕ → List ℕ → List ℕ
line depth text = indentation depth ++ text ++ 10 ∷ []

abbrev mutual
  -- the lines of a reply that stands within so many arrays
  pub lines_at : ℕ → Reply → List ℕ
  lines_at depth (Simple text) = line depth text
  lines_at depth (Error text) = line depth (codes "(error) " ++ text)
  lines_at depth (Int n) = line depth (codes "(integer) " ++ signed_decimal n)
  lines_at depth (Bulk bytes) = line depth (quoted bytes)
  lines_at depth NullBulk = line depth (codes "(nil)")
  lines_at depth (Array' shape replies) = line depth (codes "(array " ++ decimal (row_length replies) ++ codes ")") ++ all_lines_at (suc depth) replies
  lines_at depth NullArray = line depth (codes "(nil array)")

  pub all_lines_at : {shape : _} → ℕ → Row_of-Reply shape → List ℕ
  all_lines_at depth end_of-Reply = []
  all_lines_at depth (more_of-Reply reply replies) = lines_at depth reply ++ all_lines_at depth replies

-- what is printed for a reply
abbrev pub printed_reply : Reply → List ℕ
printed_reply reply = lines_at 0 reply
