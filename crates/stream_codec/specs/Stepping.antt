-- A frame from its front to its end, one number or one change at a time.
use Rattle.std.specs.Prelude.{ℕ, zero, suc, Bool, true, ◌+◌, ◌-◌, ◌^◌, ◌<◌, List, length, nat_lt, Result, Ok}
use Rattle.kv_types.specs.declared.stop.Stop.{Stop}
use Rattle.kv_types.specs.Reader.{◌>>=◌, skipped}
use Rattle.stream_codec.specs.declared.message.TheConstants.{LEAST_PUT_BYTES, MAX_BODY_BYTES, MAX_PART_BYTES}
use Rattle.stream_codec.specs.declared.change.Body.TheVariants as bodies
use Rattle.stream_codec.specs.declared.head.HeadKind.{HeadKind}
use Rattle.stream_codec.specs.declared.head.HeadKind.TheVariants as head_kind
use Rattle.stream_codec.specs.declared.step.Next.{Next}
use Rattle.stream_codec.specs.declared.step.Next.TheVariants as next
use Rattle.stream_codec.specs.Bytes.{Outcome}
use Rattle.stream_codec.specs.Reading.{change_at, changes_at, head_kind_at, long_at, message_at}

abbrev pub is_more : Next → Bool
is_more (next.Numbers left) = nat_lt 0 left
is_more (next.Changes body left) = nat_lt 0 left
is_more other = true

abbrev pub IsMore : Next → Type 0
IsMore (next.Numbers left) = 0 < left
IsMore (next.Changes body left) = 0 < left
IsMore other = Unit {0}

abbrev pub first_of : HeadKind → Next
first_of head_kind.Group = next.Epoch
first_of head_kind.Ack = next.Numbers 2
first_of head_kind.Wanted = next.Numbers 1
first_of head_kind.Part = next.PartEpoch
first_of head_kind.End = next.Numbers 3

-- what follows the next number or change, where there is one
abbrev pub step_of : Next → List ℕ → Outcome Next
step_of next.Kind bytes = head_kind_at bytes >>= λ kind. Ok (first_of kind.0, kind.1)
step_of next.Epoch bytes = long_at 0 (2 ^ 64 - 1) bytes >>= λ epoch. Ok (next.Before, epoch.1)
step_of next.Before bytes = long_at 0 (2 ^ 64 - 2) bytes >>= λ before. Ok (next.After (before.0 + 1), before.1)
step_of (next.After least) bytes = long_at least (2 ^ 64 - 1) bytes >>= λ after. Ok (next.Size, after.1)
step_of next.Size bytes = long_at 0 MAX_BODY_BYTES bytes >>= λ size. Ok (next.Changes bodies.Changes size.0, size.1)
step_of (next.Numbers left) bytes = long_at 0 (2 ^ 64 - 1) bytes >>= λ number. Ok (next.Numbers (left - 1), number.1)
step_of next.PartEpoch bytes = long_at 0 (2 ^ 64 - 1) bytes >>= λ epoch. Ok (next.PartPosition, epoch.1)
step_of next.PartPosition bytes = long_at 0 (2 ^ 64 - 1) bytes >>= λ position. Ok (next.PartNumber, position.1)
step_of next.PartNumber bytes = long_at 0 (2 ^ 64 - 1) bytes >>= λ number. Ok (next.PartSize, number.1)
step_of next.PartSize bytes = long_at LEAST_PUT_BYTES MAX_PART_BYTES bytes >>= λ size. Ok (next.Changes bodies.Puts size.0, size.1)
step_of (next.Changes body left) bytes = change_at body left bytes >>= λ change. Ok (next.Changes body (left - (length bytes - length change.1)), change.1)

abbrev pub size_end : List ℕ → Result (List ℕ) (Stop Unit)
size_end bytes = long_at 0 MAX_BODY_BYTES bytes >>= λ size. skipped (changes_at bodies.Changes size.0 size.1)

abbrev pub after_end : ℕ → List ℕ → Result (List ℕ) (Stop Unit)
after_end least bytes = long_at least (2 ^ 64 - 1) bytes >>= λ after. size_end after.1

abbrev pub before_end : List ℕ → Result (List ℕ) (Stop Unit)
before_end bytes = long_at 0 (2 ^ 64 - 2) bytes >>= λ before. after_end (before.0 + 1) before.1

abbrev pub numbers_end : ℕ → List ℕ → Result (List ℕ) (Stop Unit)
numbers_end zero bytes = Ok bytes
numbers_end (suc left) bytes = long_at 0 (2 ^ 64 - 1) bytes >>= λ number. numbers_end left number.1

abbrev pub part_size_end : List ℕ → Result (List ℕ) (Stop Unit)
part_size_end bytes = long_at LEAST_PUT_BYTES MAX_PART_BYTES bytes >>= λ size. skipped (changes_at bodies.Puts size.0 size.1)

abbrev pub part_number_end : List ℕ → Result (List ℕ) (Stop Unit)
part_number_end bytes = long_at 0 (2 ^ 64 - 1) bytes >>= λ number. part_size_end number.1

abbrev pub part_position_end : List ℕ → Result (List ℕ) (Stop Unit)
part_position_end bytes = long_at 0 (2 ^ 64 - 1) bytes >>= λ position. part_number_end position.1

-- what follows the frame, from what comes next on
abbrev pub end_from : Next → List ℕ → Result (List ℕ) (Stop Unit)
end_from next.Kind bytes = skipped (message_at bytes)
end_from next.Epoch bytes = long_at 0 (2 ^ 64 - 1) bytes >>= λ epoch. before_end epoch.1
end_from next.Before bytes = before_end bytes
end_from (next.After least) bytes = after_end least bytes
end_from next.Size bytes = size_end bytes
end_from (next.Numbers left) bytes = numbers_end left bytes
end_from next.PartEpoch bytes = long_at 0 (2 ^ 64 - 1) bytes >>= λ epoch. part_position_end epoch.1
end_from next.PartPosition bytes = part_position_end bytes
end_from next.PartNumber bytes = part_number_end bytes
end_from next.PartSize bytes = part_size_end bytes
end_from (next.Changes body left) bytes = skipped (changes_at body left bytes)
