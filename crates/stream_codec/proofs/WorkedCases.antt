-- The worked frames, and the places of faults, from the definitions by evaluation alone.
use Rattle.std.proofs.Common.{◌≡◌, ℕ, List, [], ◌∷◌, ◌++◌, length, None, Some, codes, refl}
use Rattle.std.specs.List.{AllByRecursion}
use Rattle.kv_types.specs.declared.change.Change.TheVariants.{Put, Drop}
use Rattle.kv_types.specs.declared.record_id.RecordId.TheVariants.{Str}
use Rattle.stream_codec.specs.Message.{Sent, Changes, Acknowledged, WantsCopy, CopiesPart, EndsCopy, sent_text}
use Rattle.stream_codec.specs.Reading.{change_at, changes_at, head_at, message_at}
use Rattle.stream_codec.specs.Stream.{stream_at}

-- ---- worked frames

-- so many bytes are the message's
pub record IsFrame (message : Sent) (size : ℕ) (bytes : List ℕ) : Type 0 where
  pub long : length bytes ≡ size
  pub written : sent_text message ≡ bytes
  pub read : stream_at bytes ≡ record { messages = message ∷ []; unread = Some [] }

-- epoch 1, `SET a 1` from 0 to 1: 42 bytes
abbrev set_bytes : List ℕ
set_bytes = 1 ∷ 0 ∷ 0 ∷ 0 ∷ 0 ∷ 0 ∷ 0 ∷ 0 ∷ 1 ∷ 0 ∷ 0 ∷ 0 ∷ 0 ∷ 0 ∷ 0 ∷ 0 ∷ 0 ∷ 0 ∷ 0 ∷ 0 ∷ 0 ∷ 0 ∷ 0 ∷ 0 ∷ 1 ∷ 0 ∷ 0 ∷ 0 ∷ 0 ∷ 0 ∷ 0 ∷ 0 ∷ 9 ∷ 1 ∷ 0 ∷ 1 ∷ 97 ∷ 0 ∷ 0 ∷ 0 ∷ 1 ∷ 49 ∷ []

abbrev set_frame : Sent
set_frame = Changes 1 0 1 (Put (Str (codes "a")) (codes "1") ∷ [])

set_is : IsFrame set_frame 42 set_bytes
unfolding stream_at message_at head_at changes_at change_at
set_is = assumption

-- its acknowledgement: 17 bytes
abbrev ack_bytes : List ℕ
ack_bytes = 2 ∷ 0 ∷ 0 ∷ 0 ∷ 0 ∷ 0 ∷ 0 ∷ 0 ∷ 1 ∷ 0 ∷ 0 ∷ 0 ∷ 0 ∷ 0 ∷ 0 ∷ 0 ∷ 1 ∷ []

ack_is : IsFrame (Acknowledged 1 1) 17 ack_bytes
unfolding stream_at message_at head_at changes_at change_at
ack_is = assumption

both_read : stream_at (set_bytes ++ ack_bytes) ≡ record { messages = set_frame ∷ Acknowledged 1 1 ∷ []; unread = Some [] }
unfolding stream_at message_at head_at changes_at change_at
both_read = refl

-- epoch 1 from 6 to 9, drop k1, drop k3, put k2 `x`: 53 bytes
delta_is : IsFrame (Changes 1 6 9 (Drop (Str (codes "k1")) ∷ Drop (Str (codes "k3")) ∷ Put (Str (codes "k2")) (codes "x") ∷ [])) 53
    (1 ∷ 0 ∷ 0 ∷ 0 ∷ 0 ∷ 0 ∷ 0 ∷ 0 ∷ 1 ∷ 0 ∷ 0 ∷ 0 ∷ 0 ∷ 0 ∷ 0 ∷ 0 ∷ 6 ∷ 0 ∷ 0 ∷ 0 ∷ 0 ∷ 0 ∷ 0 ∷ 0 ∷ 9 ∷ 0 ∷ 0 ∷ 0 ∷ 0 ∷ 0 ∷ 0 ∷ 0 ∷ 20 ∷ 3 ∷ 0 ∷ 2 ∷ 107 ∷ 49 ∷ 3 ∷ 0 ∷ 2 ∷ 107 ∷ 51 ∷ 1 ∷ 0 ∷ 2 ∷ 107 ∷ 50 ∷ 0 ∷ 0 ∷ 0 ∷ 1 ∷ 120 ∷ [])
unfolding stream_at message_at head_at changes_at change_at
delta_is = assumption

-- a copy is wanted: 9 bytes
wanted_is : IsFrame (WantsCopy 1) 9 (3 ∷ 0 ∷ 0 ∷ 0 ∷ 0 ∷ 0 ∷ 0 ∷ 0 ∷ 1 ∷ [])
unfolding stream_at message_at head_at changes_at change_at
wanted_is = assumption

-- the first part of a copy at position 2, a `1` and b `2`: 51 bytes
part_is : IsFrame (CopiesPart 1 2 0 (Put (Str (codes "a")) (codes "1") ∷ Put (Str (codes "b")) (codes "2") ∷ [])) 51
    (4 ∷ 0 ∷ 0 ∷ 0 ∷ 0 ∷ 0 ∷ 0 ∷ 0 ∷ 1 ∷ 0 ∷ 0 ∷ 0 ∷ 0 ∷ 0 ∷ 0 ∷ 0 ∷ 2 ∷ 0 ∷ 0 ∷ 0 ∷ 0 ∷ 0 ∷ 0 ∷ 0 ∷ 0 ∷ 0 ∷ 0 ∷ 0 ∷ 0 ∷ 0 ∷ 0 ∷ 0 ∷ 18 ∷ 1 ∷ 0 ∷ 1 ∷ 97 ∷ 0 ∷ 0 ∷ 0 ∷ 1 ∷ 49 ∷ 1 ∷ 0 ∷ 1 ∷ 98 ∷ 0 ∷ 0 ∷ 0 ∷ 1 ∷ 50 ∷ [])
unfolding stream_at message_at head_at changes_at change_at
part_is = assumption

-- the end of that copy: 25 bytes
end_is : IsFrame (EndsCopy 1 2 1) 25 (5 ∷ 0 ∷ 0 ∷ 0 ∷ 0 ∷ 0 ∷ 0 ∷ 0 ∷ 1 ∷ 0 ∷ 0 ∷ 0 ∷ 0 ∷ 0 ∷ 0 ∷ 0 ∷ 2 ∷ 0 ∷ 0 ∷ 0 ∷ 0 ∷ 0 ∷ 0 ∷ 0 ∷ 1 ∷ [])
unfolding stream_at message_at head_at changes_at change_at
end_is = assumption

-- ---- faults come with the byte that makes them, and not before

-- these bytes begin a frame, and with this byte more they are a fault
pub record Fault : Type 0 where
  pub before : List ℕ
  pub byte : ℕ

pub record IsFault (fault : Fault) : Type 0 where
  pub not_yet : stream_at fault.before ≡ record { messages = []; unread = Some fault.before }
  pub now : stream_at (fault.before ++ fault.byte ∷ []) ≡ record { messages = []; unread = None }

abbrev fault : List ℕ → ℕ → Fault
fault before byte = record { before = before; byte = byte }

abbrev faults : List Fault
faults =
    -- a first byte that no frame has
    fault [] 6
    -- a `from` above which there is no position: at byte 17
    ∷ fault (1 ∷ 0 ∷ 0 ∷ 0 ∷ 0 ∷ 0 ∷ 0 ∷ 0 ∷ 1 ∷ 255 ∷ 255 ∷ 255 ∷ 255 ∷ 255 ∷ 255 ∷ 255 ∷ []) 255
    -- a `to` that is `from`: at byte 25
    ∷ fault (1 ∷ 0 ∷ 0 ∷ 0 ∷ 0 ∷ 0 ∷ 0 ∷ 0 ∷ 1 ∷ 0 ∷ 0 ∷ 0 ∷ 0 ∷ 0 ∷ 0 ∷ 0 ∷ 1 ∷ 0 ∷ 0 ∷ 0 ∷ 0 ∷ 0 ∷ 0 ∷ 0 ∷ []) 1
    -- a `to` whose first byte is too low: at byte 18
    ∷ fault (1 ∷ 0 ∷ 0 ∷ 0 ∷ 0 ∷ 0 ∷ 0 ∷ 0 ∷ 1 ∷ 2 ∷ 0 ∷ 0 ∷ 0 ∷ 0 ∷ 0 ∷ 0 ∷ 0 ∷ []) 1
    -- a body of 2^40 + 1 bytes: at byte 33
    ∷ fault (1 ∷ 0 ∷ 0 ∷ 0 ∷ 0 ∷ 0 ∷ 0 ∷ 0 ∷ 1 ∷ 0 ∷ 0 ∷ 0 ∷ 0 ∷ 0 ∷ 0 ∷ 0 ∷ 0 ∷ 0 ∷ 0 ∷ 0 ∷ 0 ∷ 0 ∷ 0 ∷ 0 ∷ 1 ∷ 0 ∷ 0 ∷ 1 ∷ 0 ∷ 0 ∷ 0 ∷ 0 ∷ []) 1
    -- a body of 9 bytes that begins with a put of a key of 3: at byte 36
    ∷ fault (1 ∷ 0 ∷ 0 ∷ 0 ∷ 0 ∷ 0 ∷ 0 ∷ 0 ∷ 1 ∷ 0 ∷ 0 ∷ 0 ∷ 0 ∷ 0 ∷ 0 ∷ 0 ∷ 0 ∷ 0 ∷ 0 ∷ 0 ∷ 0 ∷ 0 ∷ 0 ∷ 0 ∷ 1 ∷ 0 ∷ 0 ∷ 0 ∷ 0 ∷ 0 ∷ 0 ∷ 0 ∷ 9 ∷ 1 ∷ 0 ∷ []) 3
    -- a body of 6 bytes that begins with a put, which has at least 7: at byte 34
    ∷ fault (1 ∷ 0 ∷ 0 ∷ 0 ∷ 0 ∷ 0 ∷ 0 ∷ 0 ∷ 1 ∷ 0 ∷ 0 ∷ 0 ∷ 0 ∷ 0 ∷ 0 ∷ 0 ∷ 0 ∷ 0 ∷ 0 ∷ 0 ∷ 0 ∷ 0 ∷ 0 ∷ 0 ∷ 1 ∷ 0 ∷ 0 ∷ 0 ∷ 0 ∷ 0 ∷ 0 ∷ 0 ∷ 6 ∷ []) 1
    -- a key of 513 bytes: at byte 36
    ∷ fault (1 ∷ 0 ∷ 0 ∷ 0 ∷ 0 ∷ 0 ∷ 0 ∷ 0 ∷ 1 ∷ 0 ∷ 0 ∷ 0 ∷ 0 ∷ 0 ∷ 0 ∷ 0 ∷ 0 ∷ 0 ∷ 0 ∷ 0 ∷ 0 ∷ 0 ∷ 0 ∷ 0 ∷ 1 ∷ 0 ∷ 0 ∷ 0 ∷ 0 ∷ 0 ∷ 0 ∷ 16 ∷ 0 ∷ 5 ∷ 2 ∷ []) 1
    -- a value of 1,048,577 bytes: at byte 40
    ∷ fault (1 ∷ 0 ∷ 0 ∷ 0 ∷ 0 ∷ 0 ∷ 0 ∷ 0 ∷ 1 ∷ 0 ∷ 0 ∷ 0 ∷ 0 ∷ 0 ∷ 0 ∷ 0 ∷ 0 ∷ 0 ∷ 0 ∷ 0 ∷ 0 ∷ 0 ∷ 0 ∷ 0 ∷ 1 ∷ 0 ∷ 0 ∷ 0 ∷ 0 ∷ 0 ∷ 30 ∷ 132 ∷ 128 ∷ 1 ∷ 0 ∷ 0 ∷ 0 ∷ 16 ∷ 0 ∷ []) 1
    -- a part of no bytes: at byte 33
    ∷ fault (4 ∷ 0 ∷ 0 ∷ 0 ∷ 0 ∷ 0 ∷ 0 ∷ 0 ∷ 1 ∷ 0 ∷ 0 ∷ 0 ∷ 0 ∷ 0 ∷ 0 ∷ 0 ∷ 2 ∷ 0 ∷ 0 ∷ 0 ∷ 0 ∷ 0 ∷ 0 ∷ 0 ∷ 0 ∷ 0 ∷ 0 ∷ 0 ∷ 0 ∷ 0 ∷ 0 ∷ 0 ∷ []) 0
    -- a part of 6 bytes, which no put has: at byte 33
    ∷ fault (4 ∷ 0 ∷ 0 ∷ 0 ∷ 0 ∷ 0 ∷ 0 ∷ 0 ∷ 1 ∷ 0 ∷ 0 ∷ 0 ∷ 0 ∷ 0 ∷ 0 ∷ 0 ∷ 2 ∷ 0 ∷ 0 ∷ 0 ∷ 0 ∷ 0 ∷ 0 ∷ 0 ∷ 0 ∷ 0 ∷ 0 ∷ 0 ∷ 0 ∷ 0 ∷ 0 ∷ 0 ∷ []) 6
    -- a part of 2,097,153 bytes: at byte 33
    ∷ fault (4 ∷ 0 ∷ 0 ∷ 0 ∷ 0 ∷ 0 ∷ 0 ∷ 0 ∷ 1 ∷ 0 ∷ 0 ∷ 0 ∷ 0 ∷ 0 ∷ 0 ∷ 0 ∷ 2 ∷ 0 ∷ 0 ∷ 0 ∷ 0 ∷ 0 ∷ 0 ∷ 0 ∷ 0 ∷ 0 ∷ 0 ∷ 0 ∷ 0 ∷ 0 ∷ 32 ∷ 0 ∷ []) 1
    -- a part that begins with a drop: at byte 34
    ∷ fault (4 ∷ 0 ∷ 0 ∷ 0 ∷ 0 ∷ 0 ∷ 0 ∷ 0 ∷ 1 ∷ 0 ∷ 0 ∷ 0 ∷ 0 ∷ 0 ∷ 0 ∷ 0 ∷ 2 ∷ 0 ∷ 0 ∷ 0 ∷ 0 ∷ 0 ∷ 0 ∷ 0 ∷ 0 ∷ 0 ∷ 0 ∷ 0 ∷ 0 ∷ 0 ∷ 0 ∷ 0 ∷ 18 ∷ []) 3
    -- a part of 13 bytes whose first put has 8, so that no other one fits behind it: at byte 40
    ∷ fault (4 ∷ 0 ∷ 0 ∷ 0 ∷ 0 ∷ 0 ∷ 0 ∷ 0 ∷ 1 ∷ 0 ∷ 0 ∷ 0 ∷ 0 ∷ 0 ∷ 0 ∷ 0 ∷ 2 ∷ 0 ∷ 0 ∷ 0 ∷ 0 ∷ 0 ∷ 0 ∷ 0 ∷ 0 ∷ 0 ∷ 0 ∷ 0 ∷ 0 ∷ 0 ∷ 0 ∷ 0 ∷ 13 ∷ 1 ∷ 0 ∷ 0 ∷ 0 ∷ 0 ∷ 0 ∷ []) 1
    ∷ []

are_faults : AllByRecursion IsFault faults
unfolding stream_at message_at head_at changes_at change_at
are_faults = assumption
