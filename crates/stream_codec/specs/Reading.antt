-- The message at the front of bytes, computed. The contract of `stream_codec::frames_are_read` says that it is the one whose bytes these are.
use Rattle.std.specs.Prelude.{ℕ, zero, suc, ◌+◌, ◌-◌, ◌^◌, List, [], ◌∷◌, length, min, ◌==◌, if◌then◌else◌, nat_le, nat_lt, Option, None, Some, Ok, Err}
use Rattle.kv_types.specs.declared.limits.TheConstants.{MAX_KEY_BYTES, MAX_VALUE_BYTES}
use Rattle.kv_types.specs.declared.record_id.RecordId.TheVariants.{Str, Field}
use Rattle.kv_types.specs.declared.change.Change.{Change}
use Rattle.kv_types.specs.declared.change.Change.TheVariants.{Put, Drop, DropKey, Clear}
use Rattle.kv_types.specs.Change.{change_text}
use Rattle.kv_types.specs.declared.stop.Stop.TheVariants.{Short, Broken}
use Rattle.kv_types.specs.Reader.{◌>>=◌}
use Rattle.stream_codec.specs.declared.message.TheConstants.{LEAST_PUT_BYTES, MAX_BODY_BYTES, MAX_PART_BYTES}
use Rattle.stream_codec.specs.declared.message.GroupHead.{GroupHead}
use Rattle.stream_codec.specs.Message.{Sent, Changes, Acknowledged, WantsCopy, CopiesPart, EndsCopy}
use Rattle.stream_codec.specs.Bytes.{Outcome, or_else, two_places, four_places, eight_places, number_at, bytes_at, counted_at}
use Rattle.stream_codec.specs.declared.change.Body.{Body}
use Rattle.stream_codec.specs.declared.change.Body.TheVariants as bodies
use Rattle.stream_codec.specs.declared.change.Kind.{Kind}
use Rattle.stream_codec.specs.declared.change.Kind.TheVariants as kind
use Rattle.stream_codec.specs.declared.head.HeadKind.{HeadKind}
use Rattle.stream_codec.specs.declared.head.HeadKind.TheVariants as head_kind
use Rattle.stream_codec.specs.declared.head.Head.{Head}
use Rattle.stream_codec.specs.declared.head.Head.TheVariants as head

-- ---- changes

-- the kind of a change, by its first byte
abbrev pub kind_of : ℕ → Option Kind
kind_of byte =
    if byte == 1 then Some kind.PutString
    else (if byte == 2 then Some kind.PutField
    else (if byte == 3 then Some kind.DropString
    else (if byte == 4 then Some kind.DropField
    else (if byte == 5 then Some kind.DropKey
    else (if byte == 6 then Some kind.Clear
    else None)))))

-- the kind of a put
abbrev pub put_kind_of : ℕ → Option Kind
put_kind_of byte = if byte == 1 then Some kind.PutString else (if byte == 2 then Some kind.PutField else None)

-- the kind of what such a body holds
abbrev pub kind_in : Body → ℕ → Option Kind
kind_in bodies.Changes byte = kind_of byte
kind_in bodies.Puts byte = put_kind_of byte

-- how many bytes a change of a kind has at least: its first byte and its lengths
abbrev pub least_size : Kind → ℕ
least_size kind.PutString = 7
least_size kind.PutField = 9
least_size kind.DropString = 3
least_size kind.DropField = 5
least_size kind.DropKey = 3
least_size kind.Clear = 1

-- the kind of a change of at most `left` bytes
abbrev pub kind_within : ℕ → List ℕ → Option Kind → Outcome Kind
kind_within left bytes None = Err (Broken tt)
kind_within left bytes (Some kind) = if nat_le (least_size kind) left then Ok (kind, bytes) else Err (Broken tt)

abbrev pub kind_at : Body → ℕ → List ℕ → Outcome Kind
kind_at body left [] = Err Short
kind_at body left (byte ∷ bytes) = kind_within left bytes (kind_in body byte)

-- a key or a field with its length, where `spare` bytes are left for the bytes of keys, fields and values
abbrev pub name_at : ℕ → List ℕ → Outcome (List ℕ)
name_at spare bytes = counted_at two_places (min MAX_KEY_BYTES spare) bytes

-- a length of so many bytes, or one that leaves enough of them for another put
abbrev pub put_count_within : ℕ → List ℕ → Outcome ℕ
put_count_within spare bytes =
    if nat_lt MAX_VALUE_BYTES spare then number_at four_places 0 (min (spare - LEAST_PUT_BYTES) MAX_VALUE_BYTES) bytes
    else or_else (number_at four_places 0 (spare - LEAST_PUT_BYTES) bytes) (number_at four_places spare spare bytes)

-- the length of the value of a put, behind which nothing is left of `spare` bytes, or enough for another put
abbrev pub put_count_at : ℕ → List ℕ → Outcome ℕ
put_count_at spare bytes = if nat_lt spare LEAST_PUT_BYTES then number_at four_places spare spare bytes else put_count_within spare bytes

-- the length of a value
abbrev pub count_at : Body → ℕ → List ℕ → Outcome ℕ
count_at bodies.Changes spare bytes = number_at four_places 0 (min MAX_VALUE_BYTES spare) bytes
count_at bodies.Puts spare bytes = put_count_at spare bytes

abbrev pub value_at : Body → ℕ → List ℕ → Outcome (List ℕ)
value_at body spare bytes = count_at body spare bytes >>= λ count. bytes_at count.0 count.1

-- the names and the value of a change, behind its first byte
abbrev pub change_of : Body → Kind → ℕ → List ℕ → Outcome Change
change_of body kind.PutString spare bytes =
    name_at spare bytes >>= λ key. value_at body (spare - length key.0) key.1 >>= λ value. Ok (Put (Str key.0) value.0, value.1)
change_of body kind.PutField spare bytes =
    name_at spare bytes >>= λ key. name_at (spare - length key.0) key.1 >>= λ field. value_at body (spare - length key.0 - length field.0) field.1 >>= λ value.
    Ok (Put (Field key.0 field.0) value.0, value.1)
change_of body kind.DropString spare bytes = name_at spare bytes >>= λ key. Ok (Drop (Str key.0), key.1)
change_of body kind.DropField spare bytes =
    name_at spare bytes >>= λ key. name_at (spare - length key.0) key.1 >>= λ field. Ok (Drop (Field key.0 field.0), field.1)
change_of body kind.DropKey spare bytes = name_at spare bytes >>= λ key. Ok (DropKey key.0, key.1)
change_of body kind.Clear spare bytes = Ok (Clear, bytes)

-- a change of at most `left` bytes
unfoldable pub change_at : Body → ℕ → List ℕ → Outcome Change
change_at body left bytes = kind_at body left bytes >>= λ kind. change_of body kind.0 (left - least_size kind.0) kind.1

-- The changes that make up exactly `left` bytes, at most so many of them as are told first: each has at least one byte.
abbrev pub changes_within : Body → ℕ → ℕ → List ℕ → Outcome (List Change)
changes_within body zero left bytes = Ok ([], bytes)
changes_within body (suc most) left bytes =
    if left == 0 then Ok ([], bytes)
    else (change_at body left bytes >>= λ change. changes_within body most (left - length (change_text change.0)) change.1 >>= λ others.
    Ok (change.0 ∷ others.0, others.1))

unfoldable pub changes_at : Body → ℕ → List ℕ → Outcome (List Change)
changes_at body left bytes = changes_within body left left bytes

-- ---- messages

abbrev pub head_kind_of : ℕ → Option HeadKind
head_kind_of byte =
    if byte == 1 then Some head_kind.Group
    else (if byte == 2 then Some head_kind.Ack
    else (if byte == 3 then Some head_kind.Wanted
    else (if byte == 4 then Some head_kind.Part
    else (if byte == 5 then Some head_kind.End
    else None))))

abbrev pub known : List ℕ → Option HeadKind → Outcome HeadKind
known bytes None = Err (Broken tt)
known bytes (Some kind) = Ok (kind, bytes)

abbrev pub head_kind_at : List ℕ → Outcome HeadKind
head_kind_at [] = Err Short
head_kind_at (byte ∷ bytes) = known bytes (head_kind_of byte)

abbrev pub long_at : ℕ → ℕ → List ℕ → Outcome ℕ
long_at least most bytes = number_at eight_places least most bytes

-- the numbers of a message, behind its first byte
abbrev pub head_of : HeadKind → List ℕ → Outcome Head
head_of head_kind.Group bytes =
    long_at 0 (2 ^ 64 - 1) bytes >>= λ epoch. long_at 0 (2 ^ 64 - 2) epoch.1 >>= λ before. long_at (before.0 + 1) (2 ^ 64 - 1) before.1 >>= λ after.
    long_at 0 MAX_BODY_BYTES after.1 >>= λ size. Ok (head.Group epoch.0 before.0 after.0 size.0, size.1)
head_of head_kind.Ack bytes =
    long_at 0 (2 ^ 64 - 1) bytes >>= λ epoch. long_at 0 (2 ^ 64 - 1) epoch.1 >>= λ position. Ok (head.Ack (record { epoch = epoch.0; position = position.0 }), position.1)
head_of head_kind.Wanted bytes = long_at 0 (2 ^ 64 - 1) bytes >>= λ epoch. Ok (head.Wanted epoch.0, epoch.1)
head_of head_kind.Part bytes =
    long_at 0 (2 ^ 64 - 1) bytes >>= λ epoch. long_at 0 (2 ^ 64 - 1) epoch.1 >>= λ position. long_at 0 (2 ^ 64 - 1) position.1 >>= λ number.
    long_at LEAST_PUT_BYTES MAX_PART_BYTES number.1 >>= λ size. Ok (head.Part epoch.0 position.0 number.0 size.0, size.1)
head_of head_kind.End bytes =
    long_at 0 (2 ^ 64 - 1) bytes >>= λ epoch. long_at 0 (2 ^ 64 - 1) epoch.1 >>= λ position. long_at 0 (2 ^ 64 - 1) position.1 >>= λ parts.
    Ok (head.End epoch.0 position.0 parts.0, parts.1)

-- all of a message but the changes of a group and the puts of a part
unfoldable pub head_at : List ℕ → Outcome Head
head_at bytes = head_kind_at bytes >>= λ kind. head_of kind.0 kind.1

-- the numbers of a group's frame, if they are one's
abbrev pub group_in : Head → Option GroupHead
group_in (head.Group epoch before after size) = Some (record { epoch = epoch; before = before; after = after; size = size })
group_in other = None

-- the numbers of a group's frame, if they are all there
abbrev pub group_of : Outcome Head → Option GroupHead
group_of (Ok read) = group_in read.0
group_of (Err stop) = None

-- those of the frame that is begun, by the bytes that were fed and not yet given; after a fault there is none
abbrev pub group_begun : Option (List ℕ) → Option GroupHead
group_begun None = None
group_begun (Some unread) = group_of (head_at unread)

-- a message, behind its numbers
abbrev pub body_at : Head → List ℕ → Outcome Sent
body_at (head.Group epoch before after size) bytes = changes_at bodies.Changes size bytes >>= λ changes. Ok (Changes epoch before after changes.0, changes.1)
body_at (head.Ack ack) bytes = Ok (Acknowledged ack.epoch ack.position, bytes)
body_at (head.Wanted epoch) bytes = Ok (WantsCopy epoch, bytes)
body_at (head.Part epoch position number size) bytes = changes_at bodies.Puts size bytes >>= λ puts. Ok (CopiesPart epoch position number puts.0, puts.1)
body_at (head.End epoch position parts) bytes = Ok (EndsCopy epoch position parts, bytes)

-- the message at the front
unfoldable pub message_at : List ℕ → Outcome Sent
message_at bytes = head_at bytes >>= λ head. body_at head.0 head.1
