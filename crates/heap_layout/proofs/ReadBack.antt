-- What was written of a put is read back.
use Rattle.std.proofs.Common.{◌≡◌, ℕ, ◌+◌, ◌*◌, ◌/◌, ◌%◌, ◌<◌, ◌≤◌, ◌==◌, List, ◌++◌, length, drop, ◌⊎◌, inl, inr, refl, sym, ap, ap₂, ◌∙◌, arith, length-append, append_assoc}
use Rattle.std.proofs.Math.Seq.{take-append_seam, drop-append_seam}
use Rattle.std.proofs.lemmas.Bool.{cond_both, eqb-true}
use Rattle.kv_types.specs.declared.limits.TheConstants.{MAX_VALUE_BYTES}
use Rattle.kv_types.specs.declared.record_id.RecordId.{RecordId}
use Rattle.kv_types.specs.declared.record_id.RecordId.TheVariants.{Str, Field}
use Rattle.kv_types.specs.Keyspace.{key_of}
use Rattle.pmem.specs.Runs.{written}
use Rattle.model.specs.declared.group.Put.{Put}
use Rattle.model.specs.Image.{Image, id_of, entry_word, entry_bytes, key_bytes, field_bytes, bytes_at, lines_of_bytes}
use Rattle.model.specs.ReadImage.{record_in}
use Rattle.model.specs.Layout.{directory_room}
use Rattle.model.specs.Group.{bytes_of_id, IsPlaced, HasItsLines}
use Rattle.heap_layout.specs.declared.entry.TheConstants.{STRING_KIND, FIELD_KIND}
use Rattle.heap_layout.specs.Entry.{IsEntry, entry_in}
use Rattle.heap_layout.specs.Put.{word_of_bytes, name_bytes, version_bytes, kind_number, lengths_word, field_length, put_pairs, entry_of_put, IsStorable, IsShortName}
use Rattle.heap_layout.proofs.Packing.{bytes_at-packed}
use Rattle.heap_layout.proofs.PutWords.{put_pairs-entry, put_pairs-extent}

-- the image has the entry and the extent of a put, but for the end stamp
pub record HasPut (image : Image) (stamp position : ℕ) (put : Put) : Type 0 where
  pub begin : image (entry_word put.entry.0 0) ≡ stamp
  pub position_is : image (entry_word put.entry.0 2) ≡ position
  pub first_line : image (entry_word put.entry.0 3) ≡ put.extent.first_line
  pub lines : image (entry_word put.entry.0 4) ≡ put.extent.lines
  pub kind : image (entry_word put.entry.0 5) ≡ kind_number put.id
  pub lengths : image (entry_word put.entry.0 6) ≡ lengths_word put.id
  pub value_length : image (entry_word put.entry.0 7) ≡ length put.value
  pub extent : (j : ℕ) → j < 8 * put.extent.lines → image (8 * put.extent.first_line + j) ≡ word_of_bytes (version_bytes put) (8 * j)

-- an image to which it was written
HasPut-written : (lines stamp position : ℕ) (put : Put) (old new : Image) → IsPlaced (directory_room lines) lines put
    → ((word : ℕ) → new word ≡ written (put_pairs stamp position put) old word) → HasPut new stamp position put
HasPut-written lines stamp position put old new placed is =
    let at = λ (k : ℕ) (below : k < 8). is (entry_word put.entry.0 k) ∙ put_pairs-entry lines stamp position put old k below in
    record {
      begin = at 0 (omega arith);
      position_is = at 2 (omega arith);
      first_line = at 3 (omega arith);
      lines = at 4 (omega arith);
      kind = at 5 (omega arith);
      lengths = at 6 (omega arith);
      value_length = at 7 (omega arith);
      extent = λ j below. is (8 * put.extent.first_line + j) ∙ put_pairs-extent lines stamp position put old j placed below;
    }

-- the two lengths in one word
low_length : (id : RecordId) → length (key_of id) < 65536 → lengths_word id % 65536 ≡ length (key_of id)
low_length (Str key) fits = omega arith
low_length (Field key field) fits = omega arith

both_lengths : (id : RecordId) → length (key_of id) < 65536 → lengths_word id % 65536 + lengths_word id / 65536 ≡ length (name_bytes id)
both_lengths (Str key) fits = omega arith
both_lengths (Field key field) fits = omega (arith, length-append key field)

pub length-name_bytes : (id : RecordId) → length (name_bytes id) ≡ bytes_of_id id
length-name_bytes (Str key) = refl
length-name_bytes (Field key field) = length-append key field

-- the name
id_of-name : (id : RecordId) (value : List ℕ) → length (key_of id) < 65536
    → id_of (kind_number id) (lengths_word id % 65536) (lengths_word id / 65536) (name_bytes id ++ value) ≡ id
id_of-name (Str key) value fits = rw (low_length (Str key) fits) (ap Str (take-append_seam key value))
id_of-name (Field key field) value fits =
    let low : lengths_word (Field key field) % 65536 ≡ length key = low_length (Field key field) fits in
    let high : lengths_word (Field key field) / 65536 ≡ length field = omega (arith, low, both_lengths (Field key field) fits, length-append key field) in
    rw (low, high, append_assoc key field value, take-append_seam key (field ++ value), drop-append_seam key (field ++ value), take-append_seam field value)

-- the value
drop-name : (id : RecordId) (value : List ℕ) → length (key_of id) < 65536
    → drop (lengths_word id % 65536 + lengths_word id / 65536) (name_bytes id ++ value) ≡ value
drop-name id value fits =
    ap (λ (n : ℕ). drop n (name_bytes id ++ value)) (both_lengths id fits) ∙ drop-append_seam (name_bytes id) value

-- how many bytes the entry has
pub entry_bytes-put : (image : Image) (stamp position : ℕ) (put : Put) → IsStorable put → HasPut image stamp position put
    → entry_bytes image put.entry.0 ≡ length (version_bytes put)
entry_bytes-put image stamp position put storable has =
    rw (has.lengths, has.value_length, both_lengths put.id storable.key) (sym (length-append (name_bytes put.id) put.value))

pub lines_enough : (bytes : ℕ) → bytes ≤ 64 * lines_of_bytes bytes
lines_enough bytes =
    cond_both (bytes == 0) 1 ((bytes + 63) / 64) (λ lines. bytes ≤ 64 * lines) (λ e. omega (arith, eqb-true bytes 0 e)) (λ e. omega arith)

-- its lines are enough
pub put_enough : (put : Put) → HasItsLines put → length (version_bytes put) ≤ 64 * put.extent.lines
put_enough put fits =
    omega (arith, length-append (name_bytes put.id) put.value, length-name_bytes put.id, lines_enough (bytes_of_id put.id + length put.value), fits)

-- the extent is read back
bytes_at-put : (image : Image) (stamp position : ℕ) (put : Put) → IsStorable put → HasItsLines put → HasPut image stamp position put
    → bytes_at image (image (entry_word put.entry.0 3)) (entry_bytes image put.entry.0) ≡ version_bytes put
bytes_at-put image stamp position put storable fits has =
    rw (has.first_line, entry_bytes-put image stamp position put storable has)
    (bytes_at-packed image put.extent.first_line (version_bytes put) storable.bytes (λ j below. has.extent j (omega (arith, put_enough put fits))))

-- name and value, as the words of an entry and the bytes of its extent give them
abbrev record_of_words : (kind lengths : ℕ) → List ℕ → RecordId × List ℕ
record_of_words kind lengths bytes = (id_of kind (lengths % 65536) (lengths / 65536) bytes, drop (lengths % 65536 + lengths / 65536) bytes)

abbrev record_of_put : Put → RecordId × List ℕ
record_of_put put = (put.id, put.value)

-- The name and the value of a put are read back.
pub record_in-put : (image : Image) (stamp position : ℕ) (put : Put) → IsStorable put → HasItsLines put → HasPut image stamp position put
    → record_in image put.entry.0 ≡ record_of_put put
record_in-put image stamp position put storable fits has =
    let i = put.entry.0 in
    let name = id_of-name put.id put.value storable.key in
    let rest = drop-name put.id put.value storable.key in
    ap (record_of_words (image (entry_word i 5)) (image (entry_word i 6))) (bytes_at-put image stamp position put storable fits has)
    ∙ ap₂ (λ (kind lengths : ℕ). record_of_words kind lengths (version_bytes put)) has.kind has.lengths ∙ (λ j. (name j, rest j))

-- And all of its entry.
entry_in-put : (image : Image) (stamp position : ℕ) (put : Put) → IsStorable put → HasItsLines put → HasPut image stamp position put
    → image (entry_word put.entry.0 1) ≡ 0 → entry_in image put.entry.0 ≡ entry_of_put stamp position put
entry_in-put image stamp position put storable fits has not_ended =
    let is = record_in-put image stamp position put storable fits has in
    λ j. record {
      begin = has.begin j;
      end = not_ended j;
      position = has.position_is j;
      extent = record { first_line = has.first_line j; lines = has.lines j };
      id = (is j).0;
      value = (is j).1;
    }

high_length : (id : RecordId) → length (key_of id) < 65536 → lengths_word id / 65536 ≡ field_length id
high_length (Str key) fits = omega arith
high_length (Field key field) fits = omega arith

kind_of_name : (id : RecordId) (kind field : ℕ) → kind ≡ kind_number id → field ≡ field_length id
    → ((kind ≡ STRING_KIND) × (field ≡ 0)) ⊎ (kind ≡ FIELD_KIND)
kind_of_name (Str key) kind field is none = inl (is, none)
kind_of_name (Field key f) kind field is none = inr is

-- It breaks no rule.
pub IsEntry-put : (lines : ℕ) (image : Image) (stamp position : ℕ) (put : Put) → IsPlaced (directory_room lines) lines put → HasItsLines put → IsStorable put
    → IsShortName put.id → length put.value ≤ MAX_VALUE_BYTES → HasPut image stamp position put → IsEntry lines image put.entry.0
IsEntry-put lines image stamp position put placed fits storable short small has =
    let i = put.entry.0 in
    let low : key_bytes image i ≡ length (key_of put.id) = ap (λ (n : ℕ). n % 65536) has.lengths ∙ low_length put.id storable.key in
    let high : field_bytes image i ≡ field_length put.id = ap (λ (n : ℕ). n / 65536) has.lengths ∙ high_length put.id storable.key in
    let bytes : entry_bytes image i ≡ bytes_of_id put.id + length put.value =
    omega (arith, entry_bytes-put image stamp position put storable has, length-append (name_bytes put.id) put.value, length-name_bytes put.id) in
    let exact : put.extent.lines ≡ lines_of_bytes (entry_bytes image i) = fits ∙ ap lines_of_bytes (sym bytes) in
    record {
      in_format = record {
        key = omega (arith, low, short.key);
        field = omega (arith, high, short.field);
        value = omega (arith, has.value_length, small);
        extent = omega (arith, has.first_line, exact, placed.within);
      };
      kind = kind_of_name put.id (image (entry_word i 5)) (field_bytes image i) has.kind high;
      above = omega (arith, has.first_line, placed.above);
      lines_are = has.lines ∙ exact;
    }

-- What was written is whole, and is read back.
pub put_reads : (lines stamp position : ℕ) (put : Put) (old new : Image) → IsPlaced (directory_room lines) lines put → HasItsLines put → IsStorable put → IsShortName put.id → length put.value ≤ MAX_VALUE_BYTES
    → ((word : ℕ) → new word ≡ written (put_pairs stamp position put) old word) → IsEntry lines new put.entry.0 × (entry_in new put.entry.0 ≡ entry_of_put stamp position put)
put_reads lines stamp position put old new placed fits storable short small is =
    let has = HasPut-written lines stamp position put old new placed is in (
      IsEntry-put lines new stamp position put placed fits storable short small has,
      entry_in-put new stamp position put storable fits has (is (entry_word put.entry.0 1) ∙ put_pairs-entry lines stamp position put old 1 (omega arith)),
    )
