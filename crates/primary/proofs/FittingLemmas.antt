-- The versions of an image that breaks no rule have the lines that their records need, on a device whose size an image may have.
use Rattle.std.proofs.Common.{◌≡◌, ℕ, ◌+◌, ◌<◌, ◌≤◌, inl, inr, ◌⊎◌, ◌==◌, ◌||◌, Bool, true, false, cond, nat_lt, IsTrue, drop, length, take, None, Some, List, refl, sym, ap, subst, ◌∙◌, arith}
use Rattle.std.proofs.lemmas.Bool.{cases_lt, cond-true, lt-ltb}
use Rattle.std.proofs.lemmas.List.{length-drop, length-take-le}
use Rattle.kv_types.specs.declared.record_id.RecordId.TheVariants.{Field, Str}
use Rattle.kv_types.specs.declared.refusal.Refusal.TheVariants.{WrongSize}
use Rattle.heap_layout.specs.Superblock.{super_refusal}
use Rattle.model.specs.declared.image.TheConstants.{MAX_LINES, MIN_LINES}
use Rattle.model.specs.declared.layout.Layout.{Layout}
use Rattle.model.specs.declared.record.Record.{Record}
use Rattle.model.specs.Group.{Contents, bytes_of_id, entries_of}
use Rattle.model.specs.Image.{Image, Version, bytes_at, counts, entry_bytes, entry_word, field_bytes, id_of, key_bytes, lines_of_bytes, version_in}
use Rattle.model.proofs.ReadEntryLemmas.{length-bytes_at}
use Rattle.placing.specs.Read.{Shows}
use Rattle.standby_stream.specs.Delta.{HaveTheirLines}

-- ---- the lines of a version

-- the kind of an entry is that of a field, as `id_of` has it, or that of a string, which has no field
abbrev IsNamed : ℕ → ℕ → Type 0
IsNamed kind field = ((kind == 2) ≡ true) ⊎ (((kind == 2) ≡ false) × (field ≡ 0))

-- the name of a record has the bytes that its entry tells
bytes_of_name : (kind key field : ℕ) (bytes : List ℕ) → IsNamed kind field → key + field ≤ length bytes → bytes_of_id (id_of kind key field bytes) ≡ key + field
bytes_of_name kind key field bytes (inl of_field) fit =
    let named : bytes_of_id (id_of kind key field bytes) ≡ length (take key bytes) + length (take field (drop key bytes)) =
    ap (λ (b : Bool). bytes_of_id (cond b (Field (take key bytes) (take field (drop key bytes))) (Str (take key bytes)))) of_field in
    let left = length-drop key bytes in
    omega (arith, named, length-take-le key bytes (omega (arith, fit)), length-take-le field (drop key bytes) (omega (arith, fit, left)))
bytes_of_name kind key field bytes (inr string) fit =
    let named : bytes_of_id (id_of kind key field bytes) ≡ length (take key bytes) =
    ap (λ (b : Bool). bytes_of_id (cond b (Field (take key bytes) (take field (drop key bytes))) (Str (take key bytes)))) string.0 in
    omega (arith, named, length-take-le key bytes (omega (arith, fit)), string.1)

-- an entry that has just the lines of its bytes has those that its record needs
lines_in : (r : Record) (image : Image) (i : ℕ) → IsNamed (image (entry_word i 5)) (field_bytes image i) → image (entry_word i 4) ≡ lines_of_bytes (entry_bytes image i)
    → (version_in r image i).lines ≡ lines_of_bytes (bytes_of_id (version_in r image i).id + length (version_in r image i).value)
lines_in r image i is_named lines_are =
    let key = key_bytes image i in
    let field = field_bytes image i in
    let bytes = bytes_at image (image (entry_word i 3)) (entry_bytes image i) in
    let all : length bytes ≡ entry_bytes image i = length-bytes_at image (image (entry_word i 3)) (entry_bytes image i) in
    let name = bytes_of_name (image (entry_word i 5)) key field bytes is_named (omega (arith, all)) in
    let value = length-drop (key + field) bytes in
    let same : entry_bytes image i ≡ bytes_of_id (version_in r image i).id + length (version_in r image i).value = omega (arith, name, value, all) in
    lines_are ∙ ap lines_of_bytes same

-- an entry with a version has a begin that counts
version_found : (r : Record) (image : Image) (i : ℕ) (version : Version) (counted : Bool) → counts r (image (entry_word i 0)) ≡ counted → cond counted (Some (version_in r image i)) None ≡ Some version
    → IsTrue (counts r (image (entry_word i 0))) × (version_in r image i ≡ version)
version_found r image i version true is found = (is, cc)
version_found r image i version false is found = cc

-- the versions of an image whose entries obey the format have the lines that they need
pub have_their_lines : (contents : Contents) (image : Image) → Shows contents image → HaveTheirLines contents
have_their_lines contents image shows i version is =
    let within : i < entries_of contents = elim (cases_lt i (entries_of contents)) [
      | inl within ↦ within
      | inr beyond ↦ let none : None ≡ Some version = sym (shows.consistent.beyond i beyond) ∙ is in cc
    ] in
    let found = version_found contents.current image i version (counts contents.current (image (entry_word i 0))) refl (shows.versions i within ∙ is) in
    let entry = (shows.rules.entries i within).whole found.0 in
    let is_named : IsNamed (image (entry_word i 5)) (field_bytes image i) = elim entry.kind [
      | inl string ↦ inr (ap (λ (kind : ℕ). kind == 2) string.0, string.1)
      | inr of_field ↦ inl (ap (λ (kind : ℕ). kind == 2) of_field)
    ] in
    subst (λ (one : Version). one.lines ≡ lines_of_bytes (bytes_of_id one.id + length one.value)) found.1 (lines_in contents.current image i is_named entry.lines_are)

-- ---- the size of a device

or-second : (a b : Bool) → b ≡ true → (a || b) ≡ true
or-second true b is = refl
or-second false b is = is

-- one whose superblock is not refused for its size is not above the size that an image may have
pub size-few : (layout : Layout) (lines : ℕ) (image : Image) → ¬ (super_refusal layout lines image ≡ Some WrongSize) → lines ≤ MAX_LINES
size-few layout lines image taken = elim (cases_lt MAX_LINES lines) [
  | inl large ↦ absurd (taken (cond-true _ _ _ (or-second (nat_lt lines MIN_LINES) (nat_lt MAX_LINES lines) (lt-ltb MAX_LINES lines large))))
  | inr few ↦ few
]
