-- What a version reads of an image.
use Rattle.std.proofs.Common.{◌≡◌, ℕ, ◌+◌, ◌*◌, ◌/◌, ◌%◌, ◌<◌, ◌≤◌, Bool, false, inl, inr, List, drop, sym, ap, ◌∙◌, arith}
use Rattle.model.specs.Image.{Image, Version, bytes_at, id_of, entry_word, entry_bytes, lines_of_bytes}
use Rattle.model.specs.ReadImage.{record_in}
use Rattle.heap_layout.specs.Entry.{IsEntry}
use Rattle.heap_layout.proofs.ReadBack.{lines_enough}
use Rattle.heap_layout.proofs.SameWords.{bytes_at-same}
use Rattle.wbl_engine.specs.AtRest.{IsInExtent}

-- a version, from what its entry and its extent say
abbrev pub version_of : (position first_line lines kind lengths value_length : ℕ) → List ℕ → Bool → Version
version_of position first_line lines kind lengths value_length bytes ended =
    record {
      id = id_of kind (lengths % 65536) (lengths / 65536) bytes;
      value = drop (lengths % 65536 + lengths / 65536) bytes;
      position = position;
      first_line = first_line;
      lines = lines;
      is_ended = ended;
    }

-- the version in entry i, ended or not
abbrev pub version_in_entry : Image → ℕ → Bool → Version
version_in_entry image i ended =
    version_of (image (entry_word i 2)) (image (entry_word i 3)) (image (entry_word i 4)) (image (entry_word i 5)) (image (entry_word i 6))
    (image (entry_word i 7)) (bytes_at image (image (entry_word i 3)) (entry_bytes image i)) ended

-- entry i and its extent are as in the base, but for the stamps
pub record SameEntry (base image : Image) (i : ℕ) : Type 0 where
  pub words : (k : ℕ) → 2 ≤ k → k < 8 → image (entry_word i k) ≡ base (entry_word i k)
  pub extent : (j : ℕ) → j < (entry_bytes base i + 7) / 8 → image (8 * base (entry_word i 3) + j) ≡ base (8 * base (entry_word i 3) + j)

-- the extent of an entry has all its bytes
pub same_entry : {lines : ℕ} {base image : Image} {i : ℕ} → IsEntry lines base i
    → ((k : ℕ) → 2 ≤ k → k < 8 → image (entry_word i k) ≡ base (entry_word i k))
    → ((word : ℕ) → IsInExtent base i word → image word ≡ base word) → SameEntry base image i
same_entry {lines} {base} {image} {i} entry words extent =
    record {
      words = words;
      extent = λ j below.
          extent (8 * base (entry_word i 3) + j)
          (record { low = omega arith; high = omega (arith, below, lines_enough (entry_bytes base i), entry.lines_are) });
    }

pub version_in_entry-same : (base image : Image) (i : ℕ) (ended : Bool) → SameEntry base image i
    → version_in_entry image i ended ≡ version_in_entry base i ended
version_in_entry-same base image i ended same =
    let at2 = same.words 2 (omega arith) (omega arith) in
    let at3 = same.words 3 (omega arith) (omega arith) in
    let at4 = same.words 4 (omega arith) (omega arith) in
    let at5 = same.words 5 (omega arith) (omega arith) in
    let at6 = same.words 6 (omega arith) (omega arith) in
    let at7 = same.words 7 (omega arith) (omega arith) in
    let bytes : entry_bytes image i ≡ entry_bytes base i = cc in
    let extent : bytes_at image (base (entry_word i 3)) (entry_bytes base i) ≡ bytes_at base (base (entry_word i 3)) (entry_bytes base i) =
    bytes_at-same base image (base (entry_word i 3)) (entry_bytes base i) same.extent in
    let all : bytes_at image (image (entry_word i 3)) (entry_bytes image i) ≡ bytes_at base (base (entry_word i 3)) (entry_bytes base i) =
    ap (λ (line : ℕ). bytes_at image line (entry_bytes image i)) at3 ∙ ap (bytes_at image (base (entry_word i 3))) bytes ∙ extent in
    cc

pub record_in-same : (base image : Image) (i : ℕ) → SameEntry base image i → record_in image i ≡ record_in base i
record_in-same base image i same = ap (λ (v : Version). (v.id, v.value)) (version_in_entry-same base image i false same)

-- the rules of an entry look at its words after the stamps alone
pub entry-same : (lines : ℕ) (base image : Image) (i : ℕ) → SameEntry base image i → IsEntry lines base i → IsEntry lines image i
entry-same lines base image i same entry =
    let at3 = same.words 3 (omega arith) (omega arith) in
    let at4 = same.words 4 (omega arith) (omega arith) in
    let at5 = same.words 5 (omega arith) (omega arith) in
    let at6 = same.words 6 (omega arith) (omega arith) in
    let at7 = same.words 7 (omega arith) (omega arith) in
    let bytes : entry_bytes image i ≡ entry_bytes base i = cc in
    let room : lines_of_bytes (entry_bytes image i) ≡ lines_of_bytes (entry_bytes base i) = ap lines_of_bytes bytes in
    record {
      in_format = record {
        key = omega (arith, at6, entry.in_format.key);
        field = omega (arith, at6, entry.in_format.field);
        value = omega (arith, at7, entry.in_format.value);
        extent = omega (arith, at3, room, entry.in_format.extent);
      };
      kind = elim entry.kind [
        | inl string ↦ inl (at5 ∙ string.0, ap (λ (n : ℕ). n / 65536) at6 ∙ string.1)
        | inr field ↦ inr (at5 ∙ field)
      ];
      above = omega (arith, at3, entry.above);
      lines_are = at4 ∙ entry.lines_are ∙ sym room;
    }
