-- What an entry holds that was copied from another, with its extent.
use Rattle.std.proofs.Common.{◌≡◌, ℕ, zero, suc, ◌+◌, ◌*◌, ◌/◌, ◌<◌, ◌≤◌, List, inl, inr, take, refl, sym, ap, ◌∙◌, arith}
use Rattle.std.specs.List.{flat_map}
use Rattle.std.specs.Int.{w64, to_le_bytes}
use Rattle.pmem.specs.Device.{State}
use Rattle.pmem.specs.Crash.{IsImage, image_of}
use Rattle.pmem.specs.Runs.{IsLine, Staged, IsStored, lines_from, written}
use Rattle.pmem.proofs.Staging.{IsLine-append_left, IsLine-append_right, IsLine-lines_from, IsStored-append, IsStored-pairs_from, pairs_from-outside, written-append, written-outside, written-pairs_from}
use Rattle.std.proofs.Common.{get_or, ◌∷◌, [], ◌-◌, ◌⊎◌}
use Rattle.model.specs.declared.record.Record.{Record}
use Rattle.model.specs.Image.{Image, bytes_at, counts, entry_bytes, entry_line, entry_word, first_extent_line, lines_of_bytes, version_in, words_from}
use Rattle.model.proofs.ReadEntryLemmas.{length-words_from}
use Rattle.heap_layout.specs.Entry.{IsEntry}
use Rattle.heap_layout.proofs.ReadBack.{lines_enough}
use Rattle.wbl_migrate.specs.Ended.{copy_lines, copy_pairs, entry_copy, extent_copy, words_after_begin}
use Rattle.wbl_migrate.proofs.EndedRuns.{get_or-words_from}

-- entry `to` of the image is entry `from` of the base, with another first line, but for the begin; and so is its extent
pub record IsCopied (base image : Image) (from to to_line : ℕ) : Type 0 where
  pub end : image (entry_word to 1) ≡ base (entry_word from 1)
  pub position : image (entry_word to 2) ≡ base (entry_word from 2)
  pub first_line : image (entry_word to 3) ≡ to_line
  pub count : image (entry_word to 4) ≡ base (entry_word from 4)
  pub kind : image (entry_word to 5) ≡ base (entry_word from 5)
  pub lengths : image (entry_word to 6) ≡ base (entry_word from 6)
  pub value_length : image (entry_word to 7) ≡ base (entry_word from 7)
  pub extent : (j : ℕ) → j < 8 * base (entry_word from 4) → image (8 * to_line + j) ≡ base (8 * base (entry_word from 3) + j)

-- ---- what is read

words_from-moved : (base image : Image) (first to count : ℕ) → ((j : ℕ) → j < count → image (to + j) ≡ base (first + j))
    → words_from image to count ≡ words_from base first count
words_from-moved base image first to zero same = refl
words_from-moved base image first to (suc count) same =
    let e : first ≡ first + 0 = omega arith in
    let f : to ≡ to + 0 = omega arith in
    let head : image to ≡ base first = ap image f ∙ same 0 (omega arith) ∙ ap base (sym e) in
    let rest = words_from-moved base image (first + 1) (to + 1) count
    (λ j below.
    let e' : (first + 1) + j ≡ first + suc j = omega arith in
    let f' : (to + 1) + j ≡ to + suc j = omega arith in
    ap image f' ∙ same (suc j) (omega (arith, below)) ∙ ap base (sym e')) in
    cc

bytes_at-moved : (base image : Image) (line to_line bytes : ℕ)
    → ((j : ℕ) → j < (bytes + 7) / 8 → image (8 * to_line + j) ≡ base (8 * line + j)) → bytes_at image to_line bytes ≡ bytes_at base line bytes
bytes_at-moved base image line to_line bytes same =
    ap (λ (words : List ℕ). take bytes (flat_map (to_le_bytes w64) words)) (words_from-moved base image (8 * line) (8 * to_line) ((bytes + 7) / 8) same)

module _ {lines : ℕ} {base image : Image} {from to to_line : ℕ} (entry : IsEntry lines base from) (copied : IsCopied base image from to to_line) where
  copied_bytes : entry_bytes image to ≡ entry_bytes base from
  copied_bytes = let at6 = copied.lengths in let at7 = copied.value_length in cc

  -- the version, but for its first line
  pub copied_version : (r : Record) → version_in r image to ≡ record (version_in r base from) { first_line = to_line }
  copied_version r =
      let at2 = copied.position in
      let at3 = copied.first_line in
      let at4 = copied.count in
      let at5 = copied.kind in
      let at6 = copied.lengths in
      let at7 = copied.value_length in
      let bytes : entry_bytes image to ≡ entry_bytes base from = copied_bytes in
      let extent : bytes_at image to_line (entry_bytes base from) ≡ bytes_at base (base (entry_word from 3)) (entry_bytes base from) =
      bytes_at-moved base image (base (entry_word from 3)) to_line (entry_bytes base from)
      (λ j below. copied.extent j (omega (arith, below, lines_enough (entry_bytes base from), entry.lines_are))) in
      let all : bytes_at image (image (entry_word to 3)) (entry_bytes image to) ≡ bytes_at base (base (entry_word from 3)) (entry_bytes base from) =
      ap (λ (line : ℕ). bytes_at image line (entry_bytes image to)) at3 ∙ ap (bytes_at image to_line) bytes ∙ extent in
      let ended : counts r (image (entry_word to 1)) ≡ counts r (base (entry_word from 1)) = ap (counts r) copied.end in
      cc

  -- and it breaks no rule where its lines do not
  pub copied_entry : first_extent_line lines ≤ to_line → to_line + base (entry_word from 4) ≤ lines → IsEntry lines image to
  copied_entry above within =
      let room : lines_of_bytes (entry_bytes image to) ≡ lines_of_bytes (entry_bytes base from) = ap lines_of_bytes copied_bytes in
      record {
        in_format = record {
          key = omega (arith, copied.lengths, entry.in_format.key);
          field = omega (arith, copied.lengths, entry.in_format.field);
          value = omega (arith, copied.value_length, entry.in_format.value);
          extent = omega (arith, copied.first_line, room, within, entry.lines_are);
        };
        kind = elim entry.kind [
          | inl string ↦ inl (copied.kind ∙ string.0, ap (λ (n : ℕ). n / 65536) copied.lengths ∙ string.1)
          | inr field ↦ inr (copied.kind ∙ field)
        ];
        above = omega (arith, copied.first_line, above);
        lines_are = copied.count ∙ entry.lines_are ∙ sym room;
      }

-- ---- what is stored

-- a pair of a copy stores to the new lines, or to the new entry after its begin
pub record IsOfLines (to_line count word : ℕ) : Type 0 where
  pub low : 8 * to_line ≤ word
  pub high : word < 8 * (to_line + count)

pub record IsOfCopy (to word : ℕ) : Type 0 where
  pub low : entry_word to 1 ≤ word
  pub high : word < entry_word to 1 + 7

pub copy_where : (image : Image) (from to to_line word x : ℕ) → IsStored (copy_pairs image from to to_line) word x
    → IsOfLines to_line (image (entry_word from 4)) word
    ⊎ (IsOfCopy to word × (get_or (words_after_begin image from to_line) (word - entry_word to 1) 0 ≡ x))
copy_where image from to to_line word x stored =
    let line : ℕ = image (entry_word from 3) in
    let count : ℕ = image (entry_word from 4) in
    elim (IsStored-append (extent_copy image line to_line count) (entry_copy image from to to_line) word x stored) [
      | inl extent ↦
          let at = IsStored-pairs_from (8 * to_line) (words_from image (8 * line) (8 * count)) word x extent in
          inl (record { low = at.0; high = omega (arith, at.1, length-words_from image (8 * line) (8 * count)) })
      | inr entry ↦
          let at = IsStored-pairs_from (entry_word to 1) (words_after_begin image from to_line) word x entry in
          inr (record { low = at.0; high = at.1 }, at.2)
    ]

module _ (image : Image) (from to to_line : ℕ) where
  -- the entry, once all is stored
  pub written_entry : (k : ℕ) → k < 7 → written (copy_pairs image from to to_line) image (entry_word to 1 + k) ≡ get_or (words_after_begin image from to_line) k 0
  written_entry k below =
      let extent : List (ℕ × ℕ) = extent_copy image (image (entry_word from 3)) to_line (image (entry_word from 4)) in
      let entry : List (ℕ × ℕ) = entry_copy image from to to_line in
      ap (λ (f : ℕ → ℕ). f (entry_word to 1 + k)) (written-append extent entry image)
      ∙ written-pairs_from (entry_word to 1) (words_after_begin image from to_line) (written extent image) k below

  -- and the extent
  written_extent : entry_word to 1 + 7 ≤ 8 * to_line → (j : ℕ) → j < 8 * image (entry_word from 4)
      → written (copy_pairs image from to to_line) image (8 * to_line + j) ≡ image (8 * image (entry_word from 3) + j)
  written_extent above j below =
      let line : ℕ = image (entry_word from 3) in
      let count : ℕ = image (entry_word from 4) in
      let extent : List (ℕ × ℕ) = extent_copy image line to_line count in
      let entry : List (ℕ × ℕ) = entry_copy image from to to_line in
      ap (λ (f : ℕ → ℕ). f (8 * to_line + j)) (written-append extent entry image)
      ∙ written-outside entry (written extent image) (8 * to_line + j)
      (pairs_from-outside (entry_word to 1) (words_after_begin image from to_line) (8 * to_line + j) (inr (omega (arith, above))))
      ∙ written-pairs_from (8 * to_line) (words_from image (8 * line) (8 * count)) image j (omega (arith, below, length-words_from image (8 * line) (8 * count)))
      ∙ get_or-words_from image (8 * line) (8 * count) j below

  pub entry_is_line : (k : ℕ) → k < 7 → IsLine (copy_lines image from to to_line) ((entry_word to 1 + k) / 8)
  entry_is_line k below =
      IsLine-append_right (lines_from to_line (image (entry_word from 4))) (entry_line to ∷ []) ((entry_word to 1 + k) / 8) (inl (omega (arith, below)))

  extent_is_line : (j : ℕ) → j < 8 * image (entry_word from 4) → IsLine (copy_lines image from to to_line) ((8 * to_line + j) / 8)
  extent_is_line j below =
      IsLine-append_left (lines_from to_line (image (entry_word from 4))) (entry_line to ∷ []) ((8 * to_line + j) / 8)
      (IsLine-lines_from to_line (image (entry_word from 4)) ((8 * to_line + j) / 8) (omega arith) (omega (arith, below)))

-- Once it is durable each crash leaves it whole.
pub staged_copied : {a b : State} (from to to_line : ℕ) → entry_word to 1 + 7 ≤ 8 * to_line
    → Staged a b (copy_pairs (image_of a.words) from to to_line) (copy_lines (image_of a.words) from to to_line)
    → (image : Image) → IsImage b.words image → IsCopied (image_of a.words) image from to to_line
staged_copied {a} {b} from to to_line above staged image is =
    let base : Image = image_of a.words in
    let entry : (k : ℕ) → k < 7 → image (entry_word to 1 + k) ≡ get_or (words_after_begin base from to_line) k 0 =
    λ k below.
    (staged.certain (entry_word to 1 + k) (entry_is_line base from to to_line k below)).only (image (entry_word to 1 + k)) (is (entry_word to 1 + k))
    ∙ written_entry base from to to_line k below in
    let at : (k : ℕ) → entry_word to 1 + k ≡ entry_word to (1 + k) = λ k. omega arith in
    record {
      end = ap image (sym (at 0)) ∙ entry 0 (omega arith);
      position = ap image (sym (at 1)) ∙ entry 1 (omega arith);
      first_line = ap image (sym (at 2)) ∙ entry 2 (omega arith);
      count = ap image (sym (at 3)) ∙ entry 3 (omega arith);
      kind = ap image (sym (at 4)) ∙ entry 4 (omega arith);
      lengths = ap image (sym (at 5)) ∙ entry 5 (omega arith);
      value_length = ap image (sym (at 6)) ∙ entry 6 (omega arith);
      extent = λ j below.
          (staged.certain (8 * to_line + j) (extent_is_line base from to to_line j below)).only (image (8 * to_line + j)) (is (8 * to_line + j))
          ∙ written_extent base from to to_line above j below;
    }
