-- Where a put stores, and what it leaves there.
use Rattle.std.proofs.Common.{◌≡◌, ℕ, ◌+◌, ◌-◌, ◌*◌, ◌<◌, ◌≤◌, List, ◌⊎◌, inl, inr, get_or, sym, ap, ◌∙◌, arith}
use Rattle.pmem.specs.Runs.{pairs_from, IsStored, IsOutside, written}
use Rattle.pmem.proofs.Staging.{IsStored-append, IsStored-pairs_from, pairs_from-outside, written-append, written-outside, written-pairs_from}
use Rattle.model.specs.declared.group.Put.{Put}
use Rattle.model.specs.Image.{Image, entry_word}
use Rattle.model.specs.Layout.{directory_room}
use Rattle.model.specs.Group.{IsPlaced}
use Rattle.heap_layout.specs.Put.{word_of_bytes, version_bytes, entry_words, extent_words, put_pairs}
use Rattle.heap_layout.proofs.Packing.{length-packed, get_or-packed}

-- the word belongs to the put's entry
pub record IsOfEntry (put : Put) (word : ℕ) : Type 0 where
  pub low : entry_word put.entry.0 0 ≤ word
  pub high : word < entry_word put.entry.0 0 + 8

-- the word belongs to its extent
pub record IsOfExtent (put : Put) (word : ℕ) : Type 0 where
  pub low : 8 * put.extent.first_line ≤ word
  pub high : word < 8 * (put.extent.first_line + put.extent.lines)

-- each pair of a put stores to its entry or to its extent
pub put_pairs-where : (stamp position : ℕ) (put : Put) (word x : ℕ) → IsStored (put_pairs stamp position put) word x
    → (IsOfExtent put word) ⊎ (IsOfEntry put word × (get_or (entry_words stamp position put) (word - entry_word put.entry.0 0) 0 ≡ x))
put_pairs-where stamp position put word x stored =
    elim (IsStored-append (pairs_from (8 * put.extent.first_line) (extent_words put)) (pairs_from (entry_word put.entry.0 0) (entry_words stamp position put)) word x stored) [
      | inl extent ↦
          let at = IsStored-pairs_from (8 * put.extent.first_line) (extent_words put) word x extent in
          inl (record { low = at.0; high = omega (arith, at.1, length-packed (version_bytes put) 0 (8 * put.extent.lines)) })
      | inr entry ↦
          let at = IsStored-pairs_from (entry_word put.entry.0 0) (entry_words stamp position put) word x entry in
          inr (record { low = at.0; high = at.1 }, at.2)
    ]

-- elsewhere it stores nothing
pub put_pairs-outside : (stamp position : ℕ) (put : Put) (word : ℕ) → (IsOfExtent put word → ⊥) → (IsOfEntry put word → ⊥)
    → IsOutside (put_pairs stamp position put) word
put_pairs-outside stamp position put word extent entry x stored =
    elim (put_pairs-where stamp position put word x stored) [ inl h ↦ extent h | inr h ↦ entry h.0 ]

-- the entry of a put, written
pub put_pairs-entry : (lines stamp position : ℕ) (put : Put) (image : Image) (k : ℕ) → k < 8
    → written (put_pairs stamp position put) image (entry_word put.entry.0 k) ≡ get_or (entry_words stamp position put) k 0
put_pairs-entry lines stamp position put image k below =
    let extent : List (ℕ × ℕ) = pairs_from (8 * put.extent.first_line) (extent_words put) in
    let entry : List (ℕ × ℕ) = pairs_from (entry_word put.entry.0 0) (entry_words stamp position put) in
    let e : entry_word put.entry.0 0 + k ≡ entry_word put.entry.0 k = omega arith in
    ap (λ (f : ℕ → ℕ). f (entry_word put.entry.0 k)) (written-append extent entry image)
    ∙ ap (written entry (written extent image)) (sym e)
    ∙ written-pairs_from (entry_word put.entry.0 0) (entry_words stamp position put) (written extent image) k below

-- its extent
pub put_pairs-extent : (lines stamp position : ℕ) (put : Put) (image : Image) (j : ℕ) → IsPlaced (directory_room lines) lines put → j < 8 * put.extent.lines
    → written (put_pairs stamp position put) image (8 * put.extent.first_line + j) ≡ word_of_bytes (version_bytes put) (8 * j)
put_pairs-extent lines stamp position put image j at below =
    let extent : List (ℕ × ℕ) = pairs_from (8 * put.extent.first_line) (extent_words put) in
    let entry : List (ℕ × ℕ) = pairs_from (entry_word put.entry.0 0) (entry_words stamp position put) in
    let e : 0 + 8 * j ≡ 8 * j = omega arith in
    ap (λ (f : ℕ → ℕ). f (8 * put.extent.first_line + j)) (written-append extent entry image)
    ∙ written-outside entry (written extent image) (8 * put.extent.first_line + j)
    (pairs_from-outside (entry_word put.entry.0 0) (entry_words stamp position put) (8 * put.extent.first_line + j)
    (inr (omega (arith, at.entry, at.above))))
    ∙ written-pairs_from (8 * put.extent.first_line) (extent_words put) image j (omega (arith, length-packed (version_bytes put) 0 (8 * put.extent.lines)))
    ∙ get_or-packed (version_bytes put) 0 (8 * put.extent.lines) j below
    ∙ ap (word_of_bytes (version_bytes put)) e
