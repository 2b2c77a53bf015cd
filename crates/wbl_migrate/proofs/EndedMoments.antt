-- What a crash leaves at any moment while a version is moved that has ended, and the stamps of its copy.
use Rattle.std.proofs.Common.{◌≡◌, ℕ, ◌+◌, List, [], ◌∷◌, inl, inr, refl, sym, subst, ◌∙◌, arith}
use Rattle.std.specs.Prelude.{◌==◌, ◌≢◌}
use Rattle.std.proofs.lemmas.Bool.{cond-true, eq-eqb}
use Rattle.kv_types.specs.Keyspace.{Keyspace}
use Rattle.pmem.specs.Device.{MayBe, State}
use Rattle.pmem.specs.Crash.{IsImage, image_of}
use Rattle.pmem.specs.Runs.{IsOutside, IsPartlyStored, LeavesOnly, Staged}
use Rattle.pmem.proofs.Leaving.{LeavesOnly-then, LeavesOnly-weaken}
use Rattle.pmem.proofs.Staging.{written-outside}
use Rattle.model.specs.declared.record.Record.{Record}
use Rattle.model.specs.Group.{Contents, entries_of}
use Rattle.model.specs.Image.{Holds, Image, IsMapOf, Version, entry_line, entry_word, version_at}
use Rattle.model.proofs.MapLemmas.{IsMapOf-same}
use Rattle.wbl_record.proofs.Mixing.{image_of-is}
use Rattle.wbl_engine.specs.Contents.{IsDurable, Keeps}
use Rattle.wbl_migrate.specs.Ended.{IsCopyable, IsMovable, IsMoving, KeepsMoving, copy_lines, copy_pairs}
use Rattle.wbl_migrate.proofs.EndedCopies.{copy_where, entry_is_line, written_entry}
use Rattle.wbl_migrate.proofs.EndedMaps.{copied_map, moved_map}
use Rattle.wbl_migrate.proofs.EndedImages.{copyable, copy_keeps, begin_keeps, begun_durable, erase_keeps}

-- ---- at any moment

module _ {contents : Contents} {from to to_line : ℕ} {version : Version} (may : IsMovable contents from to to_line version) {a b : State}
    (durable : IsDurable a contents) where
  pub first_moments : LeavesOnly a b (IsPartlyStored (copy_pairs (image_of a.words) from to to_line) a.words)
      → LeavesOnly a b (KeepsMoving from to to_line contents)
  first_moments moments = LeavesOnly-weaken (KeepsMoving from to to_line contents) (λ image partly. inl (copy_keeps may a durable image partly)) moments

  module _ {c : State}
      (staged : Staged a b (copy_pairs (image_of a.words) from to to_line) (copy_lines (image_of a.words) from to to_line)) where
    pub second_moments : LeavesOnly b c (IsPartlyStored ((entry_word to 0, image_of b.words (entry_word from 0)) ∷ []) b.words)
        → LeavesOnly a c (KeepsMoving from to to_line contents)
    second_moments moments =
        LeavesOnly-then (first_moments staged.moments)
        (LeavesOnly-weaken (KeepsMoving from to to_line contents)
        (λ image partly. elim (begin_keeps may a durable staged image partly) [ inl old ↦ inl old | inr copied ↦ inr (inl copied) ]) moments)

    pub third_moments : {e : State} → Staged b c ((entry_word to 0, image_of b.words (entry_word from 0)) ∷ []) (entry_line to ∷ [])
        → LeavesOnly c e (IsPartlyStored ((entry_word from 0, 0) ∷ []) c.words) → LeavesOnly a e (KeepsMoving from to to_line contents)
    third_moments begun moments =
        LeavesOnly-then (second_moments begun.moments)
        (LeavesOnly-weaken (KeepsMoving from to to_line contents)
        (λ image partly.
        elim (erase_keeps may c (begun_durable may a durable staged begun) image partly) [ inl copied ↦ inr (inl copied) | inr moved ↦ inr (inr moved) ]) moments)

-- The record and the map are the same in each.
keeps_holds : {contents : Contents} {image : Image} (s : Keyspace) → Keeps contents image → IsMapOf contents.versions (entries_of contents) s
    → Holds contents.lines contents.current s image
keeps_holds {contents} {image} s keeps map =
    record {
      superblock = keeps.superblock;
      has_record = keeps.has_record;
      map = IsMapOf-same contents.versions (version_at contents.current image) (entries_of contents) s (λ i within. sym (keeps.versions i within)) map;
    }

pub moving_holds : {a e : State} {contents : Contents} {from to to_line : ℕ} {version : Version} {r : Record} → contents.current ≡ r
    → IsMovable contents from to to_line version → (s : Keyspace) → IsMapOf contents.versions (entries_of contents) s
    → LeavesOnly a e (KeepsMoving from to to_line contents) → LeavesOnly a e (Holds contents.lines r s)
moving_holds {a} {e} {contents} {from} {to} {to_line} {version} {r} is may s map moments =
    subst (λ (q : Record). LeavesOnly a e (Holds contents.lines q s)) is
    (LeavesOnly-weaken (Holds contents.lines contents.current s)
    (λ image keeps.
    elim keeps [
      | inl old ↦ keeps_holds s old map
      | inr (inl copied) ↦ keeps_holds s copied ((copied_map may s).0 map)
      | inr (inr moved) ↦ keeps_holds s moved ((moved_map may s).0 map)
    ]) moments)

-- what the first step asks
pub may_copy : {r : Record} {d : State} {contents : Contents} {from to to_line : ℕ} {version : Version} → IsMoving r d contents from to to_line version
    → IsCopyable d.lines (image_of d.words) from to to_line
may_copy {r} {d} {contents} {from} {to} {to_line} moving =
    subst (λ (n : ℕ). IsCopyable n (image_of d.words) from to to_line) moving.lines_are
    (copyable moving.movable (image_of d.words) (moving.durable (image_of d.words) (image_of-is d.words)))

-- ---- the stamps

one_outside : {at x word : ℕ} → word ≢ at → IsOutside ((at, x) ∷ []) word
one_outside other y stored = elim stored [ inl here ↦ other (sym here.0) | inr none ↦ none ]

-- The copy has those of the old entry.
pub stamps_kept : {a b c e : State} {from to to_line : ℕ} → IsCopyable a.lines (image_of a.words) from to to_line → (from ≡ to → ⊥)
    → Staged a b (copy_pairs (image_of a.words) from to to_line) (copy_lines (image_of a.words) from to to_line)
    → Staged b c ((entry_word to 0, image_of b.words (entry_word from 0)) ∷ []) (entry_line to ∷ [])
    → Staged c e ((entry_word from 0, 0) ∷ []) (entry_line from ∷ []) → (image : Image) → IsImage e.words image
    → (image (entry_word to 0) ≡ image_of a.words (entry_word from 0)) × (image (entry_word to 1) ≡ image_of a.words (entry_word from 1))
stamps_kept {a} {b} {c} {e} {from} {to} {to_line} may apart copied begun erased image is =
    let base : Image = image_of a.words in
    let pairs : List (ℕ × ℕ) = copy_pairs base from to to_line in
    let before : (word : ℕ) → word ≢ entry_word from 0 → MayBe (c.words word) (image word) =
    λ word other. erased.elsewhere word (image word) (one_outside other) (is word) in
    let out : IsOutside pairs (entry_word from 0) =
    λ y stored.
    elim (copy_where base from to to_line (entry_word from 0) y stored) [
      | inl lines ↦ omega (arith, lines.low, may.from_within, may.above)
      | inr entry ↦ omega (arith, entry.0.low, entry.0.high)
    ] in
    let first : image (entry_word to 0) ≡ image_of b.words (entry_word from 0) =
    (begun.certain (entry_word to 0) (inl (omega arith))).only (image (entry_word to 0)) (before (entry_word to 0) (λ same. apart (omega (arith, same))))
    ∙ cond-true (entry_word to 0 == entry_word to 0) (image_of b.words (entry_word from 0)) (image_of b.words (entry_word to 0))
    (eq-eqb (entry_word to 0) (entry_word to 0) refl) in
    let at : entry_word to 1 + 0 ≡ entry_word to 1 = omega arith in
    let was : MayBe (b.words (entry_word to 1)) (image (entry_word to 1)) =
    begun.elsewhere (entry_word to 1) (image (entry_word to 1)) (one_outside (λ same. omega (arith, same)))
    (before (entry_word to 1) (λ same. omega (arith, same))) in
    let then : MayBe (b.words (entry_word to 1 + 0)) (image (entry_word to 1)) =
    subst (λ (word : ℕ). MayBe (b.words word) (image (entry_word to 1))) (sym at) was in (
      first ∙ copied.newest (entry_word from 0) ∙ written-outside pairs base (entry_word from 0) out,
      (copied.certain (entry_word to 1 + 0) (entry_is_line base from to to_line 0 (omega arith))).only (image (entry_word to 1)) then
          ∙ written_entry base from to to_line 0 (omega arith),
    )
