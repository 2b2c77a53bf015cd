-- What a crash leaves while a version is moved that has ended.
use Rattle.std.proofs.Common.{◌≡◌, ℕ, ◌+◌, ◌*◌, ◌<◌, ◌≤◌, true, false, IsTrue, List, [], ◌∷◌, inl, inr, ◌⊎◌, None, Some, get_or, refl, sym, ap, subst, ◌∙◌, arith}
use Rattle.std.specs.Prelude.{nat_eq, ◌-◌, ◌≢◌}
use Rattle.std.proofs.lemmas.Bool.{both_ways, cond-false, cond-true, eq-eqb}
use Rattle.pmem.specs.Device.{State}
use Rattle.pmem.specs.Crash.{IsImage, image_of}
use Rattle.pmem.specs.Runs.{IsPartlyStored, IsStored, Staged}
use Rattle.pmem.proofs.Staging.{same_or_other, unequal}
use Rattle.model.specs.Group.{Contents, entries_of}
use Rattle.model.specs.Image.{Image, Version, counts, directory_room, entry_line, entry_word, version_at, version_in}
use Rattle.model.proofs.LayoutLemmas.{entries_fit}
use Rattle.heap_layout.specs.Entry.{IsEntry}
use Rattle.heap_layout.specs.Version.{IsUnder}
use Rattle.wbl_record.proofs.Mixing.{IsMixed, image_of-is, mixed}
use Rattle.wbl_engine.specs.AtRest.{IsInExtent}
use Rattle.wbl_engine.specs.Contents.{IsDurable, Keeps}
use Rattle.wbl_engine.proofs.VersionLemmas.{same_entry}
use Rattle.wbl_migrate.specs.Ended.{IsCopyable, IsMovable, after_move, at_line, copy_lines, copy_pairs, with_copy, words_after_begin}
use Rattle.wbl_migrate.proofs.EndedCopies.{IsCopied, copied_entry, copied_version, copy_where, staged_copied}
use Rattle.wbl_migrate.proofs.EndedEntries.{HasHead, IsHead, IsLeft, IsOneStored, all_same, begun_version, empty_uncounted, entry_left, head_same, held_begun, keeps_same, now_partly, one_stored, stored_one}

-- each entry has its line in the room of the directory
fits : (contents : Contents) (i : ℕ) → i < entries_of contents → i < directory_room contents.lines
fits contents i within = omega (arith, within, entries_fit contents.current.layout contents.lines)

not_head : (contents : Contents) (i word : ℕ) → i < entries_of contents → IsHead contents.current.layout contents.lines word → entry_word i 0 ≤ word → word < entry_word i 8 → ⊥
not_head contents i word within is low high =
    elim is.beside [ inl before ↦ omega (arith, before, low) | inr behind ↦ omega (arith, behind, high, within) ]

-- an image that differs in the begin of one entry
module _ {contents : Contents} {base image : Image} (keeps : Keeps contents base) (at : ℕ) (inside : at < entries_of contents)
    (others : (word : ℕ) → word ≢ entry_word at 0 → image word ≡ base word) where
  head_kept : HasHead contents image
  head_kept =
      head_same keeps (omega (arith, inside))
      (λ word is. others word (λ same. not_head contents at word inside is (omega (arith, same)) (omega (arith, same))))

  word_kept : (i k : ℕ) → k < 8 → (i ≡ at → 1 ≤ k) → image (entry_word i k) ≡ base (entry_word i k)
  word_kept i k low later =
      others (entry_word i k)
      (λ same. let here : i ≡ at = omega (arith, low, same) in omega (arith, here, same, later here))

  left_kept : (i : ℕ) → i < entries_of contents → i ≢ at → IsLeft contents.current contents.lines base image i
  left_kept i within other =
      entry_left (keeps.entries i within) (word_kept i 0 (omega arith) (λ here. absurd (other here)))
      (omega (arith, word_kept i 1 (omega arith) (λ here. omega arith), (keeps.entries i within).end))
      (λ counted.
      let entry = (keeps.entries i within).whole counted in (
        word_kept i 1 (omega arith) (λ here. omega arith),
        same_entry entry (λ k low high. word_kept i k high (λ here. omega (arith, low)))
            (λ word place. others word (λ same. omega (arith, same, place.low, entry.above, fits contents at inside))),
      ))

-- ---- the move

module _ {contents : Contents} {from to to_line : ℕ} {version : Version} (may : IsMovable contents from to to_line version) where
  abbrev pub both : Contents
  both = with_copy from to to_line contents

  abbrev pub moved : Contents
  moved = after_move from to to_line contents

  some_entry : 0 < entries_of contents
  some_entry = let within = may.from_within in omega (arith, within)

  pub copyable : (base : Image) → Keeps contents base → IsCopyable contents.lines base from to to_line
  copyable base keeps =
      let begun = held_begun keeps from version may.from_within may.held in
      let entry = (keeps.entries from may.from_within).whole begun.0 in
      let count : base (entry_word from 4) ≡ version.lines = ap (λ (v : Version). v.lines) begun.1 in
      let first : base (entry_word from 3) ≡ version.first_line = ap (λ (v : Version). v.first_line) begun.1 in
      record {
        from_within = fits contents from may.from_within;
        to_within = fits contents to may.placed.entry;
        extent = omega (arith, entry.in_format.extent, entry.lines_are);
        above = may.placed.above;
        within = omega (arith, may.placed.within, count);
        apart =
            elim (may.unused.lines from version may.held) [
              | inl before ↦ inl (omega (arith, before, count, first))
              | inr behind ↦ inr (omega (arith, behind, count, first))
            ];
      }

  -- ---- the copy

  module _ (d : State) (durable : IsDurable d contents) where
    keeps_now : Keeps contents (image_of d.words)
    keeps_now = durable (image_of d.words) (image_of-is d.words)

    count_now : image_of d.words (entry_word from 4) ≡ version.lines
    count_now = ap (λ (v : Version). v.lines) (held_begun keeps_now from version may.from_within may.held).1

    -- what a pair of the copy is stored to
    stored_at : (word x : ℕ) → IsStored (copy_pairs (image_of d.words) from to to_line) word x
        → ((8 * to_line ≤ word) × (word < 8 * (to_line + version.lines))) ⊎ ((entry_word to 1 ≤ word) × (word < entry_word to 1 + 7))
    stored_at word x stored =
        elim (copy_where (image_of d.words) from to to_line word x stored) [
          | inl lines ↦ inl (lines.low, omega (arith, lines.high, count_now))
          | inr entry ↦ inr (entry.0.low, entry.0.high)
        ]

    -- whatever part of it a crash leaves
    pub copy_keeps : (image : Image) → IsPartlyStored (copy_pairs (image_of d.words) from to to_line) d.words image → Keeps contents image
    copy_keeps image partly =
        record {
          superblock = head.superblock;
          has_record = head.recorded;
          versions = λ i within. (left i within).version ∙ keeps.versions i within;
          entries = λ i within. (left i within).under;
        }
      where
        pairs : List (ℕ × ℕ)
        pairs = copy_pairs (image_of d.words) from to to_line

        mix : IsMixed d.words (λ word. IsStored pairs word (image word)) image
        mix = mixed d.words (λ word. IsStored pairs word (image word)) image partly

        keeps : Keeps contents mix.base
        keeps = durable mix.base mix.is

        same_head : (word : ℕ) → IsHead contents.current.layout contents.lines word → image word ≡ mix.base word
        same_head word is =
            elim (mix.same word) [
              | inl same ↦ same
              | inr stored ↦
                  elim (stored_at word (image word) stored) [
                    | inl lines ↦ absurd (omega (arith, is.before, lines.0, may.placed.above))
                    | inr entry ↦ absurd (not_head contents to word may.placed.entry is (omega (arith, entry.0)) (omega (arith, entry.1)))
                  ]
            ]

        head : HasHead contents image
        head = head_same keeps some_entry same_head

        same_word : (i k : ℕ) → i < entries_of contents → k < 8 → ((i ≡ to) → k ≡ 0) → image (entry_word i k) ≡ mix.base (entry_word i k)
        same_word i k within low begin =
            elim (mix.same (entry_word i k)) [
              | inl same ↦ same
              | inr stored ↦
                  elim (stored_at (entry_word i k) (image (entry_word i k)) stored) [
                    | inl lines ↦ absurd (omega (arith, low, fits contents i within, lines.0, may.placed.above))
                    | inr entry ↦
                        let here : i ≡ to = omega (arith, low, entry.0, entry.1) in
                        absurd (omega (arith, entry.0, here, begin here))
                  ]
            ]

        same_extent : (i : ℕ) → i < entries_of contents → IsTrue (counts contents.current (mix.base (entry_word i 0))) → (word : ℕ)
            → IsInExtent mix.base i word → image word ≡ mix.base word
        same_extent i within counted word at =
            let entry = (keeps.entries i within).whole counted in
            elim (mix.same word) [
              | inl same ↦ same
              | inr stored ↦
                  elim (stored_at word (image word) stored) [
                    | inl lines ↦
                        elim (may.unused.lines i (version_in contents.current mix.base i) (begun_version keeps i within counted)) [
                          | inl before ↦ absurd (omega (arith, lines.1, at.low, before))
                          | inr behind ↦ absurd (omega (arith, lines.0, at.high, behind))
                        ]
                    | inr of_entry ↦ absurd (omega (arith, of_entry.1, at.low, entry.above, fits contents to may.placed.entry))
                  ]
            ]

        end_below : (i : ℕ) → i < entries_of contents → image (entry_word i 1) < contents.current.cd
        end_below i within =
            elim (mix.same (entry_word i 1)) [
              | inl same ↦ omega (arith, same, (keeps.entries i within).end)
              | inr stored ↦
                  elim (copy_where (image_of d.words) from to to_line (entry_word i 1) (image (entry_word i 1)) stored) [
                    | inl lines ↦ absurd (omega (arith, fits contents i within, lines.low, may.placed.above))
                    | inr entry ↦
                        let first : entry_word i 1 - entry_word to 1 ≡ 0 = omega (arith, entry.0.low, entry.0.high) in
                        let is : image_of d.words (entry_word from 1) ≡ image (entry_word i 1) =
                        ap (λ (n : ℕ). get_or (words_after_begin (image_of d.words) from to_line) n 0) (sym first) ∙ entry.1 in
                        omega (arith, is, (keeps_now.entries from may.from_within).end)
                  ]
            ]

        left : (i : ℕ) → i < entries_of contents → IsLeft contents.current contents.lines mix.base image i
        left i within =
            entry_left (keeps.entries i within) (same_word i 0 within (omega arith) (λ here. refl)) (end_below i within)
            (λ counted.
            elim (same_or_other i to) [
              | inl here ↦
                  absurd (both_ways (counts contents.current (mix.base (entry_word i 0)))
                  (empty_uncounted keeps i within (ap contents.versions here ∙ may.empty)) counted)
              | inr other ↦ (
                same_word i 1 within (omega arith) (λ here. absurd (other here)),
                same_entry ((keeps.entries i within).whole counted)
                    (λ k low high. same_word i k within high (λ here. absurd (other here))) (same_extent i within counted),
              )
            ])

    -- and once it is durable
    pub copied_durable : {b : State} → Staged d b (copy_pairs (image_of d.words) from to to_line) (copy_lines (image_of d.words) from to to_line)
        → IsDurable b contents
    copied_durable staged image is = copy_keeps image (now_partly staged image is)

    pub copy_is : {b : State} → Staged d b (copy_pairs (image_of d.words) from to to_line) (copy_lines (image_of d.words) from to to_line)
        → (image : Image) → IsImage b.words image → IsCopied (image_of d.words) image from to to_line
    copy_is staged = staged_copied from to to_line (omega (arith, fits contents to may.placed.entry, may.placed.above)) staged

    -- ---- the begin of the copy

    -- an image that has the begin of the copy besides
    begun_keeps : (base image : Image) (stamp : ℕ) → Keeps contents base → IsCopied (image_of d.words) base from to to_line
        → ((word : ℕ) → word ≢ entry_word to 0 → image word ≡ base word) → image (entry_word to 0) ≡ stamp
        → IsTrue (counts contents.current stamp) → stamp < contents.current.cd → Keeps both image
    begun_keeps base image stamp keeps copied others begin counts_now low_stamp =
        record {
          superblock = (head_kept keeps to may.placed.entry others).superblock;
          has_record = (head_kept keeps to may.placed.entry others).recorded;
          versions = versions;
          entries = entries;
        }
      where
        kept : (i k : ℕ) → k < 8 → (i ≡ to → 1 ≤ k) → image (entry_word i k) ≡ base (entry_word i k)
        kept = word_kept keeps to may.placed.entry others

        left : (i : ℕ) → i < entries_of contents → i ≢ to → IsLeft contents.current contents.lines base image i
        left = left_kept keeps to may.placed.entry others

        was : IsTrue (counts contents.current (image_of d.words (entry_word from 0))) × (version_in contents.current (image_of d.words) from ≡ version)
        was = held_begun keeps_now from version may.from_within may.held

        entry_was : IsEntry contents.lines (image_of d.words) from
        entry_was = (keeps_now.entries from may.from_within).whole was.0

        copied_now : IsCopied (image_of d.words) image from to to_line
        copied_now =
            record {
              end = kept to 1 (omega arith) (λ here. omega arith) ∙ copied.end;
              position = kept to 2 (omega arith) (λ here. omega arith) ∙ copied.position;
              first_line = kept to 3 (omega arith) (λ here. omega arith) ∙ copied.first_line;
              count = kept to 4 (omega arith) (λ here. omega arith) ∙ copied.count;
              kind = kept to 5 (omega arith) (λ here. omega arith) ∙ copied.kind;
              lengths = kept to 6 (omega arith) (λ here. omega arith) ∙ copied.lengths;
              value_length = kept to 7 (omega arith) (λ here. omega arith) ∙ copied.value_length;
              extent = λ j below.
                  others (8 * to_line + j) (λ same. omega (arith, same, fits contents to may.placed.entry, may.placed.above)) ∙ copied.extent j below;
            }

        counted_to : counts contents.current (image (entry_word to 0)) ≡ true
        counted_to = ap (counts contents.current) begin ∙ counts_now

        new_version : version_at contents.current image to ≡ Some (record version { first_line = to_line })
        new_version =
            cond-true (counts contents.current (image (entry_word to 0))) (Some (version_in contents.current image to)) None counted_to
            ∙ ap (λ (v : Version). Some v)
            (copied_version entry_was copied_now contents.current ∙ ap (λ (v : Version). record v { first_line = to_line }) was.1)

        versions : (i : ℕ) → i < entries_of contents → version_at contents.current image i ≡ both.versions i
        versions i within =
            elim (same_or_other i to) [
              | inl here ↦
                  ap (version_at contents.current image) here ∙ new_version ∙ sym (ap (at_line to_line) may.held)
                  ∙ sym (cond-true (nat_eq i to) (at_line to_line (contents.versions from)) (contents.versions i) (eq-eqb i to here))
              | inr other ↦
                  (left i within other).version ∙ keeps.versions i within
                  ∙ sym (cond-false (nat_eq i to) (at_line to_line (contents.versions from)) (contents.versions i) (unequal i to other))
            ]

        new_under : IsUnder contents.current contents.lines image to
        new_under =
            record {
              begin = omega (arith, begin, low_stamp);
              end = omega (arith, copied_now.end, (keeps_now.entries from may.from_within).end);
              whole = λ counted. copied_entry entry_was copied_now may.placed.above (omega (arith, may.placed.within, count_now));
              position = λ counted. omega (arith, copied_now.position, (keeps_now.entries from may.from_within).position was.0);
            }

        entries : (i : ℕ) → i < entries_of contents → IsUnder contents.current contents.lines image i
        entries i within =
            elim (same_or_other i to) [
              | inl here ↦ subst (IsUnder contents.current contents.lines image) (sym here) new_under
              | inr other ↦ (left i within other).under
            ]

    module _ {b : State} (staged : Staged d b (copy_pairs (image_of d.words) from to to_line) (copy_lines (image_of d.words) from to to_line)) where
      -- the stamp that is stored as the begin of the copy
      abbrev pub stamp : ℕ
      stamp = image_of b.words (entry_word from 0)

      keeps_then : Keeps contents (image_of b.words)
      keeps_then = copied_durable staged (image_of b.words) (image_of-is b.words)

      stamp_begun : (image : Image) (one : IsOneStored b.words (entry_word to 0) stamp image) → image (entry_word to 0) ≡ stamp → Keeps both image
      stamp_begun image one begin =
          begun_keeps one.base image stamp (copied_durable staged one.base one.is) (copy_is staged one.base one.is) one.others begin
          (held_begun keeps_then from version may.from_within may.held).0 (keeps_then.entries from may.from_within).begin

      pub begin_keeps : (image : Image) → IsPartlyStored ((entry_word to 0, stamp) ∷ []) b.words image → Keeps contents image ⊎ Keeps both image
      begin_keeps image partly =
          let one = one_stored partly in
          elim one.which [
            | inl same ↦ inl (keeps_same (copied_durable staged one.base one.is) (all_same one same))
            | inr begin ↦ inr (stamp_begun image one begin)
          ]

      pub begun_durable : {c : State} → Staged b c ((entry_word to 0, stamp) ∷ []) (entry_line to ∷ []) → IsDurable c both
      begun_durable begun image is =
          stamp_begun image (one_stored (now_partly begun image is)) (stored_one (entry_word to 0) stamp (entry_line to) (omega arith) begun image is)

  -- ---- the begin of the old entry

  erased_keeps : (base image : Image) → Keeps both base → ((word : ℕ) → word ≢ entry_word from 0 → image word ≡ base word)
      → image (entry_word from 0) ≡ 0 → Keeps moved image
  erased_keeps base image keeps others zeroed =
      record {
        superblock = (head_kept keeps from may.from_within others).superblock;
        has_record = (head_kept keeps from may.from_within others).recorded;
        versions = versions;
        entries = entries;
      }
    where
      kept : (i k : ℕ) → k < 8 → (i ≡ from → 1 ≤ k) → image (entry_word i k) ≡ base (entry_word i k)
      kept = word_kept keeps from may.from_within others

      left : (i : ℕ) → i < entries_of contents → i ≢ from → IsLeft contents.current contents.lines base image i
      left = left_kept keeps from may.from_within others

      uncounted : counts contents.current (image (entry_word from 0)) ≡ false
      uncounted = ap (counts contents.current) zeroed

      versions : (i : ℕ) → i < entries_of contents → version_at contents.current image i ≡ moved.versions i
      versions i within =
          elim (same_or_other i from) [
            | inl here ↦
                ap (version_at contents.current image) here
                ∙ cond-false (counts contents.current (image (entry_word from 0))) (Some (version_in contents.current image from)) None uncounted
                ∙ sym (cond-true (nat_eq i from) None (both.versions i) (eq-eqb i from here))
            | inr other ↦
                (left i within other).version ∙ keeps.versions i within
                ∙ sym (cond-false (nat_eq i from) None (both.versions i) (unequal i from other))
          ]

      old_under : IsUnder contents.current contents.lines image from
      old_under =
          record {
            begin = omega (arith, zeroed, (keeps.entries from may.from_within).begin);
            end = omega (arith, kept from 1 (omega arith) (λ here. omega arith), (keeps.entries from may.from_within).end);
            whole = λ counted. absurd (both_ways (counts contents.current (image (entry_word from 0))) uncounted counted);
            position = λ counted. absurd (both_ways (counts contents.current (image (entry_word from 0))) uncounted counted);
          }

      entries : (i : ℕ) → i < entries_of contents → IsUnder contents.current contents.lines image i
      entries i within =
          elim (same_or_other i from) [
            | inl here ↦ subst (IsUnder contents.current contents.lines image) (sym here) old_under
            | inr other ↦ (left i within other).under
          ]

  module _ (c : State) (durable : IsDurable c both) where
    pub erase_keeps : (image : Image) → IsPartlyStored ((entry_word from 0, 0) ∷ []) c.words image → Keeps both image ⊎ Keeps moved image
    erase_keeps image partly =
        let one = one_stored partly in
        elim one.which [
          | inl same ↦ inl (keeps_same (durable one.base one.is) (all_same one same))
          | inr zeroed ↦ inr (erased_keeps one.base image (durable one.base one.is) one.others zeroed)
        ]

    pub moved_durable : {e : State} → Staged c e ((entry_word from 0, 0) ∷ []) (entry_line from ∷ []) → IsDurable e moved
    moved_durable erased image is =
        let one = one_stored (now_partly erased image is) in
        erased_keeps one.base image (durable one.base one.is) one.others (stored_one (entry_word from 0) 0 (entry_line from) (omega arith) erased image is)
