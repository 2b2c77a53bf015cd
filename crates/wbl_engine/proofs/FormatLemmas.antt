-- The three steps of formatting leave an image from before, the new one, or one without the magic.
use Rattle.std.proofs.Common.{◌≡◌, ◌≢◌, ℕ, ◌+◌, ◌*◌, ◌/◌, ◌<◌, ◌≤◌, IsTrue, List, [], ◌∷◌, inl, inr, None, get_or, refl, sym, ap, subst, ◌∙◌, arith}
use Rattle.std.proofs.lemmas.Bool.{cond-false, both_ways}
use Rattle.pmem.specs.Device.{Word, State, MayBe, Only}
use Rattle.pmem.specs.Crash.{image_of}
use Rattle.pmem.specs.Runs.{LeavesOnly, Staged, StageFailed, IsPartlyStored, IsStored, IsOutside, written, lines_from}
use Rattle.pmem.proofs.Leaving.{LeavesOnly-then, LeavesOnly-weaken}
use Rattle.pmem.proofs.Staging.{same_or_other, IsLine-lines_from}
use Rattle.model.specs.declared.image.TheConstants.{COUNTER_LIMIT, MIN_LINES, MAX_LINES}
use Rattle.model.specs.declared.record.Record.{Record}
use Rattle.model.specs.declared.record.Role.{Role}
use Rattle.model.specs.Layout.{first_word, root_word, slot_lines}
use Rattle.model.specs.Image.{Image, HasSuperblock, HasRecord, magic_number, entry_word, entries_of_lines, first_extent_line, record_words, slot_line, version_at, counts}
use Rattle.model.proofs.LayoutLemmas.{entries_fit, root_in, slot_at, slots_within}
use Rattle.model.proofs.RecordLemmas.{HasRecord-lines}
use Rattle.wbl_engine.specs.AtRest.{IsWhole, IsAtRest, Matters}
use Rattle.wbl_engine.specs.Contents.{Keeps}
use Rattle.wbl_engine.specs.Formatting.{first_record, superblock_words, new_contents, new_pairs, IsFormatting}
use Rattle.wbl_engine.proofs.CountLemmas.{counts-zero}
use Rattle.wbl_record.proofs.Mixing.{image_of-is}
use Rattle.wbl_engine.proofs.NewImage.{magic_outside, new_super, new_root, new_body, new_entry}
use Rattle.wbl_record.specs.Current.{IsLawful}
use Rattle.wbl_record.proofs.RecordLemmas.{record_is}

abbrev pub magic_pairs : ℕ → List (ℕ × ℕ)
magic_pairs x = (0, x) ∷ []

magic_stored : (x word y : ℕ) → IsStored (magic_pairs x) word y → (word ≡ 0) × (y ≡ x)
magic_stored x word y (inl here) = (sym here.0, sym here.1)
magic_stored x word y (inr none) = absurd none

magic_other : (x word : ℕ) → word ≢ 0 → IsOutside (magic_pairs x) word
magic_other x word other y stored = other (magic_stored x word y stored).0

no_magic : (image : Image) → image 0 ≡ 0 → image 0 ≢ magic_number
no_magic image none is = omega (arith, none, is)

-- the image has all words of a new one but the magic
record HasNew (lines : ℕ) (first : Record) (image : Image) : Type 0 where
  super : (k : ℕ) → k < 3 → image (1 + k) ≡ get_or (superblock_words first.layout lines) k 0
  root : image (root_word first.layout) ≡ first.number
  body : (k : ℕ) → k < first_word (slot_lines first.layout)
      → image (first_word (slot_line first.layout lines first.number) + k) ≡ get_or (record_words first) k 0
  entry : (i k : ℕ) → i < entries_of_lines first.layout lines → k < 8 → image (entry_word i k) ≡ 0

new_superblock : (lines : ℕ) (first : Record) (image : Image) → image 0 ≡ magic_number → HasNew lines first image → HasSuperblock first.layout lines image
new_superblock lines first image magic has =
    record {
      magic = magic;
      version = has.super 0 (omega arith);
      line_count = has.super 1 (omega arith);
      room = has.super 2 (omega arith);
    }

new_record : (lines : ℕ) (first : Record) (image : Image) → HasNew lines first image → HasRecord lines first image
new_record lines first image has = record_is lines first image has.root has.body

-- no begin counts
not_begun : (lines : ℕ) (first : Record) (image : Image) → HasNew lines first image → (i : ℕ) → i < entries_of_lines first.layout lines
    → IsTrue (counts first (image (entry_word i 0))) → ⊥
not_begun lines first image has i within begun =
    both_ways (counts first (image (entry_word i 0)))
    (ap (counts first) (has.entry i 0 within (omega arith)) ∙ counts-zero first) begun

no_version : (lines : ℕ) (first : Record) (image : Image) → HasNew lines first image → (i : ℕ) → i < entries_of_lines first.layout lines
    → version_at first image i ≡ None
no_version lines first image has i within =
    cond-false _ _ _ (ap (counts first) (has.entry i 0 within (omega arith)) ∙ counts-zero first)

-- with the magic it is the new image
new_keeps : (lines : ℕ) (role : Role) (epoch : ℕ) (image : Image) → image 0 ≡ magic_number → HasNew lines (first_record role epoch) image → Keeps (new_contents lines role epoch) image
new_keeps lines role epoch image magic has =
    let first : Record = first_record role epoch in
    record {
      superblock = new_superblock lines first image magic has;
      has_record = new_record lines first image has;
      versions = no_version lines first image has;
      entries = λ i within.
          record {
            begin = omega (arith, has.entry i 0 within (omega arith));
            end = omega (arith, has.entry i 1 within (omega arith));
            whole = λ begun. absurd (not_begun lines first image has i within begun);
            position = λ begun. absurd (not_begun lines first image has i within begun);
          };
    }

-- once it is written, all of it is certain
written_new : {b c : State} (lines : ℕ) (first : Record) (image : Image) → MIN_LINES ≤ lines
    → Staged b c (new_pairs lines first) (lines_from 0 (first_extent_line lines))
    → ((word : ℕ) → word ≢ 0 → word < 8 * first_extent_line lines → MayBe (c.words word) (image word)) → HasNew lines first image
written_new {b} {c} lines first image many staged may =
    let is : (word : ℕ) → word ≢ 0 → word < 8 * first_extent_line lines → image word ≡ written (new_pairs lines first) (image_of b.words) word =
    λ word other below.
    (staged.certain word (IsLine-lines_from 0 (first_extent_line lines) (word / 8) (omega arith) (omega (arith, below)))).only (image word)
    (may word other below) in
    let root = root_in first.layout in
    let slot = slot_at first.layout lines first.number in
    let end = slots_within first.layout lines many in
    record {
      super = λ k below. is (1 + k) (omega arith) (omega (arith, below)) ∙ new_super lines first (image_of b.words) k below;
      root = is (root_word first.layout) (λ e. omega (arith, root.behind, e)) (omega (arith, root.within)) ∙ new_root lines first (image_of b.words);
      body = λ k below.
          is (first_word (slot_line first.layout lines first.number) + k) (λ e. omega (arith, slot.behind, e))
          (omega (arith, slot.within, end, below))
          ∙ new_body lines first (image_of b.words) k below;
      entry = λ i k within below.
          is (entry_word i k) (omega arith) (omega (arith, entries_fit first.layout lines, within, below))
          ∙ new_entry lines first (image_of b.words) i k within below;
    }

-- the magic is gone until it comes back
magic_gone : {a b c : State} (lines : ℕ) (role : Role) (epoch : ℕ) → Staged a b (magic_pairs 0) (0 ∷ [])
    → Staged b c (new_pairs lines (first_record role epoch)) (lines_from 0 (first_extent_line lines)) → (x : ℕ) → MayBe (c.words 0) x → x ≡ 0
magic_gone {a} {b} {c} lines role epoch first second x may =
    (first.certain 0 (inl refl)).only x (second.elsewhere 0 x (magic_outside lines (first_record role epoch)) may)

-- ---- the moments

pub first_leaves : (lines : ℕ) (role : Role) (epoch : ℕ) (words : ℕ → Word) (image : Image) → IsPartlyStored (magic_pairs 0) words image
    → IsFormatting words lines role epoch image
first_leaves lines role epoch words image partly =
    elim (partly 0) [
      | inl may ↦
          inl (λ word.
          elim (partly word) [
            | inl was ↦ was
            | inr stored ↦ subst (λ (w : ℕ). MayBe (words w) (image w)) (sym (magic_stored 0 word (image word) stored).0) may
          ])
      | inr stored ↦ inr (inr (no_magic image (magic_stored 0 0 (image 0) stored).1))
    ]

pub second_leaves : {a b : State} (lines : ℕ) (role : Role) (epoch : ℕ) (image : Image) → Staged a b (magic_pairs 0) (0 ∷ [])
    → IsPartlyStored (new_pairs lines (first_record role epoch)) b.words image → IsFormatting a.words lines role epoch image
second_leaves {a} {b} lines role epoch image first partly =
    inr (inr (no_magic image
    (elim (partly 0) [
      | inl may ↦ (first.certain 0 (inl refl)).only (image 0) may
      | inr stored ↦ absurd (magic_outside lines (first_record role epoch) (image 0) stored)
    ])))

pub third_leaves : {a b c : State} (lines : ℕ) (role : Role) (epoch : ℕ) (image : Image) → MIN_LINES ≤ lines → Staged a b (magic_pairs 0) (0 ∷ [])
    → Staged b c (new_pairs lines (first_record role epoch)) (lines_from 0 (first_extent_line lines)) → IsPartlyStored (magic_pairs magic_number) c.words image
    → IsFormatting a.words lines role epoch image
third_leaves {a} {b} {c} lines role epoch image many first second partly =
    elim (partly 0) [
      | inl may ↦ inr (inr (no_magic image (magic_gone lines role epoch first second (image 0) may)))
      | inr stored ↦
          inr (inl (new_keeps lines role epoch image (magic_stored magic_number 0 (image 0) stored).1
          (written_new lines (first_record role epoch) image many second
          (λ word other below.
          elim (partly word) [
            | inl may ↦ may
            | inr there ↦ absurd (other (magic_stored magic_number word (image word) there).0)
          ]))))
    ]

pub first_moments : {a b : State} (lines : ℕ) (role : Role) (epoch : ℕ) → LeavesOnly a b (IsPartlyStored (magic_pairs 0) a.words)
    → LeavesOnly a b (IsFormatting a.words lines role epoch)
first_moments {a} {b} lines role epoch moments =
    LeavesOnly-weaken (IsFormatting a.words lines role epoch) (first_leaves lines role epoch a.words) moments

pub second_moments : {a b c : State} (lines : ℕ) (role : Role) (epoch : ℕ) → Staged a b (magic_pairs 0) (0 ∷ [])
    → LeavesOnly b c (IsPartlyStored (new_pairs lines (first_record role epoch)) b.words) → LeavesOnly a c (IsFormatting a.words lines role epoch)
second_moments {a} {b} {c} lines role epoch first moments =
    LeavesOnly-then (first_moments lines role epoch first.moments)
    (LeavesOnly-weaken (IsFormatting a.words lines role epoch) (λ image partly. second_leaves lines role epoch image first partly) moments)

pub third_moments : {a b c d : State} (lines : ℕ) (role : Role) (epoch : ℕ) → MIN_LINES ≤ lines → Staged a b (magic_pairs 0) (0 ∷ [])
    → Staged b c (new_pairs lines (first_record role epoch)) (lines_from 0 (first_extent_line lines)) → LeavesOnly c d (IsPartlyStored (magic_pairs magic_number) c.words)
    → LeavesOnly a d (IsFormatting a.words lines role epoch)
third_moments {a} {b} {c} {d} lines role epoch many first second moments =
    LeavesOnly-then (second_moments lines role epoch first second.moments)
    (LeavesOnly-weaken (IsFormatting a.words lines role epoch) (λ image partly. third_leaves lines role epoch image many first second partly) moments)

-- ---- the end

-- what a crash leaves of the finished image
finished : {b c d : State} (lines : ℕ) (role : Role) (epoch : ℕ) → MIN_LINES ≤ lines
    → Staged b c (new_pairs lines (first_record role epoch)) (lines_from 0 (first_extent_line lines)) → Staged c d (magic_pairs magic_number) (0 ∷ []) → (image : Image)
    → ((word : ℕ) → word < 8 * first_extent_line lines → MayBe (d.words word) (image word))
    → (image 0 ≡ magic_number) × HasNew lines (first_record role epoch) image
finished {b} {c} {d} lines role epoch many second third image may = (
  (third.certain 0 (inl refl)).only (image 0) (may 0 (omega arith)),
  written_new lines (first_record role epoch) image many second
      (λ word other below. third.elsewhere word (image word) (magic_other magic_number word other) (may word below)),
)

-- what matters lies before the extents
matters_below : (lines : ℕ) (first : Record) (image : Image) → HasNew lines first image → (word : ℕ) → Matters first lines image word
    → word < 8 * first_extent_line lines
matters_below lines first image has word (inl before) = omega (arith, before)
matters_below lines first image has word (inr (inl directory)) = omega (arith, directory.1, entries_fit first.layout lines)
matters_below lines first image has word (inr (inr (i, within, begun, at))) =
    absurd (not_begun lines first image has i within begun)

-- a word with one candidate holds what loads return
only_newest : (word : Word) (x : ℕ) → ((y : ℕ) → MayBe word y → y ≡ x) → Only word word.newest
only_newest word x one = record { only = λ y may. one y may ∙ sym (one word.newest (inl refl)) }

certain_below : {b c d : State} (lines : ℕ) (role : Role) (epoch : ℕ) → Staged b c (new_pairs lines (first_record role epoch)) (lines_from 0 (first_extent_line lines))
    → Staged c d (magic_pairs magic_number) (0 ∷ []) → (word : ℕ) → word < 8 * first_extent_line lines → Only (d.words word) (image_of d.words word)
certain_below {b} {c} {d} lines role epoch second third word below =
    elim (same_or_other word 0) [
      | inl zeroth ↦
          only_newest (d.words word) (written (magic_pairs magic_number) (image_of c.words) word)
          (λ y may. (third.certain word (inl (omega (arith, zeroth)))).only y may)
      | inr other ↦
          only_newest (d.words word) (written (new_pairs lines (first_record role epoch)) (image_of b.words) word)
          (λ y may.
          (second.certain word (IsLine-lines_from 0 (first_extent_line lines) (word / 8) (omega arith) (omega (arith, below)))).only y
          (third.elsewhere word y (magic_other magic_number word other) may))
    ]

-- the first record obeys its rules
pub first_lawful : (role : Role) (epoch : ℕ) → 0 < epoch → epoch < COUNTER_LIMIT → IsLawful (first_record role epoch)
first_lawful role epoch some below =
    record {
      some = omega arith;
      number = omega arith;
      position = omega arith;
      limit = refl;
      room = omega arith;
      some_epoch = some;
      epoch = below;
      newcomer = λ is. refl;
      few = omega arith;
      gaps = tt;
    }

-- The device is at rest with the first record.
pub format_rest : {a b c d : State} (role : Role) (epoch : ℕ) → 0 < epoch → epoch < COUNTER_LIMIT → MIN_LINES ≤ a.lines → a.lines ≤ MAX_LINES → Staged a b (magic_pairs 0) (0 ∷ [])
    → Staged b c (new_pairs a.lines (first_record role epoch)) (lines_from 0 (first_extent_line a.lines)) → Staged c d (magic_pairs magic_number) (0 ∷ [])
    → IsAtRest (first_record role epoch) d
format_rest {a} {b} {c} {d} role epoch some below many few first second third =
    let lines : d.lines ≡ a.lines = third.stays.lines ∙ second.stays.lines ∙ first.stays.lines in
    let now = finished a.lines role epoch many second third (image_of d.words) (λ word low. image_of-is d.words word) in
    record {
      many = omega (arith, lines, many);
      few = omega (arith, lines, few);
      lawful = first_lawful role epoch some below;
      whole = subst (λ (n : ℕ). IsWhole (first_record role epoch) n (image_of d.words)) (sym lines)
          (record {
            superblock = new_superblock a.lines (first_record role epoch) (image_of d.words) now.0 now.1;
            begins = λ i within. omega (arith, now.1.entry i 0 within (omega arith));
            ends = λ i within. omega (arith, now.1.entry i 1 within (omega arith));
            entries = λ i within begun. absurd (not_begun a.lines (first_record role epoch) (image_of d.words) now.1 i within begun);
            positions = λ i within begun. absurd (not_begun a.lines (first_record role epoch) (image_of d.words) now.1 i within begun);
          });
      recorded = λ image is.
          HasRecord-lines (sym lines)
          (new_record a.lines (first_record role epoch) image (finished a.lines role epoch many second third image (λ word below. is word)).1);
      certain = λ word matters.
          certain_below a.lines role epoch second third word
          (matters_below a.lines (first_record role epoch) (image_of d.words) now.1 word
          (subst (λ (n : ℕ). Matters (first_record role epoch) n (image_of d.words) word) lines matters));
    }

-- the device has as many lines as before, and the record was the first one
pub second_staged : {b c : State} (lines : ℕ) (role : Role) (epoch : ℕ) (first : Record) → b.lines ≡ lines → first ≡ first_record role epoch
    → Staged b c (new_pairs b.lines first) (lines_from 0 (first_extent_line b.lines))
    → Staged b c (new_pairs lines (first_record role epoch)) (lines_from 0 (first_extent_line lines))
second_staged {b} {c} lines role epoch first is of_role staged =
    subst (λ (r : Record). Staged b c (new_pairs lines r) (lines_from 0 (first_extent_line lines))) of_role
    (subst (λ (n : ℕ). Staged b c (new_pairs n first) (lines_from 0 (first_extent_line n))) is staged)

pub second_failed : {b c : State} (lines : ℕ) (role : Role) (epoch : ℕ) (first : Record) → b.lines ≡ lines → first ≡ first_record role epoch
    → StageFailed b c (new_pairs b.lines first) → StageFailed b c (new_pairs lines (first_record role epoch))
second_failed {b} {c} lines role epoch first is of_role failed =
    subst (λ (r : Record). StageFailed b c (new_pairs lines r)) of_role (subst (λ (n : ℕ). StageFailed b c (new_pairs n first)) is failed)
