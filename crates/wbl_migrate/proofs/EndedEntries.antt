-- What an entry and a word hold of an image that was stored to in part.
use Rattle.std.proofs.Common.{◌≡◌, ℕ, ◌/◌, ◌<◌, ◌≤◌, Bool, true, false, cond, IsTrue, List, [], ◌∷◌, inl, inr, ◌⊎◌, None, Some, refl, sym, ap, ◌∙◌, arith}
use Rattle.std.specs.Prelude.{◌==◌, ◌≢◌}
use Rattle.std.proofs.lemmas.Bool.{cases_Bool, cond-false, cond-true, eq-eqb}
use Rattle.pmem.specs.Device.{State, Word}
use Rattle.pmem.specs.Crash.{IsImage, image_of}
use Rattle.pmem.specs.Runs.{IsPartlyStored, IsStored, Staged}
use Rattle.pmem.proofs.Staging.{same_or_other}
use Rattle.model.specs.declared.layout.Layout.{Layout}
use Rattle.model.specs.declared.layout.Layout.TheVariants.{Version1, Version2, Halfway}
use Rattle.model.specs.declared.layout.TheConstants.{DIRECTORY_LINE}
use Rattle.model.specs.declared.record.Record.{Record}
use Rattle.model.specs.Layout.{first_word}
use Rattle.model.specs.Group.{Contents, entries_of}
use Rattle.model.specs.Image.{HasRecord, HasSuperblock, Image, Version, counts, directory_end, entries_of_lines, entry_word, first_extent_line, root_word, slots_end, version_at, version_in}
use Rattle.model.proofs.LayoutLemmas.{root_in, slot_at}
use Rattle.heap_layout.specs.Version.{IsUnder}
use Rattle.wbl_record.proofs.Mixing.{IsMixed, mixed}
use Rattle.wbl_record.proofs.RecordWords.{HasRecord-same}
use Rattle.wbl_engine.specs.Contents.{Keeps}
use Rattle.wbl_engine.proofs.Erased.{HasSuperblock-same}
use Rattle.wbl_engine.proofs.VersionLemmas.{SameEntry, entry-same, same_entry, version_in_entry, version_in_entry-same}

-- ---- one entry

-- what an entry holds whose begin is as before
pub record IsLeft (r : Record) (lines : ℕ) (base image : Image) (i : ℕ) : Type 0 where
  pub version : version_at r image i ≡ version_at r base i
  pub under : IsUnder r lines image i

pub entry_left : {r : Record} {lines : ℕ} {base image : Image} {i : ℕ} → IsUnder r lines base i → image (entry_word i 0) ≡ base (entry_word i 0)
    → image (entry_word i 1) < r.cd
    → (IsTrue (counts r (base (entry_word i 0))) → (image (entry_word i 1) ≡ base (entry_word i 1)) × SameEntry base image i)
    → IsLeft r lines base image i
entry_left {r} {lines} {base} {image} {i} under begin end begun =
    let alike : counts r (image (entry_word i 0)) ≡ counts r (base (entry_word i 0)) = ap (counts r) begin in
    record {
      version =
          elim (cases_Bool (counts r (base (entry_word i 0)))) [
            | inl counted ↦
                let same = begun counted in
                let one : version_in r image i ≡ version_in r base i =
                version_in_entry-same base image i (counts r (image (entry_word i 1))) same.1
                ∙ ap (λ (n : ℕ). version_in_entry base i (counts r n)) same.0 in
                cond-true (counts r (image (entry_word i 0))) (Some (version_in r image i)) None (alike ∙ counted)
                ∙ ap (λ (v : Version). Some v) one
                ∙ sym (cond-true (counts r (base (entry_word i 0))) (Some (version_in r base i)) None counted)
            | inr uncounted ↦
                cond-false (counts r (image (entry_word i 0))) (Some (version_in r image i)) None (alike ∙ uncounted)
                ∙ sym (cond-false (counts r (base (entry_word i 0))) (Some (version_in r base i)) None uncounted)
          ];
      under = record {
        begin = omega (arith, begin, under.begin);
        end = end;
        whole = λ counted. let was = sym alike ∙ counted in entry-same lines base image i (begun was).1 (under.whole was);
        position = λ counted.
            let was = sym alike ∙ counted in
            omega (arith, (begun was).1.words 2 (omega arith) (omega arith), under.position was);
      };
    }

-- a version that is there was begun
begun_is : (counted : Bool) (held version : Version) → cond counted (Some held) None ≡ Some version → (counted ≡ true) × (held ≡ version)
begun_is true held version e = (refl, cc)
begun_is false held version e = absurd (cc)

uncounted_is : (counted : Bool) (held : Version) → cond counted (Some held) None ≡ None → counted ≡ false
uncounted_is true held e = absurd (cc)
uncounted_is false held e = refl

module _ {contents : Contents} {image : Image} (keeps : Keeps contents image) where
  pub held_begun : (i : ℕ) (version : Version) → i < entries_of contents → contents.versions i ≡ Some version
      → IsTrue (counts contents.current (image (entry_word i 0))) × (version_in contents.current image i ≡ version)
  held_begun i version within held =
      begun_is (counts contents.current (image (entry_word i 0))) (version_in contents.current image i) version (keeps.versions i within ∙ held)

  pub empty_uncounted : (i : ℕ) → i < entries_of contents → contents.versions i ≡ None
      → counts contents.current (image (entry_word i 0)) ≡ false
  empty_uncounted i within empty =
      uncounted_is (counts contents.current (image (entry_word i 0))) (version_in contents.current image i) (keeps.versions i within ∙ empty)

  -- what a begun entry holds
  pub begun_version : (i : ℕ) → i < entries_of contents → IsTrue (counts contents.current (image (entry_word i 0)))
      → contents.versions i ≡ Some (version_in contents.current image i)
  begun_version i within counted =
      sym (keeps.versions i within)
      ∙ cond-true (counts contents.current (image (entry_word i 0))) (Some (version_in contents.current image i)) None counted

-- ---- the record

-- the word lies before the extents, and in no entry
pub record IsHead (layout : Layout) (lines word : ℕ) : Type 0 where
  pub before : word < first_word (first_extent_line lines)
  pub beside : (word < first_word DIRECTORY_LINE) ⊎ (first_word (directory_end layout lines) ≤ word)

-- an image that has an entry has its slots before the extents
slots_before : (layout : Layout) (lines : ℕ) → 0 < entries_of_lines layout lines → slots_end layout lines ≤ first_extent_line lines
slots_before Version1 lines some = omega arith
slots_before Version2 lines some = omega (arith, some)
slots_before Halfway lines some = omega (arith, some)

-- these words are as in an image that keeps the contents
pub record HasHead (contents : Contents) (image : Image) : Type 0 where
  pub superblock : HasSuperblock contents.current.layout contents.lines image
  pub recorded : HasRecord contents.lines contents.current image

pub head_same : {contents : Contents} {base image : Image} → Keeps contents base → 0 < entries_of contents
    → ((word : ℕ) → IsHead contents.current.layout contents.lines word → image word ≡ base word) → HasHead contents image
head_same {contents} {base} {image} keeps some same =
    let layout = contents.current.layout in
    let lines = contents.lines in
    let slot = slot_at layout lines contents.current.number in
    let ends : slots_end layout lines ≤ first_extent_line lines = slots_before layout lines some in
    record {
      superblock = HasSuperblock-same layout lines base image
          (λ word low. same word (record { before = omega (arith, low); beside = inl (omega (arith, low)) })) keeps.superblock;
      recorded = HasRecord-same lines contents.current base image
          (let root = (root_in layout).within in same (root_word layout) (record { before = omega (arith, root); beside = inl (omega (arith, root)) }))
          (λ word low high.
          same word
          (record {
            before = omega (arith, high, slot.within, ends);
            beside = elim slot.apart [ inl above ↦ inl (omega (arith, high, above)) | inr behind ↦ inr (omega (arith, low, behind)) ];
          }))
          keeps.has_record;
    }

-- ---- one word

-- an image that the words may have left, but perhaps for one word
pub record IsOneStored (words : ℕ → Word) (at x : ℕ) (image : Image) : Type 0 where
  pub base : Image
  pub is : IsImage words base
  pub others : (word : ℕ) → word ≢ at → image word ≡ base word
  pub which : (image at ≡ base at) ⊎ (image at ≡ x)

pub one_stored : {words : ℕ → Word} {at x : ℕ} {image : Image} → IsPartlyStored ((at, x) ∷ []) words image → IsOneStored words at x image
one_stored {words} {at} {x} {image} partly =
    let mix : IsMixed words (λ word. IsStored ((at, x) ∷ []) word (image word)) image =
    mixed words (λ word. IsStored ((at, x) ∷ []) word (image word)) image partly in
    record {
      base = mix.base;
      is = mix.is;
      others = λ word other.
          elim (mix.same word) [
            | inl same ↦ same
            | inr stored ↦ elim stored [ inl here ↦ absurd (other (sym here.0)) | inr none ↦ absurd none ]
          ];
      which = elim (mix.same at) [
        | inl same ↦ inl same
        | inr stored ↦ elim stored [ inl here ↦ inr (sym here.1) | inr none ↦ absurd none ]
      ];
    }

-- where that word is not stored either
pub all_same : {words : ℕ → Word} {at x : ℕ} {image : Image} (one : IsOneStored words at x image) → image at ≡ one.base at → (word : ℕ) → image word ≡ one.base word
all_same {words} {at} {x} {image} one same word =
    elim (same_or_other word at) [
      | inl here ↦ ap image here ∙ same ∙ ap one.base (sym here)
      | inr other ↦ one.others word other
    ]

pub keeps_same : {contents : Contents} {base image : Image} → Keeps contents base → ((word : ℕ) → image word ≡ base word) → Keeps contents image
keeps_same {contents} {base} {image} keeps same =
    record {
      superblock = HasSuperblock-same contents.current.layout contents.lines base image (λ word low. same word) keeps.superblock;
      has_record = HasRecord-same contents.lines contents.current base image (same (root_word contents.current.layout)) (λ word low high. same word)
          keeps.has_record;
      versions = λ i within. (left i within).version ∙ keeps.versions i within;
      entries = λ i within. (left i within).under;
    }
  where
    left : (i : ℕ) → i < entries_of contents → IsLeft contents.current contents.lines base image i
    left i within =
        entry_left (keeps.entries i within) (same (entry_word i 0)) (omega (arith, same (entry_word i 1), (keeps.entries i within).end))
        (λ counted. (
          same (entry_word i 1),
          same_entry ((keeps.entries i within).whole counted) (λ k low high. same (entry_word i k)) (λ word at. same word),
        ))

-- after a stage the one word that it stored is as it was stored
pub stored_one : {a b : State} (at x line : ℕ) → line ≡ at / 8 → Staged a b ((at, x) ∷ []) (line ∷ []) → (image : Image) → IsImage b.words image → image at ≡ x
stored_one {a} {b} at x line is_line staged image is =
    (staged.certain at (inl is_line)).only (image at) (is at) ∙ cond-true (at == at) x (image_of a.words at) (eq-eqb at at refl)

pub now_partly : {a b : State} {pairs : List (ℕ × ℕ)} {lines : List ℕ} → Staged a b pairs lines → (image : Image) → IsImage b.words image
    → IsPartlyStored pairs a.words image
now_partly staged image is = staged.moments.each image (inl is)
