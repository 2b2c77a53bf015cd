-- What is known of a journal after a sync, and after a checkpoint.
use Rattle.std.proofs.Common.{◌≡◌, ◌⊎◌, ℕ, ◌+◌, ◌*◌, ◌/◌, ◌%◌, ◌^◌, ◌<◌, ◌≤◌, false, List, [], ◌∷◌, ◌++◌, length, get_or, refl, inl, inr, sym, subst, ap, ◌∙◌, arith, length-append}
use Rattle.std.proofs.lemmas.Bool.{cond-false}
use Rattle.std.proofs.lemmas.List.{append-nil}
use Rattle.journal.specs.declared.shape.Head.{Head}
use Rattle.journal.specs.declared.shape.Shape.{Shape}
use Rattle.journal.specs.Record.{Record, AreRecords, all_sealed}
use Rattle.journal.specs.Replay.{replayed, is_recorded}
use Rattle.journal.specs.Head.{head_of}
use Rattle.journal.specs.File.{head_at, part_at, Appends}
use Rattle.journal.proofs.RecordLemmas.{sealed-append}
use Rattle.pmem_file.specs.declared.file_journal.FileJournal.{FileJournal}
use Rattle.pmem_file.specs.Call.{Call, IsFileImage, written}
use Rattle.pmem_file.specs.Line.{has_line}
use Rattle.pmem_file.specs.Noted.{is_noted}
use Rattle.pmem_file.specs.Written.{MayWrite, Writes, Commits, is_among, is_in, from, word_of, blank}
use Rattle.pmem_file.specs.Journaled.{IsMadeOf, IsHead, HasHead, OnDisk, Journals, Syncs, placed, ChecksPoint, Stops}
use Rattle.pmem_file.proofs.ReplayedLemmas.{records-beyond, AreRecords-append}
use Rattle.pmem_file.proofs.PlacesLemmas.{AreLines}
use Rattle.pmem_file.proofs.DiskLemmas.{appends-mid, OnDisk-synced, lines-mid, ready-placed, old-placed, head-mid, begun-mid, OnDisk-begun}
use Rattle.pmem_file.proofs.EarlierLemmas.{none-taken, earlier-appended, IsMixed, mixed-begun, earlier-beginning}

-- nothing was sealed
pub none-sealed : (since : List Record) → all_sealed since ≡ [] → since ≡ []
none-sealed [] e = refl
none-sealed (r ∷ since) e = absurd (cc)

-- ---- a sync

-- where what was sealed goes, and what it is
pub record SealedAt (old : FileJournal) : Type 0 where
  pub first : ℕ
  pub is : first ≡ part_at old.head.shape old.head.generation + old.used
  pub fits : old.used + length old.sealed.items ≤ 8 * old.head.shape.part

module _ (old : FileJournal) (at : SealedAt old) (read : List ℕ) (calls calls' : List Call) (image : ℕ → ℕ) (synced since : List Record)
    (j : Journals old read calls image synced since) where
  first_is : at.first ≡ part_at old.head.shape old.head.generation + length (all_sealed synced)
  first_is = at.is ∙ ap (λ (n : ℕ). part_at old.head.shape old.head.generation + n) j.used

  room_is : length (all_sealed synced) + length (all_sealed since) ≤ 8 * old.head.shape.part
  room_is = omega (arith, at.fits, j.used, ap length j.sealed)

  pub on-synced : Commits (is_among at.first (length old.sealed.items)) (from at.first old.sealed.items) calls calls'
      → OnDisk old.head.shape old.head.generation read calls' image (synced ++ since)
  on-synced commits =
      OnDisk-synced old.head.shape old.head.generation read calls calls' image synced since at.first first_is room_is
      (subst (λ (words : List ℕ). Commits (is_among at.first (length words)) (from at.first words) calls calls') j.sealed commits) j.on_disk

  pub on-its-way : MayWrite (is_among at.first (length old.sealed.items)) (from at.first old.sealed.items) calls calls' → (file : ℕ → ℕ)
      → IsFileImage read calls' file → Appends old.head.shape old.head.generation image synced since file × IsHead old.head.shape old.head.generation file
  on-its-way may file is =
      appends-mid old.head.shape old.head.generation read calls calls' image file synced since at.first first_is room_is
      (subst (λ (words : List ℕ). MayWrite (is_among at.first (length words)) (from at.first words) calls calls') j.sealed may) j.on_disk is

pub Syncs-from : (old new : FileJournal) (calls calls' : List Call) (at : SealedAt old) → new.head ≡ old.head
    → new.used ≡ old.used + length old.sealed.items → new.sealed.items ≡ [] → ((line : ℕ) → is_noted new.recorded line ≡ is_noted old.recorded line)
    → Commits (is_among at.first (length old.sealed.items)) (from at.first old.sealed.items) calls calls' → Syncs old new calls calls'
Syncs-from old new calls calls' at same used none noted commits =
    record {
      synced = λ read image synced since j.
          let lines : new.head.shape.lines ≡ old.head.shape.lines = ap (λ (h : Head). h.shape.lines) same in
          record {
            on_disk =
                subst (λ (h : Head). OnDisk h.shape h.generation read calls' image (synced ++ since)) (sym same)
                (on-synced old at read calls calls' image synced since j commits);
            synced_records =
                subst (λ (n : ℕ). AreRecords n (synced ++ since)) (sym lines)
                (AreRecords-append old.head.shape.lines synced since j.synced_records j.sealed_records);
            sealed_records = tt;
            used =
                used
                ∙ (let sum : old.used + length old.sealed.items ≡ length (all_sealed synced) + length (all_sealed since) = omega (arith, j.used, ap length j.sealed) in sum)
                ∙ sym (length-append (all_sealed synced) (all_sealed since)) ∙ ap length (sym (sealed-append synced since));
            sealed = none;
            recorded = λ line.
                noted line ∙ j.recorded line ∙ ap (λ (rs : List Record). is_recorded rs line) (sym (append-nil (synced ++ since)));
            behind = λ word beyond. j.behind word (subst (λ (n : ℕ). 8 * n ≤ word) lines beyond);
          };
    }

-- nothing waited
pub Syncs-none : (journal : FileJournal) (calls : List Call) → journal.sealed.items ≡ [] → Syncs journal journal calls calls
Syncs-none journal calls none =
    record {
      synced = λ read image synced since j.
          let empty : since ≡ [] = none-sealed since (sym j.sealed ∙ none) in
          let same : synced ++ since ≡ synced = ap (λ (rs : List Record). synced ++ rs) empty ∙ append-nil synced in
          subst (λ (rs : List Record). Journals journal read calls image rs []) (sym same)
          (subst (λ (rs : List Record). Journals journal read calls image synced rs) empty j);
    }

pub Stops-sync : (journal : FileJournal) (calls calls' : List Call) (words : List ℕ) (at : SealedAt journal)
    → MayWrite (is_among at.first (length journal.sealed.items)) (from at.first journal.sealed.items) calls calls' → Stops journal journal calls calls' words
Stops-sync journal calls calls' words at may =
    record {
      makes = λ read image file made synced since j is made'.
          inl (earlier-appended journal.head.shape journal.head.generation image file made synced since j.synced_records j.sealed_records j.behind
          (on-its-way journal at read calls calls' image synced since j may file is).0 made');
      head = λ read image synced since j file is. inl (on-its-way journal at read calls calls' image synced since j may file is).1;
    }

-- ---- a checkpoint

-- the lines that are put in place
pub record Puts (old : FileJournal) (words lines : List ℕ) : Type 0 where
  pub sized : length words ≡ 8 * old.head.shape.lines
  pub within : AreLines old.head.shape lines
  pub noted : (line : ℕ) → has_line lines line ≡ is_noted old.recorded line
  pub none : old.sealed.items ≡ []

-- those of the records are among them, and no others
puts-these : (old : FileJournal) (words lines : List ℕ) (read : List ℕ) (calls : List Call) (image : ℕ → ℕ) (synced : List Record)
    → Puts old words lines → Journals old read calls image synced [] → (line : ℕ) → has_line lines line ≡ is_recorded synced line
puts-these old words lines read calls image synced puts j line =
    puts.noted line ∙ j.recorded line ∙ ap (λ (rs : List Record). is_recorded rs line) (append-nil synced)

-- what is so where nothing waits is so of all
stops-empty : (old new : FileJournal) (calls calls' : List Call) (words : List ℕ) → old.sealed.items ≡ []
    → ((read : List ℕ) (image file made : ℕ → ℕ) (synced : List Record) → Journals old read calls image synced [] → IsFileImage read calls' file
    → IsMadeOf old.head.shape file made → IsMixed image synced words made)
    → ((read : List ℕ) (image : ℕ → ℕ) (synced : List Record) → Journals old read calls image synced [] → HasHead new.head.shape new.head.generation read calls')
    → Stops old new calls calls' words
stops-empty old new calls calls' words none makes head =
    record {
      makes = λ read image file made synced since j is made'.
          let empty : since ≡ [] = none-sealed since (sym j.sealed ∙ none) in
          let j' = subst (λ (rs : List Record). Journals old read calls image synced rs) empty j in
          let all : synced ++ since ≡ synced = ap (λ (rs : List Record). synced ++ rs) empty ∙ append-nil synced in
          inr (subst (λ (rs : List Record). IsMixed image rs words made) (sym all) (makes read image file made synced j' is made'));
      head = λ read image synced since j.
          let empty : since ≡ [] = none-sealed since (sym j.sealed ∙ none) in
          head read image synced (subst (λ (rs : List Record). Journals old read calls image synced rs) empty j);
    }

pub Stops-lines : (old new : FileJournal) (calls calls' : List Call) (words lines : List ℕ) → Puts old words lines → new.head ≡ old.head
    → MayWrite (is_in lines) (word_of words) calls calls' → Stops old new calls calls' words
Stops-lines old new calls calls' words lines puts same may =
    let shape = old.head.shape in
    let generation = old.head.generation in
    let mid : (read : List ℕ) (image : ℕ → ℕ) (synced : List Record) → Journals old read calls image synced [] → (file : ℕ → ℕ) → IsFileImage read calls' file
    → Appends shape generation image synced [] file × IsHead shape generation file =
    λ read image synced j file is.
    lines-mid shape generation read calls calls' image file synced words lines puts.within
    (λ line none. puts-these old words lines read calls image synced puts j line ∙ none) may j.on_disk is in
    stops-empty old new calls calls' words puts.none
    (λ read image file made synced j is made' word.
    let e = earlier-appended shape generation image file made synced [] j.synced_records tt j.behind (mid read image synced j file is).0 made' in
    inl (
    e.2 word ∙ ap (λ (rs : List Record). replayed (synced ++ rs) image word) (none-taken e.0)
    ∙ ap (λ (rs : List Record). replayed rs image word) (append-nil synced)
    ))
    (λ read image synced j file is. inl (subst (λ (h : Head). IsHead h.shape h.generation file) (sym same) (mid read image synced j file is).1))

-- the next generation of a journal
pub record IsNext (old new : FileJournal) : Type 0 where
  pub shape : new.head.shape ≡ old.head.shape
  pub generation : new.head.generation ≡ (old.head.generation + 1) % 2 ^ 64
  pub used : new.used ≡ 0
  pub sealed : new.sealed.items ≡ []
  pub recorded : (line : ℕ) → is_noted new.recorded line ≡ false

-- the writing of its head
abbrev pub HeadCommits : FileJournal → FileJournal → List Call → List Call → Type 0
HeadCommits old new = Commits (is_among (head_at old.head.shape) 8) (from (head_at old.head.shape) (head_of old.head.shape new.head.generation))

abbrev pub HeadMayWrite : FileJournal → FileJournal → List Call → List Call → Type 0
HeadMayWrite old new = MayWrite (is_among (head_at old.head.shape) 8) (from (head_at old.head.shape) (head_of old.head.shape new.head.generation))

-- the zeros over the old part
abbrev pub ZerosMayWrite : FileJournal → ℕ → List Call → List Call → Type 0
ZerosMayWrite old count = MayWrite (is_among (part_at old.head.shape old.head.generation) count) blank

pub Stops-head : (old new : FileJournal) (calls mid calls' : List Call) (words lines : List ℕ) → Puts old words lines → IsNext old new
    → Commits (is_in lines) (word_of words) calls mid → HeadMayWrite old new mid calls' → Stops old new calls calls' words
Stops-head old new calls mid calls' words lines puts next commits may =
    let shape = old.head.shape in
    let generation = old.head.generation in
    let go = λ (read : List ℕ) (image : ℕ → ℕ) (synced : List Record) (j : Journals old read calls image synced []) (file : ℕ → ℕ) (is : IsFileImage read calls' file).
    head-mid shape generation new.head.generation read mid calls' image (placed synced words image) file synced next.generation
    (ready-placed shape generation read calls mid image synced words lines puts.within (puts-these old words lines read calls image synced puts j) commits j.on_disk)
    (old-placed shape generation read calls mid image synced words lines puts.within commits j.on_disk) may is in
    stops-empty old new calls calls' words puts.none
    (λ read image file made synced j is made'.
    earlier-beginning shape generation new.head.generation image file made synced words puts.sized j.synced_records (go read image synced j file is).0 made')
    (λ read image synced j file is.
    subst (λ (s : Shape). IsHead s new.head.generation file
    ⊎ ((before : ℕ) × (new.head.generation ≡ (before + 1) % 2 ^ 64) × IsHead s before file)) (sym next.shape)
    (elim (go read image synced j file is).1 [
      | inl new ↦ inl new
      | inr old ↦ inr (generation, next.generation, old)
    ]))

pub Stops-zeros : (old new : FileJournal) (calls mid begun calls' : List Call) (words lines : List ℕ) (count : ℕ) → Puts old words lines → IsNext old new
    → count ≤ 8 * old.head.shape.part → Commits (is_in lines) (word_of words) calls mid → HeadCommits old new mid begun
    → ZerosMayWrite old count begun calls' → Stops old new calls calls' words
Stops-zeros old new calls mid begun calls' words lines count puts next few commits head may =
    let shape = old.head.shape in
    let generation = old.head.generation in
    let go = λ (read : List ℕ) (image : ℕ → ℕ) (synced : List Record) (j : Journals old read calls image synced []) (file : ℕ → ℕ) (is : IsFileImage read calls' file).
    begun-mid shape generation new.head.generation read mid begun calls' (placed synced words image) file count next.generation few
    (ready-placed shape generation read calls mid image synced words lines puts.within (puts-these old words lines read calls image synced puts j) commits j.on_disk)
    head may is in
    stops-empty old new calls calls' words puts.none
    (λ read image file made synced j is made'.
    mixed-begun shape new.head.generation image file made synced words puts.sized (go read image synced j file is).0 made')
    (λ read image synced j file is. inl (subst (λ (s : Shape). IsHead s new.head.generation file) (sym next.shape) (go read image synced j file is).1))

-- a journal whose part in use is empty
pub empty-journals : (old new : FileJournal) (read : List ℕ) (calls' : List Call) (base : ℕ → ℕ) → IsNext old new
    → ((word : ℕ) → 8 * old.head.shape.lines ≤ word → base word ≡ 0) → OnDisk old.head.shape new.head.generation read calls' base []
    → Journals new read calls' base [] []
empty-journals old new read calls' base next behind on =
    record {
      on_disk = subst (λ (s : Shape). OnDisk s new.head.generation read calls' base []) (sym next.shape) on;
      synced_records = tt;
      sealed_records = tt;
      used = next.used;
      sealed = next.sealed;
      recorded = next.recorded;
      behind = λ word beyond. behind word (subst (λ (s : Shape). 8 * s.lines ≤ word) next.shape beyond);
    }

pub ChecksPoint-from : (old new : FileJournal) (calls mid begun calls' : List Call) (words lines : List ℕ) → Puts old words lines → IsNext old new
    → old.used ≤ 8 * old.head.shape.part → Commits (is_in lines) (word_of words) calls mid → HeadCommits old new mid begun
    → Writes (is_among (part_at old.head.shape old.head.generation) old.used) blank begun calls' → ChecksPoint old new calls calls' words
ChecksPoint-from old new calls mid begun calls' words lines puts next few commits head writes =
    record {
      begun = λ read image synced j.
          let shape = old.head.shape in
          let generation = old.head.generation in
          let has = old-placed shape generation read calls mid image synced words lines puts.within commits j.on_disk in
          empty-journals old new read calls' (placed synced words image) next
          (λ word beyond.
          cond-false (is_recorded synced (word / 8)) (get_or words word 0) (image word) (records-beyond shape.lines synced word j.synced_records beyond)
          ∙ j.behind word beyond)
          (OnDisk-begun shape generation new.head.generation read mid begun calls' (placed synced words image) old.used next.generation few
          (ready-placed shape generation read calls mid image synced words lines puts.within (puts-these old words lines read calls image synced puts j) commits
          j.on_disk)
          head writes
          (λ k below.
          subst (λ (n : ℕ). n + k < 8 * shape.part → written read mid (part_at shape generation + (n + k)) ≡ 0) (sym j.used) (has.behind k) below));
    }
