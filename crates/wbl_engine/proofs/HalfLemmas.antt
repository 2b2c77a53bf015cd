-- A device on which parts of a copy are staged: the newcomer that it holds has no version, and none of what is staged counts.
use Rattle.std.proofs.Common.{◌≡◌, ℕ, zero, suc, ◌+◌, ◌<◌, ◌≤◌, Bool, true, false, ◌&&◌, ◌||◌, ◌==◌, List, [], ◌∷◌, inl, inr, None, Some, refl, sym, ap, ◌∙◌, arith}
use Rattle.std.specs.Prelude.{nat_lt}
use Rattle.std.proofs.lemmas.Bool.{and_from, and_left, and_right, both_ways, cases_Bool, cases_lt, cond-false, cond-true, le-ltb, lt-ltb}
use Rattle.pmem.specs.Device.{State}
use Rattle.pmem.specs.Crash.{IsImage, image_of}
use Rattle.kv_types.specs.declared.place.EntryNo.{EntryNo}
use Rattle.model.specs.declared.image.TheConstants.{MIN_LINES}
use Rattle.model.specs.declared.layout.TheConstants.{SUPERBLOCK_WORDS}
use Rattle.model.specs.declared.record.Record.{Record}
use Rattle.model.specs.declared.record.Role.TheVariants.{Newcomer}
use Rattle.model.specs.Image.{Image, HasRecord, Version, counts, entries_of_lines, entry_word, version_in}
use Rattle.model.specs.Group.{AreEnded, Contents, is_ended_version}
use Rattle.wbl_record.specs.Current.{IsLawful}
use Rattle.wbl_engine.specs.AtRest.{IsAtRest, IsQuiet, Matters, contents_of}
use Rattle.wbl_engine.specs.Contents.{Keeps, Same}
use Rattle.wbl_engine.specs.Copying.{AreHalf, IsHalf, staged_of, with_copy}
use Rattle.wbl_engine.proofs.CountLemmas.{counts-later, counts-new, no_gap_above}
use Rattle.wbl_engine.proofs.Erased.{AreBelow, HasSuperblock-same, directory_matters, erased_free, rest_keeps, rest_quiet, versions-beyond, versions-within}
use Rattle.wbl_engine.proofs.LawfulLemmas.{some_version}

-- no begin counts
abbrev pub AreUncounted : Record → ℕ → Image → Type 0
AreUncounted r lines image = (i : ℕ) → i < entries_of_lines r.layout lines → counts r (image (entry_word i 0)) ≡ false

-- ---- what has the stamp of the copy

module _ {r : Record} {lines : ℕ} {base : Image} (half : AreHalf r lines base) where
  -- a begin that counts with that stamp is that stamp
  pub counted_staged : (i : ℕ) → i < entries_of_lines r.layout lines → counts (with_copy r) (base (entry_word i 0)) ≡ true → r.cp < base (entry_word i 0)
  counted_staged i within counted =
      elim (cases_lt r.cp (base (entry_word i 0))) [
        | inl above ↦ above
        | inr low ↦
            absurd (both_ways (counts (with_copy r) (base (entry_word i 0)))
            (counts-later r (r.cp + 1) (base (entry_word i 0)) low (omega arith) ∙ half.uncounted i within) counted)
      ]

  -- and that stamp counts
  pub staged_counted : IsLawful r → (i : ℕ) → i < entries_of_lines r.layout lines → r.cp < base (entry_word i 0)
      → counts (with_copy r) (base (entry_word i 0)) ≡ true
  staged_counted lawful i within above =
      counts-new r (r.cp + 1) (base (entry_word i 0)) (omega (arith, above)) (half.begins i within)
      (no_gap_above 0 r.gaps.items r.cp lawful.gaps (base (entry_word i 0)) above)

  pub half_below : AreBelow r.layout lines base (r.cp + 1 + 1)
  half_below i zero within low = omega (arith, half.begins i within)
  half_below i (suc zero) within low = omega (arith, half.ends i within)
  half_below i (suc (suc k)) within low = absurd (omega (arith, low))

-- ---- what is staged

pub staged_at : (r : Record) (d : State) (i : ℕ) → i < entries_of_lines r.layout d.lines → r.cp < image_of d.words (entry_word i 0)
    → staged_of true r d i ≡ Some (version_in r (image_of d.words) i)
staged_at r d i within above =
    cond-true (nat_lt i (entries_of_lines r.layout d.lines) && nat_lt r.cp (image_of d.words (entry_word i 0))) _ _
    (and_from (nat_lt i (entries_of_lines r.layout d.lines)) (nat_lt r.cp (image_of d.words (entry_word i 0)))
    (lt-ltb i (entries_of_lines r.layout d.lines) within) (lt-ltb r.cp (image_of d.words (entry_word i 0)) above))

pub unstaged_at : (r : Record) (d : State) (i : ℕ) → image_of d.words (entry_word i 0) ≤ r.cp → staged_of true r d i ≡ None
unstaged_at r d i low =
    cond-false (nat_lt i (entries_of_lines r.layout d.lines) && nat_lt r.cp (image_of d.words (entry_word i 0))) _ _
    (and_right (nat_lt i (entries_of_lines r.layout d.lines)) (nat_lt r.cp (image_of d.words (entry_word i 0)))
    (le-ltb r.cp (image_of d.words (entry_word i 0)) low))

pub unstaged_beyond : (r : Record) (d : State) (i : ℕ) → entries_of_lines r.layout d.lines ≤ i → staged_of true r d i ≡ None
unstaged_beyond r d i beyond =
    cond-false (nat_lt i (entries_of_lines r.layout d.lines) && nat_lt r.cp (image_of d.words (entry_word i 0))) _ _
    (and_left (nat_lt i (entries_of_lines r.layout d.lines)) (nat_lt r.cp (image_of d.words (entry_word i 0)))
    (le-ltb i (entries_of_lines r.layout d.lines) beyond))

-- ---- what the newcomer holds

-- an entry whose begin does not count holds no version
pub uncounted_none : (r : Record) (d : State) → AreUncounted r d.lines (image_of d.words) → (i : ℕ) → (contents_of r d).versions i ≡ None
uncounted_none r d uncounted i =
    elim (cases_lt i (entries_of_lines r.layout d.lines)) [
      | inl within ↦ versions-within r d i within ∙ cond-false (counts r (image_of d.words (entry_word i 0))) _ _ (uncounted i within)
      | inr beyond ↦ versions-beyond r d i beyond
    ]

-- and the other way round
pub none_uncounted : (r : Record) (d : State) → ((i : ℕ) → (contents_of r d).versions i ≡ None) → AreUncounted r d.lines (image_of d.words)
none_uncounted r d none i within =
    elim (cases_Bool (counts r (image_of d.words (entry_word i 0)))) [
      | inl counted ↦
          absurd (some_version (version_in r (image_of d.words) i)
          (sym (none i) ∙ versions-within r d i within ∙ cond-true (counts r (image_of d.words (entry_word i 0))) _ _ counted))
      | inr uncounted ↦ uncounted
    ]

module _ {r : Record} {d : State} (half : IsHalf r d) where
  -- An image keeps it, if no begin of the image counts.
  pub image_keeps : (image : Image) → ((word : ℕ) → word < SUPERBLOCK_WORDS → image word ≡ image_of d.words word) → AreUncounted r d.lines image
      → AreBelow r.layout d.lines image r.cd → HasRecord d.lines r image → Keeps (contents_of r d) image
  image_keeps image same uncounted below recorded =
      record {
        superblock = HasSuperblock-same r.layout d.lines (image_of d.words) image same half.half.superblock;
        has_record = recorded;
        versions = λ i within.
            cond-false (counts r (image (entry_word i 0))) _ _ (uncounted i within) ∙ sym (uncounted_none r d half.half.uncounted i);
        entries = λ i within.
            record {
              begin = below i 0 within (omega arith);
              end = below i 1 within (omega arith);
              whole = λ counted. absurd (both_ways (counts r (image (entry_word i 0))) (uncounted i within) counted);
              position = λ counted. absurd (both_ways (counts r (image (entry_word i 0))) (uncounted i within) counted);
            };
      }

  -- so does one that agrees wherever what is staged depends on it
  pub agrees_keeps : (image : Image) → ((word : ℕ) → Matters (with_copy r) d.lines (image_of d.words) word → image word ≡ image_of d.words word)
      → HasRecord d.lines r image → Keeps (contents_of r d) image
  agrees_keeps image agrees recorded =
      image_keeps image (λ word low. agrees word (inl low))
      (λ i within. ap (counts r) (at i 0 within (omega arith)) ∙ half.half.uncounted i within)
      (λ i k within low. let was = half_below half.half i k within low in omega (arith, at i k within (omega (arith, low)), was, half.lawful.limit)) recorded
    where
      at : (i k : ℕ) → i < entries_of_lines r.layout d.lines → k < 8 → image (entry_word i k) ≡ image_of d.words (entry_word i k)
      at i k within below = agrees (entry_word i k) (directory_matters (with_copy r) d.lines (image_of d.words) i k within below)

  -- Each crash leaves the newcomer.
  pub half_keeps : (image : Image) → IsImage d.words image → Keeps (contents_of r d) image
  half_keeps image is = agrees_keeps image (λ word matters. (half.certain word matters).only (image word) (is word)) (half.recorded image is)

-- the contents say the same, where no begin counts before or after, and the same entries are free
pub same_uncounted : (r : Record) (d c : State) → c.lines ≡ d.lines → AreUncounted r d.lines (image_of d.words) → AreUncounted r d.lines (image_of c.words)
    → ((i : ℕ) → i < entries_of_lines r.layout d.lines
    → (image_of c.words (entry_word i 0) == 0 || nat_lt r.cp (image_of c.words (entry_word i 0)))
    ≡ (image_of d.words (entry_word i 0) == 0 || nat_lt r.cp (image_of d.words (entry_word i 0)))) → Same (contents_of r d) (contents_of r c)
same_uncounted r d c lines was now free =
    record {
      current = refl;
      lines = lines;
      versions = λ i.
          uncounted_none r c (λ j within. now j (omega (arith, within, ap (entries_of_lines r.layout) lines))) i ∙ sym (uncounted_none r d was i);
      is_free = λ i. erased_free r c i (image_of d.words (entry_word i 0) == 0 || nat_lt r.cp (image_of d.words (entry_word i 0))) lines (free i);
    }

-- ---- a newcomer at rest

-- A newcomer that holds nothing is ready for a copy.
pub rest_half : {r : Record} {d : State} → IsAtRest r d → r.role ≡ Newcomer → ((i : ℕ) → (contents_of r d).versions i ≡ None) → IsHalf r d
rest_half {r} {d} rest newcomer none =
    record {
      many = rest.many;
      few = rest.few;
      lawful = rest.lawful;
      newcomer = newcomer;
      half = record {
        superblock = rest.whole.superblock;
        begins = λ i within. omega (arith, rest.whole.begins i within);
        ends = rest.whole.ends;
        uncounted = none_uncounted r d none;
        entries = λ i within above. absurd (omega (arith, above, rest.whole.begins i within));
        live = λ i within above. absurd (omega (arith, above, rest.whole.begins i within));
      };
      recorded = rest.recorded;
      certain = λ word matters. rest.certain word (before word matters);
    }
  where
    before : (word : ℕ) → Matters (with_copy r) d.lines (image_of d.words) word → Matters r d.lines (image_of d.words) word
    before word (inl low) = inl low
    before word (inr (inl directory)) = inr (inl directory)
    before word (inr (inr (i, within, counted, at))) =
        inr (inr (i, within, sym (counts-later r (r.cp + 1) (image_of d.words (entry_word i 0)) (rest.whole.begins i within) (omega arith)) ∙ counted, at))

-- nothing is staged on it
pub rest_unstaged : {r : Record} {d : State} → IsAtRest r d → (i : ℕ) → staged_of true r d i ≡ None
rest_unstaged {r} {d} rest i =
    elim (cases_lt i (entries_of_lines r.layout d.lines)) [
      | inl within ↦ unstaged_at r d i (rest.whole.begins i within)
      | inr beyond ↦ unstaged_beyond r d i beyond
    ]

-- ---- an engine without a fault: at rest, or with parts of a copy

module _ {r : Record} {d : State} (copying : Bool) (rest : copying ≡ false → IsAtRest r d) (half : copying ≡ true → IsHalf r d) where
  -- Each crash leaves what it holds.
  pub sound_keeps : (image : Image) → IsImage d.words image → Keeps (contents_of r d) image
  sound_keeps image is =
      elim (cases_Bool copying) [ inl begun ↦ half_keeps (half begun) image is | inr none ↦ rest_keeps r d (rest none) image is ]

  pub sound_many : MIN_LINES ≤ d.lines
  sound_many = elim (cases_Bool copying) [ inl begun ↦ (half begun).many | inr none ↦ (rest none).many ]

  pub sound_lawful : IsLawful r
  sound_lawful = elim (cases_Bool copying) [ inl begun ↦ (half begun).lawful | inr none ↦ (rest none).lawful ]

  -- A newcomer that holds nothing is ready for a part of a copy, whether it is the first or not.
  pub sound_half : r.role ≡ Newcomer → ((i : ℕ) → (contents_of r d).versions i ≡ None) → IsHalf r d
  sound_half newcomer none =
      elim (cases_Bool copying) [ inl begun ↦ half begun | inr idle ↦ rest_half (rest idle) newcomer none ]

  -- what is staged is what has the stamp of the copy
  pub sound_staged : (i : ℕ) → staged_of copying r d i ≡ staged_of true r d i
  sound_staged i =
      elim (cases_Bool copying) [
        | inl begun ↦ ap (λ (b : Bool). staged_of b r d i) begun
        | inr idle ↦ ap (λ (b : Bool). staged_of b r d i) idle ∙ sym (rest_unstaged (rest idle) i)
      ]

  pub staged_same : staged_of true r d ≡ staged_of copying r d
  staged_same = λ j i. sym (sound_staged i) j

  -- where there is a version, no copy is under way
  pub held_idle : (i : ℕ) (version : Version) → (contents_of r d).versions i ≡ Some version → copying ≡ true → ⊥
  held_idle i version held begun = some_version version (sym (uncounted_none r d (half begun).half.uncounted i) ∙ held)

  pub held_rest : (i : ℕ) (version : Version) → (contents_of r d).versions i ≡ Some version → IsAtRest r d
  held_rest i version held =
      elim (cases_Bool copying) [
        | inl begun ↦ absurd (some_version version (sym (uncounted_none r d (half begun).half.uncounted i) ∙ held))
        | inr idle ↦ rest idle
      ]

-- no entry of a newcomer has ended
pub none_ended : (contents : Contents) (entries : List EntryNo) → ((i : ℕ) → contents.versions i ≡ None) → AreEnded contents entries → entries ≡ []
none_ended contents [] none ended = refl
none_ended contents (entry ∷ entries) none ended = absurd (both_ways (is_ended_version (contents.versions entry.0)) (ap is_ended_version (none entry.0)) ended.1)

-- a device with parts of a copy is quiet
pub half_quiet : {r : Record} {d : State} → IsHalf r d → IsQuiet r d
half_quiet {r} {d} half =
    record {
      many = half.many;
      few = half.few;
      lawful = half.lawful;
      superblock = half.half.superblock;
      begins = λ i within. omega (arith, half.half.begins i within, half.lawful.limit);
      ends = λ i within. omega (arith, half.half.ends i within, half.lawful.limit);
      entries = λ i within counted. absurd (both_ways (counts r (image_of d.words (entry_word i 0))) (half.half.uncounted i within) counted);
      positions = λ i within counted. absurd (both_ways (counts r (image_of d.words (entry_word i 0))) (half.half.uncounted i within) counted);
      recorded = half.recorded;
      certain = λ word matters. half.certain word (more word matters);
    }
  where
    more : (word : ℕ) → Matters r d.lines (image_of d.words) word → Matters (with_copy r) d.lines (image_of d.words) word
    more word (inl low) = inl low
    more word (inr (inl directory)) = inr (inl directory)
    more word (inr (inr (i, within, counted, at))) =
        absurd (both_ways (counts r (image_of d.words (entry_word i 0))) (half.half.uncounted i within) counted)

pub sound_quiet : {r : Record} {d : State} (copying : Bool) → (copying ≡ false → IsAtRest r d) → (copying ≡ true → IsHalf r d) → IsQuiet r d
sound_quiet copying rest half = elim (cases_Bool copying) [ inl begun ↦ half_quiet (half begun) | inr idle ↦ rest_quiet (rest idle) ]
