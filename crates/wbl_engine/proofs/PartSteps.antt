-- One part moves the versions of an image exactly as its changes say.
use Rattle.std.proofs.Common.{◌≡◌, ◌≢◌, ℕ, ◌+◌, ◌*◌, ◌<◌, ◌≤◌, Bool, true, false, not, ◌||◌, IsTrue, List, ◌⊎◌, inl, inr, ◌↔◌, Option, None, Some, refl, sym, ap, subst, ◌∙◌, arith}
use Rattle.std.specs.List.{list_any, AllByRecursion}
use Rattle.std.proofs.lemmas.Bool.{cond-true, cond-false, cases_Bool, cases_lt, or_left, or_right}
use Rattle.pmem.specs.Runs.{written}
use Rattle.model.specs.declared.record.Record.{Record}
use Rattle.model.specs.declared.group.Part.{Part}
use Rattle.model.specs.declared.group.Put.{Put}
use Rattle.model.specs.Image.{Image, Version, entry_word, entry_bytes, entries_of_lines, version_at, version_in, counts, is_in_gap}
use Rattle.model.specs.Layout.{directory_room}
use Rattle.model.specs.Group.{Versions, IsPlaced, HasItsLines, AreApart, AreAllApart, NamesEnded, is_put_at, is_live_version, is_ended_version, puts_of_part, part_versions, version_of_put}
use Rattle.model.proofs.GroupsLemmas.{placed_in_more}
use Rattle.model.proofs.LayoutLemmas.{entries_fit}
use Rattle.heap_layout.specs.Entry.{IsEntry}
use Rattle.wbl_engine.specs.Stage.{IsWritable, part_pairs}
use Rattle.wbl_engine.proofs.CountLemmas.{with_cp, counts-later, counts-new}
use Rattle.wbl_engine.proofs.PartEffects.{IsAmong, end_if, end_if_begun, changes_kept, changes_made, is_put_at-among, among-is_put_at}
use Rattle.wbl_engine.proofs.PartWords.{named_or_not, contains-named, named-contains, part_word-end_of_put, part_word-named, part_words-put, part_word-kept, part_word-kept_end, part_word-behind}
use Rattle.wbl_engine.proofs.PutPairs.{IsNamed, among-all}
use Rattle.heap_layout.proofs.ReadBack.{HasPut, IsEntry-put, lines_enough}
use Rattle.wbl_engine.proofs.ReadBack.{version_in_entry-put}
use Rattle.wbl_engine.proofs.VersionLemmas.{SameEntry, entry-same, version_in_entry, version_in_entry-same}

-- the image has these versions, and no stamp that was not given out yet
pub record Fits (r : Record) (lines : ℕ) (image : Image) (versions : Versions) : Type 0 where
  pub same : (i : ℕ) → i < entries_of_lines r.layout lines → version_at r image i ≡ versions i
  pub beyond : (i : ℕ) → entries_of_lines r.layout lines ≤ i → versions i ≡ None
  pub begins : (i : ℕ) → i < entries_of_lines r.layout lines → image (entry_word i 0) ≤ r.cp
  pub ends : (i : ℕ) → i < entries_of_lines r.layout lines → image (entry_word i 1) ≤ r.cp
  pub entries : (i : ℕ) → i < entries_of_lines r.layout lines → IsTrue (counts r (image (entry_word i 0))) → IsEntry lines image i
  pub no_gap : (stamp : ℕ) → r.cp < stamp → list_any (is_in_gap stamp) r.gaps.items ≡ false

-- a put may be stored: its entry is free, and its lines are those of no version
pub record IsReady (versions : Versions) (image : Image) (put : Put) : Type 0 where
  pub free : image (entry_word put.entry.0 0) ≡ 0
  pub lines : (i : ℕ) (version : Version) → versions i ≡ Some version → AreApart put.extent.first_line put.extent.lines version.first_line version.lines

-- all that is known of the puts of a part
pub record AreStored (entries lines : ℕ) (versions : Versions) (image : Image) (puts : List Put) : Type 0 where
  pub placed : AllByRecursion (IsPlaced entries lines) puts
  pub fitting : AllByRecursion HasItsLines puts
  pub writable : AllByRecursion IsWritable puts
  pub ready : AllByRecursion (IsReady versions image) puts
  pub apart : AreAllApart puts

-- a version that is there was begun
pub begun_version : {r : Record} {lines : ℕ} {image : Image} {versions : Versions} → Fits r lines image versions → (i : ℕ) (version : Version)
    → i < entries_of_lines r.layout lines → versions i ≡ Some version
    → (counts r (image (entry_word i 0)) ≡ true) × (version ≡ version_in r image i)
begun_version {r} {lines} {image} {versions} fits i version within is =
    let at = fits.same i within in
    elim (cases_Bool (counts r (image (entry_word i 0)))) [
      | inl begun ↦
          let e : version_at r image i ≡ Some (version_in r image i) = cond-true (counts r (image (entry_word i 0))) _ _ begun in
          (begun, cc)
      | inr none ↦
          let e : version_at r image i ≡ None = cond-false (counts r (image (entry_word i 0))) _ _ none in
          let clash : None ≡ Some version = sym e ∙ at ∙ is in absurd (cc)
    ]

-- an entry that has a version is one of the directory
pub within_directory : {r : Record} {lines : ℕ} {image : Image} {versions : Versions} → Fits r lines image versions → (i : ℕ) (version : Version)
    → versions i ≡ Some version → i < entries_of_lines r.layout lines
within_directory {r} {lines} {image} {versions} fits i version is =
    elim (cases_lt i (entries_of_lines r.layout lines)) [
      | inl below ↦ below
      | inr beyond ↦ let none = fits.beyond i beyond in let clash : None ≡ Some version = sym none ∙ is in absurd (cc)
    ]

-- the lines of an entry are enough for its bytes
entry_enough : {lines : ℕ} {image : Image} {i : ℕ} → IsEntry lines image i → entry_bytes image i ≤ 64 * image (entry_word i 4)
entry_enough {lines} {image} {i} entry = omega (arith, lines_enough (entry_bytes image i), entry.lines_are)

-- what the names of the ended entries say of one version that was live, or is new
is_ended_after : (named : (Type 0)) (live : Bool) (ended : Bool) → (named ↔ (IsTrue live × IsTrue ended)) → (named ⊎ (named → ⊥)) → IsTrue live
    → (now : Bool) → (named → now ≡ true) → ((named → ⊥) → now ≡ false) → now ≡ ended
is_ended_after named live ended names which is_live now at_named at_none =
    elim which [
      | inl yes' ↦ at_named yes' ∙ sym (names.0 yes').1
      | inr none ↦
          elim (cases_Bool ended) [
            | inl is ↦ absurd (none (names.1 (is_live, is)))
            | inr not_ended ↦ at_none none ∙ sym not_ended
          ]
    ]

-- what holds of each entry of the directory, whether the part puts there or not
each_entry : (part : Part) (P : ℕ → Type 0) → ((i : ℕ) → is_put_at i (puts_of_part part) ≡ false → P i)
    → ((put : Put) → IsAmong put (puts_of_part part) → P put.entry.0) → (i : ℕ) → P i
each_entry part P kept made i =
    elim (cases_Bool (is_put_at i (puts_of_part part))) [
      | inl put ↦ let at = is_put_at-among i (puts_of_part part) put in subst P (sym at.2) (made at.0 at.1)
      | inr none ↦ kept i none
    ]

-- the image after the stores of a part, and the record with one more stamp
abbrev image_after : Record → Part → Image → Image
image_after r part image = written (part_pairs (r.cp + 1) part) image

abbrev record_after : Record → Record
record_after r = with_cp r (r.cp + 1)

module _ {r : Record} {lines : ℕ} {image : Image} {versions : Versions} (part : Part) (fits : Fits r lines image versions)
    (stored : AreStored (entries_of_lines r.layout lines) lines versions image (puts_of_part part)) (names : NamesEnded versions part) where
  placed_room : AllByRecursion (IsPlaced (directory_room lines) lines) (puts_of_part part)
  placed_room = placed_in_more (entries_of_lines r.layout lines) (directory_room lines) lines (puts_of_part part) (entries_fit r.layout lines) stored.placed

  in_room : (i : ℕ) → i < entries_of_lines r.layout lines → i < directory_room lines
  in_room i within = omega (arith, within, entries_fit r.layout lines)

  -- what the part ended is of the directory
  named_within : (i : ℕ) → IsNamed i part.ended.items → i < entries_of_lines r.layout lines
  named_within i named =
      elim (or_live (versions i) (is_put_at i (puts_of_part part)) ((names i).0 (named-contains i part.ended.items named)).0) [
        | inl some ↦ within_directory fits i some.0 some.1
        | inr put ↦
            let at = is_put_at-among i (puts_of_part part) put in
            omega (arith, at.2, (among-all (IsPlaced (entries_of_lines r.layout lines) lines) (puts_of_part part) at.0 at.1 stored.placed).entry)
      ]
    where
      or_live : (o : Option Version) (b : Bool) → IsTrue (is_live_version o || b) → ((version : Version) × (o ≡ Some version)) ⊎ (b ≡ true)
      or_live None b h = inr h
      or_live (Some version) b h = inl (version, refl)

  put_there : (put : Put) → IsAmong put (puts_of_part part) → HasPut (image_after r part image) (r.cp + 1) part.position put
  put_there put among = part_words-put lines (r.cp + 1) part image placed_room stored.apart (λ i named. in_room i (named_within i named)) put among

  kept_word : (i k : ℕ) → i < entries_of_lines r.layout lines → k < 8 → k ≢ 1 → is_put_at i (puts_of_part part) ≡ false
      → image_after r part image (entry_word i k) ≡ image (entry_word i k)
  kept_word i k within below other none = part_word-kept lines (r.cp + 1) part image placed_room i k (in_room i within) below other none

  -- the entry of a kept version stays, and so does its extent
  kept_entry : (i : ℕ) (version : Version) → i < entries_of_lines r.layout lines → versions i ≡ Some version → is_put_at i (puts_of_part part) ≡ false
      → SameEntry image (image_after r part image) i
  kept_entry i version within is none =
      let begun = begun_version fits i version within is in
      let at = fits.entries i within begun.0 in
      record {
        words = λ k low high. kept_word i k within high (omega (arith, low)) none;
        extent = λ j below.
            part_word-behind lines (r.cp + 1) part image placed_room (8 * image (entry_word i 3) + j) (omega (arith, at.above))
            (λ n named. in_room n (named_within n named))
            (λ put among of.
            let apart = (among-all (IsReady versions image) (puts_of_part part) put among stored.ready).lines i version is in
            let first : version.first_line ≡ image (entry_word i 3) = ap (λ (v : Version). v.first_line) begun.1 in
            let count : version.lines ≡ image (entry_word i 4) = ap (λ (v : Version). v.lines) begun.1 in
            elim apart [
              | inl before ↦ omega (arith, before, first, of.high)
              | inr after ↦ omega (arith, after, first, count, of.low, below, entry_enough at)
            ]);
      }

  -- the end stamp of what the part ended counts
  named_counts : (i : ℕ) → IsNamed i part.ended.items → counts (record_after r) (image_after r part image (entry_word i 1)) ≡ true
  named_counts i named =
      ap (counts (record_after r)) (part_word-named (r.cp + 1) part image i named)
      ∙ counts-new r (r.cp + 1) (r.cp + 1) (omega arith) (omega arith) (fits.no_gap (r.cp + 1) (omega arith))

  -- an end counts just where the version has ended, if it does so where the part did not end it
  end_after : (i : ℕ) (test : Bool) → IsTrue (is_live_version (versions i) || is_put_at i (puts_of_part part))
      → is_ended_version (part_versions versions part i) ≡ test
      → ((IsNamed i part.ended.items → ⊥) → counts (record_after r) (image_after r part image (entry_word i 1)) ≡ false)
      → counts (record_after r) (image_after r part image (entry_word i 1)) ≡ test
  end_after i test is_live ended at_none =
      is_ended_after (IsNamed i part.ended.items) (is_live_version (versions i) || is_put_at i (puts_of_part part))
      (is_ended_version (part_versions versions part i))
      (λ named. (names i).0 (named-contains i part.ended.items named), λ both. contains-named i part.ended.items ((names i).1 both))
      (named_or_not i part.ended.items) is_live (counts (record_after r) (image_after r part image (entry_word i 1))) (named_counts i) at_none
      ∙ ended

  -- a version that the part did not make: ended by it, or as it was
  kept_version : (i : ℕ) (version : Version) → i < entries_of_lines r.layout lines → versions i ≡ Some version → is_put_at i (puts_of_part part) ≡ false
      → (test : Bool) → part_versions versions part i ≡ Some (end_if test version)
      → counts (record_after r) (image_after r part image (entry_word i 1)) ≡ (version.is_ended || test)
  kept_version i version within is none test after =
      let begun = begun_version fits i version within is in
      let was : version.is_ended ≡ counts r (image (entry_word i 1)) = ap (λ (v : Version). v.is_ended) begun.1 in
      let stays : (IsNamed i part.ended.items → ⊥) → counts (record_after r) (image_after r part image (entry_word i 1)) ≡ version.is_ended =
      λ unnamed.
      ap (counts (record_after r)) (part_word-kept_end lines (r.cp + 1) part image placed_room i (in_room i within) unnamed none)
      ∙ counts-later r (r.cp + 1) (image (entry_word i 1)) (fits.ends i within) (omega arith) ∙ sym was in
      elim (cases_Bool version.is_ended) [
        | inl ended ↦
            elim (named_or_not i part.ended.items) [
              | inl named ↦ named_counts i named ∙ sym (or_left version.is_ended test ended)
              | inr unnamed ↦ stays unnamed ∙ ended ∙ sym (or_left version.is_ended test ended)
            ]
        | inr live ↦
            end_after i (version.is_ended || test)
            (ap (λ (o : Option Version). is_live_version o || is_put_at i (puts_of_part part)) is
            ∙ ap (λ (b : Bool). not b || is_put_at i (puts_of_part part)) live)
            (ap is_ended_version after) (λ unnamed. stays unnamed ∙ live)
      ]

  -- the begin of a kept version counts as before
  kept_begin : (i : ℕ) → i < entries_of_lines r.layout lines → is_put_at i (puts_of_part part) ≡ false
      → counts (record_after r) (image_after r part image (entry_word i 0)) ≡ counts r (image (entry_word i 0))
  kept_begin i within none =
      ap (counts (record_after r)) (kept_word i 0 within (omega arith) (omega arith) none)
      ∙ counts-later r (r.cp + 1) (image (entry_word i 0)) (fits.begins i within) (omega arith)

  -- an entry that the part did not write
  same_kept : (i : ℕ) → i < entries_of_lines r.layout lines → is_put_at i (puts_of_part part) ≡ false → (old : Option Version) → versions i ≡ old
      → version_at (record_after r) (image_after r part image) i ≡ part_versions versions part i
  same_kept i within none None was =
      let kept = changes_kept part.position versions part.changes.items i none in
      let after : part_versions versions part i ≡ None = kept.is ∙ ap (end_if_begun kept.test) was in
      let uncounted : counts r (image (entry_word i 0)) ≡ false =
      elim (cases_Bool (counts r (image (entry_word i 0)))) [
        | inl begun ↦
            let e : version_at r image i ≡ Some (version_in r image i) = cond-true (counts r (image (entry_word i 0))) _ _ begun in
            let clash : None ≡ Some (version_in r image i) = sym was ∙ sym (fits.same i within) ∙ e in absurd (cc)
        | inr unbegun ↦ unbegun
      ] in
      cond-false _ _ _ (kept_begin i within none ∙ uncounted) ∙ sym after
  same_kept i within none (Some version) was =
      let kept = changes_kept part.position versions part.changes.items i none in
      let after : part_versions versions part i ≡ Some (end_if kept.test version) = kept.is ∙ ap (end_if_begun kept.test) was in
      let begun = begun_version fits i version within was in
      let now : version_in (record_after r) (image_after r part image) i ≡ end_if kept.test version =
      version_in_entry-same image (image_after r part image) i (counts (record_after r) (image_after r part image (entry_word i 1)))
      (kept_entry i version within was none)
      ∙ ap (version_in_entry image i) (kept_version i version within was none kept.test after)
      ∙ ap (λ (v : Version). version_in_entry image i (v.is_ended || kept.test)) begun.1 ∙ ap (end_if kept.test) (sym begun.1) in
      cond-true _ _ _ (kept_begin i within none ∙ begun.0) ∙ ap Some now ∙ sym after

  -- the entry of a put
  same_made : (put : Put) → IsAmong put (puts_of_part part)
      → version_at (record_after r) (image_after r part image) put.entry.0 ≡ part_versions versions part put.entry.0
  same_made put among =
      let made = changes_made part.position versions part.changes.items put among stored.apart in
      let has = put_there put among in
      let ended : counts (record_after r) (image_after r part image (entry_word put.entry.0 1)) ≡ made.test =
      end_after put.entry.0 made.test
      (or_right (is_live_version (versions put.entry.0)) (is_put_at put.entry.0 (puts_of_part part)) (among-is_put_at put (puts_of_part part) among))
      (ap is_ended_version made.is)
      (λ unnamed. ap (counts (record_after r)) (part_word-end_of_put lines (r.cp + 1) part image placed_room stored.apart put among unnamed)) in
      let begun : counts (record_after r) (image_after r part image (entry_word put.entry.0 0)) ≡ true =
      ap (counts (record_after r)) has.begin
      ∙ counts-new r (r.cp + 1) (r.cp + 1) (omega arith) (omega arith) (fits.no_gap (r.cp + 1) (omega arith)) in
      let now : version_in (record_after r) (image_after r part image) put.entry.0 ≡ end_if made.test (version_of_put part.position put) =
      version_in_entry-put (image_after r part image) (r.cp + 1) part.position put
      (counts (record_after r) (image_after r part image (entry_word put.entry.0 1)))
      (among-all IsWritable (puts_of_part part) put among stored.writable).storable (among-all HasItsLines (puts_of_part part) put among stored.fitting) has
      ∙ ap (λ (b : Bool). end_if b (version_of_put part.position put)) ended in
      cond-true _ _ _ begun ∙ ap Some now ∙ sym made.is

  part_end : (i : ℕ) → i < entries_of_lines r.layout lines → image_after r part image (entry_word i 1) ≤ r.cp + 1
  part_end i within =
      elim (named_or_not i part.ended.items) [
        | inl named ↦ omega (arith, part_word-named (r.cp + 1) part image i named)
        | inr unnamed ↦
            each_entry part
            (λ j. j < entries_of_lines r.layout lines → (IsNamed j part.ended.items → ⊥) → image_after r part image (entry_word j 1) ≤ r.cp + 1)
            (λ j none inside away.
            omega (arith, part_word-kept_end lines (r.cp + 1) part image placed_room j (in_room j inside) away none, fits.ends j inside))
            (λ put among inside away.
            omega (arith, part_word-end_of_put lines (r.cp + 1) part image placed_room stored.apart put among away))
            i within unnamed
      ]

  -- The versions after the stores of a part, under the record with one more stamp, are those after its changes.
  pub part_fits : Fits (record_after r) lines (image_after r part image) (part_versions versions part)
  part_fits =
      record {
        same = each_entry part
            (λ i. i < entries_of_lines r.layout lines → version_at (record_after r) (image_after r part image) i ≡ part_versions versions part i)
            (λ i none within. same_kept i within none (versions i) refl) (λ put among within. same_made put among);
        beyond = each_entry part (λ i. entries_of_lines r.layout lines ≤ i → part_versions versions part i ≡ None)
            (λ i none beyond.
            let kept = changes_kept part.position versions part.changes.items i none in
            kept.is ∙ ap (end_if_begun kept.test) (fits.beyond i beyond))
            (λ put among beyond. absurd (omega (
              arith,
              beyond,
              (among-all (IsPlaced (entries_of_lines r.layout lines) lines) (puts_of_part part) put among stored.placed).entry,
            )));
        begins = each_entry part (λ i. i < entries_of_lines r.layout lines → image_after r part image (entry_word i 0) ≤ r.cp + 1)
            (λ i none within. omega (arith, kept_word i 0 within (omega arith) (omega arith) none, fits.begins i within))
            (λ put among within. omega (arith, (put_there put among).begin));
        ends = part_end;
        entries = each_entry part
            (λ i. i < entries_of_lines r.layout lines → IsTrue (counts (record_after r) (image_after r part image (entry_word i 0)))
            → IsEntry lines (image_after r part image) i)
            (λ i none within begun.
            let was : counts r (image (entry_word i 0)) ≡ true = sym (kept_begin i within none) ∙ begun in
            let is : versions i ≡ Some (version_in r image i) = sym (fits.same i within) ∙ cond-true (counts r (image (entry_word i 0))) _ _ was in
            entry-same lines image (image_after r part image) i (kept_entry i (version_in r image i) within is none) (fits.entries i within was))
            (λ put among within begun.
            let writable = among-all IsWritable (puts_of_part part) put among stored.writable in
            IsEntry-put lines (image_after r part image) (r.cp + 1) part.position put
            (among-all (IsPlaced (directory_room lines) lines) (puts_of_part part) put among placed_room)
            (among-all HasItsLines (puts_of_part part) put among stored.fitting) writable.storable writable.name writable.value (put_there put among));
        no_gap = λ stamp above. fits.no_gap stamp (omega arith);
      }
