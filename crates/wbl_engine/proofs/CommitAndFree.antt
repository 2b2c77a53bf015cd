-- A group is committed while versions that had ended are freed: the two are one stage, and the record behind it makes the group count.
use Rattle.std.proofs.Common.{◌≡◌, ℕ, zero, suc, ◌+◌, ◌/◌, ◌<◌, Bool, false, not, cond, ◌&&◌, ◌==◌, ◌⊎◌, inl, inr, List, [], ◌∷◌, ◌++◌, None, Option, length, refl, sym, ap, subst, ◌∙◌, arith}
use Rattle.std.proofs.lemmas.Bool.{and_from, and_parts, both_ways, cases_Bool, eq-eqb, eqb-true}
use Rattle.kv_types.specs.declared.place.EntryNo.{EntryNo}
use Rattle.pmem.specs.Device.{Word, State, MayBe, Only, settled}
use Rattle.pmem.specs.Crash.{IsImage, image_of}
use Rattle.pmem.specs.Runs.{LeavesOnly, Staged, StageFailed, IsLine, IsOutside, IsPartlyStored, IsStored, written}
use Rattle.pmem.proofs.Leaving.{LeavesOnly-then, LeavesOnly-weaken, step_leaves}
use Rattle.pmem.proofs.Staging.{IsLine-append_left, IsLine-append_right, IsStored-append, stored_or_outside, written-append, written-cases, written-outside}
use Rattle.model.specs.declared.group.Part.{Part}
use Rattle.model.specs.declared.record.Record.{Record}
use Rattle.model.specs.Group.{Contents}
use Rattle.model.specs.Image.{Image, Version, entry_word, entries_of_lines, counts}
use Rattle.wbl_record.specs.Current.{IsLawful}
use Rattle.wbl_record.specs.Record.{IsRecorded, IsRecordFault, IsSucceeded, IsEitherRecord}
use Rattle.wbl_engine.specs.AtRest.{IsAtRest, Matters, contents_of}
use Rattle.wbl_engine.specs.Committing.{AreCommittable, after_parts, record_after}
use Rattle.wbl_engine.specs.Contents.{Keeps, Same}
use Rattle.wbl_engine.specs.Erasing.{erase_pairs, erase_lines}
use Rattle.wbl_engine.specs.Freeing.{AreEnded, KeepsFreedOr, KeepsWithoutSome, after_free, is_listed, without}
use Rattle.wbl_engine.specs.Stage.{parts_lines}
use Rattle.wbl_engine.proofs.AfterStage.{made_image}
use Rattle.wbl_engine.proofs.Committing.{done_rest, done_same, either_keeps, fault_same, later_fault}
use Rattle.wbl_engine.proofs.CountLemmas.{counts-above}
use Rattle.wbl_engine.proofs.Covering.{parts_covered}
use Rattle.wbl_engine.proofs.Erased.{AreBelow, IsErased, IsHarmless, IsSound, directory_matters, erased_keeps, erased_rest, stored_erased, versions-within, whole_below, whole_sound}
use Rattle.wbl_engine.proofs.ErasedStamps.{erase_behind, erase_line, erased_below, erased_over, harmless as erase_harmless, stamp_of}
use Rattle.wbl_engine.proofs.FreeingLemmas.{ended_erasing, freed_same, listed_gone}
use Rattle.wbl_engine.proofs.Staged.{EndsAt, IsCommitting, PutsAt, group_behind, group_pairs, harmless as group_harmless, stored_at}
use Rattle.wbl_engine.proofs.Storing.{AreBehind, IsStoredOver, partly_over, partly_recorded, staged_recorded, written_over}

-- contents that say the same of each entry are one
pub same_is : (old new : Contents) → Same old new → new ≡ old
same_is old new same = grind arith

-- none of the entries is freed yet
pub keeps_yet : (entries : List EntryNo) (contents : Contents) (image : Image) → Keeps contents image → KeepsWithoutSome entries contents image
keeps_yet entries contents image keeps =
    (λ i. false, λ i gone. absurd (both_ways false refl gone), record { superblock = keeps.superblock; has_record = keeps.has_record; versions = keeps.versions; entries = keeps.entries })

-- ---- one word or another

abbrev pick : {A B : Type 0} → A ⊎ B → Word → Word → Word
pick (inl a) first second = first
pick (inr b) first second = second

picked : {A B : Type 0} (P : Word → Type 0) (which : A ⊎ B) (first second : Word) → (A → P first) → (B → P second) → P (pick which first second)
picked P (inl a) first second left right = left a
picked P (inr b) first second left right = right b

only_settled : (x y : ℕ) → MayBe (settled x) y → y ≡ x
only_settled x y (inl is) = is
only_settled x y (inr none) = absurd none

-- what pairs store at a word where one of them does
written_there : (pairs : List (ℕ × ℕ)) (base : Image) (word x : ℕ) → IsStored pairs word x → IsStored pairs word (written pairs base word)
written_there pairs base word x stored = elim (written-cases pairs base word) [ inl out ↦ absurd (out.0 x stored) | inr there ↦ there ]

module _ {r : Record} {d : State} {parts : List Part} {position epoch floor : ℕ} (entries : List EntryNo) (begun : IsCommitting r d parts position epoch floor)
    (ended : AreEnded (contents_of r d) entries) where
  abbrev erased : List (ℕ × ℕ)
  erased = erase_pairs entries []

  abbrev group : List (ℕ × ℕ)
  group = group_pairs r parts

  abbrev pub pairs : List (ℕ × ℕ)
  pairs = erased ++ group

  abbrev base : Image
  base = image_of d.words

  sound : IsSound r d.lines base
  sound = whole_sound begun.rest.whole

  -- ---- until the first fence

  both_behind : AreBehind r.layout d.lines pairs
  both_behind word x stored =
      elim (IsStored-append erased group word x stored) [
        | inl zero_there ↦ erase_behind (ended_erasing r d entries ended) word x zero_there
        | inr part ↦ group_behind begun word x part
      ]

  both_harmless : IsHarmless r d.lines base pairs
  both_harmless =
      let first : IsHarmless r d.lines base erased = erase_harmless sound (ended_erasing r d entries ended) in
      let second : IsHarmless r d.lines base group = group_harmless begun in
      record {
        behind = both_behind;
        end = λ i x within counted stored.
            elim (IsStored-append erased group (entry_word i 1) x stored) [ inl e ↦ first.end i x within counted e | inr g ↦ second.end i x within counted g ];
        words = λ i k x within counted low below stored.
            elim (IsStored-append erased group (entry_word i k) x stored) [ inl e ↦ first.words i k x within counted low below e | inr g ↦ second.words i k x within counted low below g ];
        extents = λ i word x within counted at stored.
            elim (IsStored-append erased group word x stored) [ inl e ↦ first.extents i word x within counted at e | inr g ↦ second.extents i word x within counted at g ];
      }

  module _ (image : Image) (over : IsStoredOver (Matters r d.lines base) base pairs image) where
    -- the versions whose begins are erased in it
    abbrev gone : ℕ → Bool
    gone i = is_listed i entries && (image (entry_word i 0) == 0)

    begin_now : (i : ℕ) → i < entries_of_lines r.layout d.lines → counts r (image (entry_word i 0)) ≡ (not (gone i) && counts r (base (entry_word i 0)))
    begin_now i within =
        let was : Bool = counts r (base (entry_word i 0)) in
        let now : ℕ = image (entry_word i 0) in
        elim (cases_Bool (gone i)) [
          | inl is ↦
              let none : now ≡ 0 = eqb-true now 0 (and_parts (is_listed i entries) (now == 0) is).1 in
              ap (counts r) none ∙ sym (ap (λ (b : Bool). not b && was) is)
          | inr left ↦
              elim (over (entry_word i 0) (directory_matters r d.lines base i 0 within (omega arith))) [
                | inl same ↦ ap (counts r) same
                | inr stored ↦
                    elim (IsStored-append erased group (entry_word i 0) now stored) [
                      | inl e ↦
                          let at = stamp_of entries [] i 0 now (omega arith) e in
                          absurd (both_ways (gone i) left (and_from (is_listed i entries) (now == 0) at.2 (eq-eqb now 0 at.0)))
                      | inr g ↦
                          elim (stored_at begun i 0 now within (omega arith) g) [
                            | inl put ↦ counts-above r now (put.begin refl).0 ∙ sym (ap (counts r) put.free)
                            | inr end ↦ absurd (omega (arith, end.only_end))
                          ]
                    ]
              ]
              ∙ sym (ap (λ (b : Bool). not b && was) left)
        ]

    both_erased : IsErased r r d.lines gone base image
    both_erased = stored_erased gone sound both_harmless over begin_now

    both_below : AreBelow r.layout d.lines image (r.cp + length parts + 1)
    both_below i k within low =
        let was = whole_below begun.rest.whole i k within low in
        elim (over (entry_word i k) (directory_matters r d.lines base i k within (omega (arith, low)))) [
          | inl same ↦ omega (arith, same, was)
          | inr stored ↦
              elim (IsStored-append erased group (entry_word i k) (image (entry_word i k)) stored) [
                | inl e ↦ omega (arith, (stamp_of entries [] i k (image (entry_word i k)) (omega (arith, low)) e).0)
                | inr g ↦ below_of i k within low (stored_at begun i k (image (entry_word i k)) within (omega (arith, low)) g)
              ]
        ]
      where
        below_of : (i k : ℕ) → i < entries_of_lines r.layout d.lines → k < 2
            → PutsAt r d parts i k (image (entry_word i k)) ⊎ EndsAt r d parts i k (image (entry_word i k)) → image (entry_word i k) < r.cp + length parts + 1
        below_of i zero within low (inl put) = omega (arith, (put.begin refl).1)
        below_of i (suc zero) within low (inl put) = omega (arith, put.end refl)
        below_of i (suc (suc k)) within low (inl put) = absurd (omega (arith, low))
        below_of i k within low (inr end) = omega (arith, end.high)

  pub both_partly : (image : Image) → IsPartlyStored pairs d.words image → KeepsWithoutSome entries (contents_of r d) image
  both_partly image partly =
      let over = partly_over (Matters r d.lines base) d image pairs begun.rest.certain partly in (
        gone image over,
        λ i is. (and_parts (is_listed i entries) (image (entry_word i 0) == 0) is).0,
        erased_keeps (without (gone image over) (contents_of r d)) sound (both_erased image over) (omega arith)
            (λ i k within low. let at = both_below image over i k within low in omega (arith, at, begun.rest.lawful.limit, begun.asked.few))
            (λ i within. ap (λ (v : Option Version). cond (gone image over i) None v) (sym (versions-within r d i within)))
            (partly_recorded d image pairs begun.rest.many both_behind begun.rest.recorded partly),
      )

  -- ---- the device as it would be, were the begins erased before

  abbrev freed_words : ℕ → Word
  freed_words word = pick (stored_or_outside erased word) (settled (written erased base word)) (d.words word)

  abbrev freed : State
  freed = record d { words = freed_words }

  freed_newest : (word : ℕ) → image_of freed_words word ≡ written erased base word
  freed_newest word =
      picked (λ (w : Word). w.newest ≡ written erased base word) (stored_or_outside erased word) (settled (written erased base word)) (d.words word)
      (λ stored. refl) (λ out. sym (written-outside erased base word out))

  freed_image : image_of freed_words ≡ written erased base
  freed_image = λ p word. freed_newest word p

  -- a word that is not erased may be what it could be
  freed_other : (word y : ℕ) → IsOutside erased word → MayBe (d.words word) y → MayBe (freed_words word) y
  freed_other word y out may =
      picked (λ (w : Word). MayBe w y) (stored_or_outside erased word) (settled (written erased base word)) (d.words word)
      (λ stored. absurd (out stored.0 stored.1)) (λ outside. may)

  freed_partly : (image : Image) → IsImage freed_words image → IsPartlyStored erased d.words image
  freed_partly image is word =
      picked (λ (w : Word). MayBe w (image word) → MayBe (d.words word) (image word) ⊎ IsStored erased word (image word)) (stored_or_outside erased word) (settled (written erased base word)) (d.words word)
      (λ stored may.
      inr (subst (λ (x : ℕ). IsStored erased word x) (sym (only_settled (written erased base word) (image word) may)) (written_there erased base word stored.0 stored.1)))
      (λ out may. inl may) (is word)

  freed_rest : IsAtRest r freed
  freed_rest =
      let over = written_over (Matters r d.lines base) base (image_of freed_words) erased (λ word matters. freed_newest word) in
      erased_rest begun.rest.many begun.rest.few sound
      (erased_over sound (ended_erasing r d entries ended) (λ i. is_listed i entries) (image_of freed_words) over
      (listed_gone r d entries (image_of freed_words) (λ word matters. freed_newest word)))
      begun.rest.lawful (omega arith) (erased_below sound (ended_erasing r d entries ended) (image_of freed_words) over (whole_below begun.rest.whole)) refl
      (λ image is. partly_recorded d image erased begun.rest.many (erase_behind (ended_erasing r d entries ended)) begun.rest.recorded (freed_partly image is))
      (λ word matters.
      picked (λ (w : Word). Only w w.newest) (stored_or_outside erased word) (settled (written erased base word)) (d.words word)
      (λ stored. record { only = only_settled (written erased base word) }) (λ out. begun.rest.certain word matters))

  freed_contents : contents_of r freed ≡ after_free entries (contents_of r d)
  freed_contents = same_is (after_free entries (contents_of r d)) (contents_of r freed) (freed_same r d entries begun.rest ended freed freed_newest refl)

  module _ (asked : AreCommittable (after_free entries (contents_of r d)) parts position) where
    freed_begun : IsCommitting r freed parts position epoch floor
    freed_begun =
        record {
          rest = freed_rest;
          asked = subst (λ (contents : Contents). AreCommittable contents parts position) (sym freed_contents) asked;
          writable = begun.writable;
        }

    made_both : (word : ℕ) → made_image r freed parts word ≡ written pairs base word
    made_both word =
        ap (λ (image : Image). written group image word) freed_image ∙ sym (ap (λ (image : Image). image word) (written-append erased group base))

    -- where the first fence failed
    pub first_fails : {b : State} → StageFailed d b pairs → Same (after_free entries (contents_of r d)) (contents_of r b)
    first_fails {b} failed =
        subst (λ (contents : Contents). Same contents (contents_of r b)) freed_contents
        (fault_same freed_begun b failed.stays.lines (λ word beside. failed.newest word ∙ sym (made_both word)))

    module _ {b : State} (staged : Staged d b pairs (erase_lines entries [] ++ parts_lines parts)) where
      abbrev behind_freed : State
      behind_freed = record b { past = freed_words ∷ d.past }

      elsewhere : (word y : ℕ) → IsOutside group word → MayBe (b.words word) y → MayBe (freed_words word) y
      elsewhere word y out may =
          elim (stored_or_outside erased word) [
            | inl stored ↦
                let line : IsLine (erase_lines entries [] ++ parts_lines parts) (word / 8) =
                IsLine-append_left (erase_lines entries []) (parts_lines parts) (word / 8) (erase_line entries [] word stored.0 stored.1) in
                let is : y ≡ image_of freed_words word =
                (staged.certain word line).only y may ∙ sym (made_both word) ∙ written-outside group (image_of freed_words) word out in
                inl is
            | inr outside ↦
                freed_other word y outside
                (staged.elsewhere word y
                (λ x stored. elim (IsStored-append erased group word x stored) [ inl e ↦ outside x e | inr g ↦ out x g ]) may)
          ]

      certain : (word : ℕ) → IsLine (parts_lines parts) (word / 8) → Only (b.words word) (written group (image_of freed_words) word)
      certain word line =
          subst (λ (x : ℕ). Only (b.words word) x) (sym (made_both word))
          (staged.certain word (IsLine-append_right (erase_lines entries []) (parts_lines parts) (word / 8) line))

      partly_now : (image : Image) → IsImage b.words image → IsPartlyStored group freed_words image
      partly_now image is word =
          elim (stored_or_outside group word) [
            | inl stored ↦
                let at : image word ≡ written group (image_of freed_words) word =
                (certain word (parts_covered (r.cp + 1) parts word stored.0 stored.1)).only (image word) (is word) in
                inr (subst (λ (x : ℕ). IsStored group word x) (sym at) (written_there group (image_of freed_words) word stored.0 stored.1))
            | inr out ↦ inl (elsewhere word (image word) out (is word))
          ]

      -- the stage of the group alone leads from there to the same words
      alone : Staged freed behind_freed group (parts_lines parts)
      alone =
          record {
            newest = λ word. staged.newest word ∙ sym (made_both word);
            certain = certain;
            elsewhere = elsewhere;
            failures = staged.failures;
            fences = staged.fences;
            stays = record { lines = staged.stays.lines; kept = staged.stays.kept; starved = staged.stays.starved };
            moments = step_leaves freed behind_freed (IsPartlyStored group freed_words) refl (λ image is word. inl (is word)) partly_now;
          }

      module _ {next : Record} (is : next ≡ record_after r parts position epoch floor) where
        recorded_behind : {c : State} → IsRecorded b c next → IsRecorded behind_freed c next
        recorded_behind recorded =
            record {
              durable = recorded.durable;
              elsewhere = recorded.elsewhere;
              newest = recorded.newest;
              failures = recorded.failures;
              stays = record { lines = recorded.stays.lines; kept = recorded.stays.kept; starved = recorded.stays.starved };
            }

        fault_behind : {c : State} → IsRecordFault b c next → IsRecordFault behind_freed c next
        fault_behind fault =
            record {
              newest = fault.newest;
              failures = fault.failures;
              stays = record { lines = fault.stays.lines; kept = fault.stays.kept; starved = fault.stays.starved };
            }

        pub both_rest : {c : State} → IsLawful next → IsRecorded b c next → IsAtRest next c
        both_rest lawful recorded = done_rest freed_begun is alone lawful (recorded_behind recorded)

        pub both_same : {c : State} → IsRecorded b c next → Same (after_parts (after_free entries (contents_of r d)) parts position epoch floor) (contents_of next c)
        both_same {c} recorded =
            subst (λ (contents : Contents). Same (after_parts contents parts position epoch floor) (contents_of next c)) freed_contents
            (done_same freed_begun is alone (recorded_behind recorded))

        pub later_fails : {c : State} → IsRecordFault b c next → Same (after_free entries (contents_of r d)) (contents_of r c)
        later_fails {c} fault =
            subst (λ (contents : Contents). Same contents (contents_of r c)) freed_contents (later_fault freed_begun is alone (fault_behind fault))

        abbrev new : Contents
        new = after_parts (after_free entries (contents_of r d)) parts position epoch floor

        either : (image : Image) → IsEitherRecord b r (record_after r parts position epoch floor) image → KeepsFreedOr entries (contents_of r d) new image
        either image recorded =
            elim (either_keeps freed_begun is alone image (record { either = recorded.either; elsewhere = recorded.elsewhere })) [
              | inl kept ↦
                  inl ((λ i. is_listed i entries), (λ i listed. listed), subst (λ (contents : Contents). Keeps contents image) freed_contents kept)
              | inr made ↦ inr (subst (λ (contents : Contents). Keeps (after_parts contents parts position epoch floor) image) freed_contents made)
            ]

        pub both_moments : {c : State} → ((current : Record) → IsSucceeded b current next → LeavesOnly b c (IsEitherRecord b current next))
            → LeavesOnly d c (KeepsFreedOr entries (contents_of r d) new)
        both_moments {c} moments =
            LeavesOnly-then (LeavesOnly-weaken (KeepsFreedOr entries (contents_of r d) new) (λ image partly. inl (both_partly image partly)) staged.moments)
            (LeavesOnly-weaken (KeepsFreedOr entries (contents_of r d) new) either
            (subst (λ (q : Record). LeavesOnly b c (IsEitherRecord b r q)) is
            (moments r
            (subst (λ (q : Record). IsSucceeded b r q) (sym is)
            (record { layout = refl; number = refl; durable = staged_recorded begun.rest.many both_behind staged begun.rest.recorded })))))
