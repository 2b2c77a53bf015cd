-- The floor is raised by a record of its own, and then what ended up to it is freed.
use Rattle.std.proofs.Common.{◌≡◌, ◌≢◌, ◌⊎◌, ℕ, ◌+◌, ◌<◌, ◌≤◌, None, Option, Result, Ok, Err, inl, inr, List, [], ◌∷◌, max, refl, sym, ap, subst, ◌∙◌, arith}
use Rattle.std.specs.Prelude.{nat_lt, IfErr, IsErrOf, IsTrue}
use Rattle.std.proofs.Math.Bool.{or-false}
use Rattle.std.proofs.Math.Nat.{max-eq_left}
use Rattle.std.proofs.lemmas.Bool.{cases_lt, cond-false, le-ltb}
use Rattle.kv_types.specs.declared.place.EntryNo.{EntryNo}
use Rattle.kv_types.specs.declared.refusal.Refusal.{Refusal}
use Rattle.kv_types.specs.declared.refusal.Refusal.TheVariants.{Exhausted, Fault, Memory}
use Rattle.pmem.specs.Device.{State}
use Rattle.pmem.specs.Crash.{image_of}
use Rattle.pmem.specs.Runs.{LeavesOnly, IsPartlyStored, Staged, written}
use Rattle.pmem.proofs.Leaving.{LeavesOnly-then, LeavesOnly-weaken, none_leaves}
use Rattle.model.specs.declared.group.Group.{Group}
use Rattle.model.specs.declared.image.TheConstants.{COUNTER_LIMIT}
use Rattle.model.specs.declared.layout.Layout.{Layout}
use Rattle.model.specs.declared.record.Record.{Record}
use Rattle.model.specs.Floor.{floored, floor_raised}
use Rattle.model.specs.Group.{Contents, after_group, entries_of, is_ended_version}
use Rattle.model.specs.Image.{Image, Version, entries_of_lines}
use Rattle.wbl_record.specs.Current.{IsLawful}
use Rattle.wbl_record.specs.Record.{IsEitherRecord, IsRecorded, IsRecordFault, IsSucceeded}
use Rattle.wbl_engine.specs.AtRest.{IsAtRest, contents_of}
use Rattle.wbl_engine.specs.Contents.{Same}
use Rattle.wbl_engine.specs.Erasing.{erase_lines, erase_pairs}
use Rattle.wbl_engine.specs.Freeing.{AreEnded, KeepsFreed, KeepsMap, KeepsWithoutSome, after_free}
use Rattle.wbl_engine.specs.Raising.{ExhaustsRaising, IsRaised, under}
use Rattle.wbl_engine.specs.Stage.{AreWithin}
use Rattle.wbl_engine.proofs.AnotherRecord.{IsUnderEither, another, another_fault, another_moments, another_rest, another_same}
use Rattle.wbl_engine.proofs.CommitAndFree.{keeps_yet, same_is}
use Rattle.wbl_engine.proofs.Erased.{rest_keeps}
use Rattle.wbl_engine.proofs.FreeingLemmas.{ended_lines, freed_map, freed_moments, freed_rest, freed_same}
use Rattle.wbl_engine.proofs.HalfLemmas.{none_ended}

-- ---- the record

pub raised_is_lawful : (r : Record) (number floor : ℕ) → IsLawful r → r.number ≤ number → number < COUNTER_LIMIT
    → IsLawful (record r { number = number; floor = floor })
raised_is_lawful r number floor lawful up below =
    record {
      some = omega (arith, lawful.some, up);
      number = below;
      position = lawful.position;
      limit = lawful.limit;
      room = lawful.room;
      some_epoch = lawful.some_epoch;
      epoch = lawful.epoch;
      newcomer = lawful.newcomer;
      few = lawful.few;
      gaps = lawful.gaps;
    }

-- the higher of two is higher than the first where the second is
pub rises : (a b : ℕ) → a < max a b → a < b
rises a b above =
    elim (cases_lt a b) [ inl lt ↦ lt | inr le ↦ let same = max-eq_left le in absurd (omega (arith, same, above)) ]

-- one of the same number is the same
pub raised_same : (r next : Record) → IsRaised r next → next.number ≡ r.number → next ≡ r
raised_same r next (inl same) number = same
raised_same r next (inr later) number = absurd (omega (arith, number, ap (λ (q : Record). q.number) later.1))

pub raised_other : (r next : Record) → IsRaised r next → next.number ≢ r.number → next ≡ another r.epoch r.role next.floor r
raised_other r next (inl same) number = absurd (number (ap (λ (q : Record). q.number) same))
raised_other r next (inr later) number = later.1

pub raised_rises : (r next : Record) → IsRaised r next → next.number ≢ r.number → r.floor < next.floor
raised_rises r next (inl same) number = absurd (number (ap (λ (q : Record). q.number) same))
raised_rises r next (inr later) number = later.0

raised_layout : (r next : Record) → IsRaised r next → next.layout ≡ r.layout
raised_layout r next (inl same) = ap (λ (q : Record). q.layout) same
raised_layout r next (inr later) = ap (λ (q : Record). q.layout) later.1

-- ---- where the record is the current one

module _ {r next : Record} {d : State} (rest : IsAtRest r d) (same : next ≡ r) where
  pub unraised_rest : IsAtRest next d
  unraised_rest = subst (λ (q : Record). IsAtRest q d) (sym same) rest

  pub unraised_same : Same (under next (contents_of r d)) (contents_of next d)
  unraised_same =
      subst (λ (q : Record). Same (under q (contents_of r d)) (contents_of q d)) (sym same)
      (record { current = refl; lines = refl; versions = λ i. refl; is_free = λ i. refl })

-- where nothing was stored
pub raised_none : {r next : Record} {d : State} → IsAtRest r d → LeavesOnly d d (IsUnderEither r next d)
raised_none {r} {next} {d} rest = none_leaves d (IsUnderEither r next d) (λ image is. inl (rest_keeps r d rest image is))

-- ---- where it is the next one, and was written

module _ {r next : Record} {d : State} (rest : IsAtRest r d) (raised : IsRaised r next) (number : next.number ≢ r.number) where
  later : next ≡ another r.epoch r.role next.floor r
  later = raised_other r next raised number

  pub written_rest : {c : State} → IsLawful next → IsRecorded d c next → IsAtRest next c
  written_rest {c} lawful recorded = another_rest rest r.epoch r.role next.floor next later lawful recorded

  pub written_same : {c : State} → IsRecorded d c next → Same (under next (contents_of r d)) (contents_of next c)
  written_same {c} recorded =
      subst (λ (q : Record). Same (under q (contents_of r d)) (contents_of next c)) (sym later)
      (another_same rest r.epoch r.role next.floor next later recorded)

  pub written_fault : {c : State} → IsRecordFault d c next → Same (contents_of r d) (contents_of r c)
  written_fault {c} fault = another_fault rest r.epoch r.role next.floor next later fault

  pub written_moments : {c : State} → ((current : Record) → IsSucceeded d current next → LeavesOnly d c (IsEitherRecord d current next))
      → LeavesOnly d c (IsUnderEither r next d)
  written_moments {c} moments =
      subst (λ (q : Record). LeavesOnly d c (IsUnderEither r q d)) (sym later) (another_moments rest r.epoch r.role next.floor next later moments)

-- ---- once the record is durable

ended_alike : (old new : Contents) (entries : List EntryNo) → entries_of new ≡ entries_of old → ((i : ℕ) → new.versions i ≡ old.versions i)
    → AreEnded old entries → AreEnded new entries
ended_alike old new [] many versions ended = tt
ended_alike old new (entry ∷ entries) many versions ended = (
  omega (arith, many, ended.0),
  subst (λ (v : Option Version). IsTrue (is_ended_version v)) (sym (versions entry.0)) ended.1,
  ended.2,
  ended_alike old new entries many versions ended.3,
)

module _ (r next : Record) (d b : State) (entries : List EntryNo) (raised : IsRaised r next) (rest : IsAtRest next b)
    (same : Same (under next (contents_of r d)) (contents_of next b)) (ended : AreEnded (contents_of r d) entries) where
  raised_ended : AreEnded (contents_of next b) entries
  raised_ended =
      ended_alike (contents_of r d) (contents_of next b) entries
      (ap (λ (layout : Layout). entries_of_lines layout b.lines) (raised_layout r next raised) ∙ ap (entries_of_lines r.layout) same.lines) same.versions ended

  is : contents_of next b ≡ under next (contents_of r d)
  is = same_is (under next (contents_of r d)) (contents_of next b) same

  pub raised_within : AreWithin b.lines entries
  raised_within = ended_lines next b entries rest raised_ended

  pub raised_rest : {c : State} → Staged b c (erase_pairs entries []) (erase_lines entries []) → IsAtRest next c
  raised_rest {c} staged = freed_rest next b entries rest raised_ended c staged

  pub raised_freed : (c : State) → ((word : ℕ) → image_of c.words word ≡ written (erase_pairs entries []) (image_of b.words) word) → c.lines ≡ b.lines
      → Same (after_free entries (under next (contents_of r d))) (contents_of next c)
  raised_freed c newest lines =
      subst (λ (contents : Contents). Same (after_free entries contents) (contents_of next c)) is (freed_same next b entries rest raised_ended c newest lines)

  -- seen under the record from before
  pub raised_fault : (c : State) → ((word : ℕ) → image_of c.words word ≡ written (erase_pairs entries []) (image_of b.words) word) → c.lines ≡ b.lines
      → Same (after_free entries (contents_of r d)) (contents_of r c)
  raised_fault c newest lines = seen raised
    where
      there : Same (after_free entries (under next (contents_of r d))) (contents_of next c)
      there = raised_freed c newest lines

      seen : IsRaised r next → Same (after_free entries (contents_of r d)) (contents_of r c)
      seen (inl same) = subst (λ (q : Record). Same (after_free entries (under q (contents_of r d))) (contents_of q c)) same there
      seen (inr later) =
          let stands = subst (λ (q : Record). Same (after_free entries (under q (contents_of r d))) (contents_of q c)) later.1 there in
          record { current = refl; lines = stands.lines; versions = stands.versions; is_free = stands.is_free }

  pub raised_moments : {c : State} → LeavesOnly d b (IsUnderEither r next d) → LeavesOnly b c (IsPartlyStored (erase_pairs entries []) b.words)
      → LeavesOnly d c (KeepsFreed entries (contents_of r d) (under next (contents_of r d)))
  raised_moments {c} first second =
      LeavesOnly-then (LeavesOnly-weaken (KeepsFreed entries (contents_of r d) (under next (contents_of r d))) first_keeps first)
      (LeavesOnly-weaken (KeepsFreed entries (contents_of r d) (under next (contents_of r d)))
      (λ image left. inr (subst (λ (contents : Contents). KeepsWithoutSome entries contents image) is left))
      (freed_moments next b entries rest raised_ended c second))
    where
      first_keeps : (image : Image) → IsUnderEither r next d image → KeepsFreed entries (contents_of r d) (under next (contents_of r d)) image
      first_keeps image (inl old) = inl old
      first_keeps image (inr new) = inr (keeps_yet entries (under next (contents_of r d)) image new)

-- where the record was not written
pub unraised_moments : (r next : Record) (d b : State) (entries : List EntryNo) → LeavesOnly d b (IsUnderEither r next d)
    → LeavesOnly d b (KeepsFreed entries (contents_of r d) (under next (contents_of r d)))
unraised_moments r next d b entries moments =
    LeavesOnly-weaken (KeepsFreed entries (contents_of r d) (under next (contents_of r d))) keeps moments
  where
    keeps : (image : Image) → IsUnderEither r next d image → KeepsFreed entries (contents_of r d) (under next (contents_of r d)) image
    keeps image (inl old) = inl old
    keeps image (inr new) = inr (keeps_yet entries (under next (contents_of r d)) image new)

-- ---- the map

-- what the raised record leaves has the map, and freeing leaves it
pub raised_map : (floor : ℕ) (old new : Contents) (entries : List EntryNo) → AreEnded old entries → Same (after_free entries (floor_raised floor old)) new → KeepsMap old new
raised_map floor old new entries ended same =
    freed_map (floor_raised floor old) new entries (ended_alike old (floor_raised floor old) entries refl (λ i. refl) ended) same

-- ---- a floor that is reached

pub raised_reached : (floor : ℕ) (contents : Contents) → floor ≤ contents.current.floor → floor_raised floor contents ≡ contents
raised_reached floor contents low =
    let r = contents.current in
    let number = cond-false (nat_lt r.floor floor) (r.number + 1) r.number (le-ltb r.floor floor low) in
    let same = max-eq_left low in
    λ i. record contents { current = record r { number = number i; floor = same i } }

-- then a crash leaves the contents without some of the versions, and that is all
pub freed_reached : (floor : ℕ) (contents : Contents) (entries : List EntryNo) {d b : State} → floor ≤ contents.current.floor
    → LeavesOnly d b (KeepsFreed entries contents (floor_raised floor contents)) → LeavesOnly d b (KeepsWithoutSome entries contents)
freed_reached floor contents entries low moments = LeavesOnly-weaken (KeepsWithoutSome entries contents) keeps moments
  where
    keeps : (image : Image) → KeepsFreed entries contents (floor_raised floor contents) image → KeepsWithoutSome entries contents image
    keeps image (inl old) = keeps_yet entries contents image old
    keeps image (inr left) = subst (λ (there : Contents). KeepsWithoutSome entries there image) (raised_reached floor contents low) left

pub floored_reached : (floor : ℕ) (contents : Contents) → floor ≤ contents.current.floor → floored floor contents ≡ contents
floored_reached floor contents low =
    let same = max-eq_left low in
    λ i. record contents { current = record contents.current { floor = same i } }

-- what is told of a call that frees, where no record of its own has come before
module _ (floor : ℕ) (old new : Contents) (entries : List EntryNo) (low : floor ≤ old.current.floor) where
  pub moved_reached : Same (after_free entries (floor_raised floor old)) new → Same (after_free entries old) new
  moved_reached = subst (λ (there : Contents). Same (after_free entries there) new) (raised_reached floor old low)

  pub stays_reached : ((old.current.floor < floor) × Same old new) ⊎ Same (after_free entries old) new → Same (after_free entries old) new
  stays_reached (inl rises) = absurd (omega (arith, rises.0, low))
  stays_reached (inr erased) = erased

-- where no version is there, and the floor is reached, freeing changes nothing
pub nothing_freed : (floor : ℕ) (contents : Contents) (entries : List EntryNo) → floor ≤ contents.current.floor → ((i : ℕ) → contents.versions i ≡ None)
    → AreEnded contents entries → Same (after_free entries (floor_raised floor contents)) contents
nothing_freed floor contents entries low none ended =
    (subst (λ (there : Contents). Same (after_free entries there) contents) (sym (raised_reached floor contents low))
    (subst (λ (es : List EntryNo). Same (after_free es contents) contents) (sym (none_ended contents entries none ended))
    (record { current = refl; lines = refl; versions = λ i. refl; is_free = λ i. sym (or-false (contents.is_free i)) })))

-- nor is a counter at its limit
pub never_exhausts : (floor : ℕ) (r : Record) → floor ≤ r.floor → ¬ ExhaustsRaising floor r
never_exhausts floor r low exhausts = omega (arith, exhausts.0, low)

-- a group whose record raises no floor leads where it leads anyway
pub group_reached : (floor : ℕ) (contents : Contents) (group : Group) → floor ≤ contents.current.floor
    → after_group (floored floor contents) group ≡ after_group contents group
group_reached floor contents group low = ap (λ (there : Contents). after_group there group) (floored_reached floor contents low)

-- and only a fence or memory refuses
pub causes_reached : {A : Type 0} (r : Result A Refusal) → IfErr r (λ refusal. (refusal ≡ Fault) ⊎ ((refusal ≡ Exhausted) ⊎ (refusal ≡ Memory)))
    → (IsErrOf r Exhausted → ⊥) → IfErr r (λ refusal. (refusal ≡ Fault) ⊎ (refusal ≡ Memory))
causes_reached (Ok value) causes never = tt
causes_reached (Err refusal) (inl fault) never = inl fault
causes_reached (Err refusal) (inr (inl exhausted)) never = absurd (never (ap Err exhausted))
causes_reached (Err refusal) (inr (inr memory)) never = inr memory
