-- Contents that obey the rules, through a reopening of an image that keeps them.
use Rattle.std.proofs.Common.{◌≡◌, ℕ, ◌<◌, ◌≤◌, Bool, true, false, not, cond, ◌||◌, ◌==◌, ◌⊎◌, IsTrue, inl, inr, List, None, Some, refl, sym, ap, subst, ◌∙◌, arith}
use Rattle.std.specs.Prelude.{nat_lt}
use Rattle.std.proofs.lemmas.Bool.{and_parts, cases_lt, cond-true, cond-false, eq-eqb, eqb-true, le-ltb, lt-ltb, or_cases, or_from}
use Rattle.kv_types.specs.declared.place.EntryNo.{EntryNo}
use Rattle.kv_types.specs.declared.refusal.Refusal.{Refusal}
use Rattle.kv_types.specs.declared.refusal.Refusal.TheVariants.{BadMagic, BadVersion, Damaged, Exhausted, Memory, WrongSize}
use Rattle.heap_layout.specs.declared.entry.Entry.{Entry}
use Rattle.heap_layout.specs.Superblock.{is_wrong_size, super_refusal}
use Rattle.model.specs.declared.image.TheConstants.{MIN_LINES, MAX_LINES}
use Rattle.model.specs.declared.layout.Layout.{Layout}
use Rattle.model.specs.declared.record.Record.{Record}
use Rattle.model.specs.declared.record.Role.{Role}
use Rattle.model.specs.Group.{Contents, entries_of}
use Rattle.model.specs.Layout.{directory_room, entries_of_lines, version}
use Rattle.model.specs.Image.{HasSuperblock, Image, IsMapOf, Version, counts, entry_word, magic_number, version_at}
use Rattle.model.proofs.MapLemmas.{IsMapOf-same}
use Rattle.wbl_record.specs.Current.{IsCurrent, IsLawful}
use Rattle.wbl_engine.specs.Contents.{Keeps}
use Rattle.wbl_engine.specs.Lawful.{AreLawful, IsUndamaged}
use Rattle.wbl_engine.specs.Reopening.{ExhaustsReopening, KeepsThrough, RefusesReopening, Reopens, is_cleared, reopened, with_room}
use Rattle.wbl_engine.proofs.GapLemmas.{lawful_but_one}
use Rattle.wbl_engine.proofs.LawfulLemmas.{lawful_undamaged, some_version}
use Rattle.wbl_engine.proofs.ReadingLemmas.{undamaged_unique}
use Rattle.wbl_engine.proofs.Reopened.{open_lawful}
use Rattle.wbl_engine.proofs.RoomLemmas.{HasLimits, cleared_uncounted, has_limits, room_cases, room_layout, room_role}

-- ---- the contents

-- no entry beyond the directory has a version
none_beyond : {lines : ℕ} {image : Image} {role : Role} {new : Contents} {counted : List (EntryNo × Entry)} {gapped : List EntryNo}
    → (reopens : Reopens lines image role new counted gapped) → (i : ℕ) → entries_of_lines reopens.before.layout lines ≤ i → new.versions i ≡ None
none_beyond {lines} reopens i beyond =
    let entries : ℕ = entries_of_lines reopens.before.layout lines in reopens.versions i ∙ cond-false (nat_lt i entries) _ _ (le-ltb i entries beyond)

-- the directory has as many entries as before
pub new_entries : {lines : ℕ} {image : Image} {role : Role} {new : Contents} {counted : List (EntryNo × Entry)} {gapped : List EntryNo}
    → (reopens : Reopens lines image role new counted gapped) → entries_of new ≡ entries_of_lines reopens.before.layout lines
new_entries {new = new} reopens =
    ap (λ (layout : Layout). entries_of_lines layout new.lines) (ap (λ (r : Record). r.layout) reopens.current ∙ room_layout reopens.before)
    ∙ ap (entries_of_lines reopens.before.layout) reopens.lines_are

-- neither has a free one
none_free : {lines : ℕ} {image : Image} {role : Role} {new : Contents} {counted : List (EntryNo × Entry)} {gapped : List EntryNo}
    → Reopens lines image role new counted gapped → (i : ℕ) → IsTrue (new.is_free i) → new.versions i ≡ None
none_free {lines} {image} reopens i free =
    let parts = and_parts (nat_lt i (entries_of_lines reopens.before.layout lines))
    (image (entry_word i 0) == 0 || is_cleared reopens.before (image (entry_word i 0)))
    (sym (reopens.is_free i) ∙ free) in
    let uncounted : counts reopens.before (image (entry_word i 0)) ≡ false =
    elim (or_cases (image (entry_word i 0) == 0) (is_cleared reopens.before (image (entry_word i 0))) parts.1) [
      | inl zero ↦ ap (counts reopens.before) (eqb-true (image (entry_word i 0)) 0 zero)
      | inr cleared ↦ cleared_uncounted reopens.before reopens.undamaged.current.lawful (image (entry_word i 0)) cleared
    ] in
    reopens.versions i ∙ cond-true (nat_lt i (entries_of_lines reopens.before.layout lines)) _ _ parts.0
    ∙ cond-false (counts reopens.before (image (entry_word i 0))) _ _ uncounted

-- the image has one record
same_record : {old new : Contents} {image : Image} {role : Role} {counted : List (EntryNo × Entry)} {gapped : List EntryNo}
    → AreLawful old → Keeps old image → (reopens : Reopens old.lines image role new counted gapped) → reopens.before ≡ old.current
same_record {old} {new} {image} are keeps reopens =
    undamaged_unique old.current reopens.before (lawful_undamaged old image are keeps).current reopens.undamaged

old_entries : {old new : Contents} {image : Image} {role : Role} {counted : List (EntryNo × Entry)} {gapped : List EntryNo}
    → AreLawful old → Keeps old image → (reopens : Reopens old.lines image role new counted gapped)
    → entries_of_lines reopens.before.layout old.lines ≡ entries_of old
old_entries {old} are keeps reopens = ap (λ (r : Record). entries_of_lines r.layout old.lines) (same_record are keeps reopens)

same_versions : {old new : Contents} {image : Image} {role : Role} {counted : List (EntryNo × Entry)} {gapped : List EntryNo}
    → AreLawful old → Keeps old image → Reopens old.lines image role new counted gapped
    → (i : ℕ) → i < entries_of old → new.versions i ≡ old.versions i
same_versions {old} {new} {image} are keeps reopens i within =
    let entries : ℕ = entries_of_lines reopens.before.layout old.lines in
    reopens.versions i ∙ cond-true (nat_lt i entries) _ _ (lt-ltb i entries (omega (arith, within, old_entries are keeps reopens)))
    ∙ ap (λ (r : Record). version_at r image i) (same_record are keeps reopens) ∙ keeps.versions i within

pub keeps_through : (old new : Contents) (image : Image) (role : Role) (counted : List (EntryNo × Entry)) (gapped : List EntryNo)
    → AreLawful old → Keeps old image → Reopens old.lines image role new counted gapped → KeepsThrough old new
keeps_through old new image role counted gapped are keeps reopens =
    record {
      current = reopens.current ∙ ap reopened (same_record are keeps reopens);
      lines_are = reopens.lines_are;
      versions = same_versions are keeps reopens;
      consistent = record {
        free = none_free reopens;
        beyond = λ i beyond. none_beyond reopens i (omega (arith, beyond, new_entries reopens));
      };
    }

-- ---- the rules

reopened_lawful : (r : Record) → IsLawful r → (ExhaustsReopening r → ⊥) → IsLawful (reopened r)
reopened_lawful r lawful fits =
    let has : HasLimits r = has_limits r lawful fits in
    let roomy : IsLawful (with_room r) =
    elim (room_cases r) [
      | inl full ↦ subst IsLawful (sym full.1) (lawful_but_one r lawful has.cleared_number)
      | inr same ↦ subst IsLawful (sym same.1) lawful
    ] in
    open_lawful (with_room r) roomy has.room has.limit has.number

pub reopening_lawful : (old new : Contents) (image : Image) (role : Role) (counted : List (EntryNo × Entry)) (gapped : List EntryNo)
    → AreLawful old → Keeps old image → Reopens old.lines image role new counted gapped → AreLawful new
reopening_lawful old new image role counted gapped are keeps reopens =
    let was : (i : ℕ) (v : Version) → new.versions i ≡ Some v → old.versions i ≡ Some v =
    λ i v is.
    elim (cases_lt i (entries_of old)) [
      | inl within ↦ sym (same_versions are keeps reopens i within) ∙ is
      | inr beyond ↦ absurd (some_version v (sym (none_beyond reopens i (omega (arith, beyond, old_entries are keeps reopens))) ∙ is))
    ] in
    record {
      many = omega (arith, reopens.lines_are, are.many);
      few = omega (arith, reopens.lines_are, are.few);
      current = subst IsLawful (sym reopens.current) (reopened_lawful reopens.before reopens.undamaged.current.lawful reopens.fits);
      apart = λ i j v w differ is_v is_w. are.apart i j v w differ (was i v is_v) (was j w is_w);
      keyspace = are.keyspace;
      lawful = are.lawful;
      map = subst (λ (entries : ℕ). IsMapOf new.versions entries are.keyspace) (sym (new_entries reopens ∙ old_entries are keeps reopens))
          (IsMapOf-same old.versions new.versions (entries_of old) are.keyspace (λ i within. sym (same_versions are keeps reopens i within)) are.map);
      uncopied = λ newcomer i.
          let none = are.uncopied
          (ap (λ (r : Record). r.role) (sym (same_record are keeps reopens)) ∙ sym (room_role reopens.before)
          ∙ ap (λ (r : Record). r.role) (sym reopens.current) ∙ newcomer) in
          elim (cases_lt i (entries_of old)) [
            | inl within ↦ same_versions are keeps reopens i within ∙ none i
            | inr beyond ↦ none_beyond reopens i (omega (arith, beyond, old_entries are keeps reopens))
          ];
    }

-- ---- refusals

-- a superblock that breaks no rule earns no refusal
pub super_none : (layout : Layout) (lines : ℕ) (image : Image) → MIN_LINES ≤ lines → lines ≤ MAX_LINES → HasSuperblock layout lines image
    → super_refusal layout lines image ≡ None
super_none layout lines image many few has =
    earns_none (is_wrong_size lines) (image 0 == magic_number) (image 1 == version layout) (image 2 == lines) (image 3 == directory_room lines)
    (or_from (nat_lt lines MIN_LINES) (nat_lt MAX_LINES lines) (le-ltb lines MIN_LINES many) (le-ltb MAX_LINES lines few))
    (eq-eqb (image 0) magic_number has.magic) (eq-eqb (image 1) (version layout) has.version) (eq-eqb (image 2) lines has.line_count)
    (eq-eqb (image 3) (directory_room lines) has.room)
  where
    earns_none : (size magic version count entries : Bool)
        → size ≡ false → magic ≡ true → version ≡ true → count ≡ true → entries ≡ true
        → cond size (Some WrongSize) (cond (not magic) (Some BadMagic) (cond (not version) (Some BadVersion)
        (cond (not count) (Some WrongSize) (cond (not entries) (Some Damaged) None)))) ≡ None
    earns_none size magic version count entries es em ev ec ee = cc

some_refusal : (refusal : Refusal) → None ≡ Some refusal → ⊥
some_refusal refusal e = cc

-- the superblock of an undamaged image earns no refusal for the layout of its record
pub never_refused : {lines : ℕ} {image : Image} {refusal : Refusal} (r s : Record) → MIN_LINES ≤ lines → lines ≤ MAX_LINES → IsCurrent lines image r
    → IsUndamaged lines s image → super_refusal r.layout lines image ≡ Some refusal → ⊥
never_refused {lines} {image} {refusal} r s many few current whole refused =
    some_refusal refusal (sym (super_none r.layout lines image many few
    (subst (λ (q : Record). HasSuperblock q.layout lines image) (undamaged_unique r s current whole) whole.superblock)) ∙ refused)

pub lawful_refusal : (contents : Contents) (image : Image) (refusal : Refusal) → AreLawful contents → Keeps contents image
    → RefusesReopening contents.current.layout contents.lines image contents.current.role refusal
    → (refusal ≡ Memory) ⊎ ((refusal ≡ Exhausted) × ExhaustsReopening contents.current)
lawful_refusal contents image refusal are keeps (inl (inl super)) =
    absurd (some_refusal refusal (sym (super_none contents.current.layout contents.lines image are.many are.few keeps.superblock) ∙ super))
lawful_refusal contents image refusal are keeps (inl (inr (inl damaged))) =
    absurd (damaged.1 contents.current (lawful_undamaged contents image are keeps))
lawful_refusal contents image refusal are keeps (inl (inr (inr memory))) = inl memory
lawful_refusal contents image refusal are keeps (inr (inl wrong)) =
    absurd (wrong.1 contents.current (lawful_undamaged contents image are keeps) refl)
lawful_refusal contents image refusal are keeps (inr (inr exhausted)) =
    inr (exhausted.0, exhausted.1 contents.current (lawful_undamaged contents image are keeps))
