-- An image that was old stays old while its last entries are emptied, and can be migrated on where they are empty.
use Rattle.std.proofs.Common.{◌≡◌, ℕ, ◌<◌, ◌≤◌, Bool, true, false, not, cond, ◌==◌, List, [], Option, None, Some, Result, Ok, Err, OnOk, refl, inl, inr, sym, ap, subst, ◌∙◌, nat_lt}
use Rattle.std.proofs.lemmas.Bool.{cases_lt, cond-true, lt-ltb}
use Rattle.kv_types.specs.declared.place.EntryNo.{EntryNo}
use Rattle.kv_types.specs.declared.refusal.Refusal.{Refusal}
use Rattle.kv_types.specs.declared.refusal.Refusal.TheVariants.{BadMagic, BadVersion, Damaged, Full, WrongSize}
use Rattle.kv_types.specs.declared.record_id.RecordId.{RecordId}
use Rattle.kv_types.specs.Keyspace.{Keyspace, value_at}
use Rattle.pmem.specs.Device.{State}
use Rattle.pmem.specs.Crash.{image_of}
use Rattle.pmem.specs.Runs.{LeavesOnly}
use Rattle.pmem.proofs.Leaving.{LeavesOnly-then, LeavesOnly-weaken}
use Rattle.heap_layout.specs.declared.entry.Entry.{Entry}
use Rattle.heap_layout.specs.Superblock.{is_wrong_size, super_refusal}
use Rattle.model.specs.declared.image.TheConstants.{MIN_LINES, MAX_LINES}
use Rattle.model.specs.declared.layout.Layout.{Layout}
use Rattle.model.specs.declared.layout.Layout.TheVariants.{Version1, Version2}
use Rattle.model.specs.Layout as layouts
use Rattle.model.specs.declared.record.Record.{Record}
use Rattle.model.specs.declared.record.Role.{Role}
use Rattle.model.specs.Group.{Contents, IsConsistent, entries_of}
use Rattle.model.specs.Image.{Image, IsMapOf, Version, counts, directory_room, entries_of_lines, entry_word, magic_number, version_at, version_in}
use Rattle.model.proofs.MapLemmas.{IsMapOf-same, value_at-maps}
use Rattle.wbl_engine.specs.Contents.{IsDurable, Keeps}
use Rattle.wbl_engine.specs.Freeing.{record_after_clearing}
use Rattle.wbl_engine.specs.Lawful.{AreLawful, IsUndamaged}
use Rattle.wbl_engine.specs.Reopening.{IsShown, RefusesReopening, Reopens, StaysReadable, is_full, reopened, with_open_gap}
use Rattle.wbl_engine.proofs.LawfulLemmas.{lawful_undamaged}
use Rattle.wbl_engine.proofs.ReadingLemmas.{undamaged_unique}
use Rattle.wbl_engine.proofs.ReopeningLaws.{new_entries}
use Rattle.wbl_engine.proofs.RoomLemmas.{room_layout}
use Rattle.wbl_engine.proofs.ShownContents.{shown_consistent}
use Rattle.wbl_migrate.specs.Leaving.{IsEmptied}
use Rattle.wbl_migrate.specs.Migrating.{GoesOnFrom, IsOldImage, StaysOld}
use Rattle.wbl_migrate.specs.Moving.{AreKnown, HoldsBy}
use Rattle.wbl_migrate.specs.Stage.{IsMovable}
use Rattle.wbl_migrate.specs.Steps.{Leaves}
use Rattle.wbl_migrate.specs.Vacating.{HasLastEntry, IsVacated, StaysOldWith, StopsAt, Vacates}
use Rattle.wbl_migrate.proofs.KnownLemmas.{image_size, reopened_known, reopened_lawful}
use Rattle.wbl_migrate.proofs.Maps.{version_at-none}
use Rattle.wbl_migrate.proofs.MovableLemmas.{as_it_is}
use Rattle.wbl_migrate.proofs.Picks.{none_some}
use Rattle.wbl_migrate.proofs.StepLemmas.{ok_no_error}
use Rattle.wbl_migrate.proofs.Undamaged.{undamaged_image}

-- The contents are of version 1, have `lines'` lines and this keyspace as their map, under a record that goes on from this one.
pub record StandFor (lines' : ℕ) (r : Record) (s : Keyspace) (contents : Contents) : Type 0 where
  pub layout : contents.current.layout ≡ Version1
  pub line_count : contents.lines ≡ lines'
  pub goes_on : GoesOnFrom r contents.current
  pub lawful : AreLawful contents
  pub map : IsMapOf contents.versions (entries_of contents) s

-- what holds anyway holds where a call answered
pub on_ok : {T E P : Type 0} (result : Result T E) → P → OnOk result P
on_ok (Ok value) holds = holds
on_ok (Err e) holds = tt

-- ---- what a reopening gives

-- Its contents are what the steps ask for. `d` is the device of the engine that was opened.
pub opened_contents : (layout : Layout) {lines : ℕ} {before : Image} {role : Role} {contents : Contents} {counted : List (EntryNo × Entry)} {gapped : List EntryNo}
    {X Y : Type 0} {opened : X} {device : Y} (d : State)
    → ((refusal : Refusal) → super_refusal layout lines before ≡ Some refusal → ◌≡◌ {A = Result X (Refusal × Y)} (Ok opened) (Err (refusal, device)))
    → Reopens lines before role contents counted gapped → IsShown contents counted gapped (image_of d.words) → IsDurable d contents
    → IsConsistent contents × AreLawful contents × AreKnown contents counted gapped []
opened_contents layout {lines} {before} {role} {contents} {counted} {gapped} {X} {Y} {opened} {device} d superblock reopens shown durable =
    let keeps : Keeps contents (image_of d.words) = durable (image_of d.words) (λ word. inl refl) in
    let size = image_size layout lines before (λ refusal is. ok_no_error opened (refusal, device) (superblock refusal is)) in
    let same = sym reopens.lines_are in (
      shown_consistent lines before (image_of d.words) role contents counted gapped reopens shown keeps,
      reopened_lawful lines before (image_of d.words) role contents counted gapped reopens shown keeps (subst (λ (n : ℕ). MIN_LINES ≤ n) same size.0)
          (subst (λ (n : ℕ). n ≤ MAX_LINES) same size.1),
      reopened_known lines before (image_of d.words) role contents counted gapped reopens shown keeps,
    )

goes_on_opened : (r : Record) (b : Bool) → GoesOnFrom r (with_open_gap (cond b (record_after_clearing r) r))
goes_on_opened r true = record { position = refl; epoch = refl; role = refl }
goes_on_opened r false = record { position = refl; epoch = refl; role = refl }

module _ {lines : ℕ} {before : Image} {role : Role} {contents : Contents} {counted : List (EntryNo × Entry)} {gapped : List EntryNo}
    (reopens : Reopens lines before role contents counted gapped) (r : Record) (s : Keyspace) (old : IsOldImage lines r s before) where
  same_record : reopens.before ≡ r
  same_record = undamaged_unique r reopens.before old.undamaged.current reopens.undamaged

  before_layout : reopens.before.layout ≡ Version1
  before_layout = ap (λ (q : Record). q.layout) same_record ∙ old.layout

  same_versions : (i : ℕ) → i < entries_of_lines Version1 lines → version_at r before i ≡ contents.versions i
  same_versions i below =
      let entries : ℕ = entries_of_lines reopens.before.layout lines in
      let within : i < entries = subst (λ (layout : Layout). i < entries_of_lines layout lines) (sym before_layout) below in
      sym (reopens.versions i ∙ cond-true (nat_lt i entries) _ _ (lt-ltb i entries within) ∙ ap (λ (q : Record). version_at q before i) same_record)

  pub opened_stand : AreLawful contents → StandFor lines r s contents
  opened_stand lawful =
      record {
        layout = ap (λ (q : Record). q.layout) reopens.current ∙ room_layout reopens.before ∙ before_layout;
        line_count = reopens.lines_are;
        goes_on = subst (GoesOnFrom r) (sym (reopens.current ∙ ap reopened same_record)) (goes_on_opened r (is_full r));
        lawful = lawful;
        map = subst (λ (n : ℕ). IsMapOf contents.versions n s)
            (sym (new_entries reopens ∙ ap (λ (layout : Layout). entries_of_lines layout lines) before_layout))
            (IsMapOf-same (version_at r before) contents.versions (entries_of_lines Version1 lines) s same_versions old.map);
      }

-- only an old image is reopened as one of version 1
pub opened_old : {lines : ℕ} {before : Image} {role : Role} {contents : Contents} {counted : List (EntryNo × Entry)} {gapped : List EntryNo}
    → Reopens lines before role contents counted gapped → contents.current.layout ≡ Version1 → (r : Record) × (s : Keyspace) × IsOldImage lines r s before
opened_old {lines} {before} reopens is =
    let r : Record = reopens.before in
    let layout : r.layout ≡ Version1 = sym (room_layout r) ∙ sym (ap (λ (q : Record). q.layout) reopens.current) ∙ is in
    let image_is = undamaged_image lines r before reopens.undamaged Version1 layout in (r, image_is.0, image_is.1)

-- while it is reopened
readable_stays : (lines : ℕ) (r : Record) (s : Keyspace) (before image : Image) → IsOldImage lines r s before → StaysReadable lines r before image
    → StaysOld lines r s image
readable_stays lines r s before image old stays =
    record {
      current = stays.current;
      goes_on = record { position = stays.position; epoch = stays.epoch; role = stays.role };
      is = record {
        layout = stays.layout ∙ old.layout;
        undamaged = stays.undamaged;
        map = IsMapOf-same (version_at r before) (version_at stays.current image) (entries_of_lines Version1 lines) s
            (λ i below. sym (stays.versions i (subst (λ (layout : Layout). i < entries_of_lines layout lines) (sym old.layout) below))) old.map;
      };
    }

pub readable_moments : (lines : ℕ) (r : Record) (s : Keyspace) (before : Image) (a b : State) → IsOldImage lines r s before
    → LeavesOnly a b (StaysReadable lines r before) → LeavesOnly a b (StaysOld lines r s)
readable_moments lines r s before a b old run = LeavesOnly-weaken (StaysOld lines r s) (λ image stays. readable_stays lines r s before image old stays) run

-- ---- what stays

-- a keyspace with the same values is the map of the same versions
alike_map : (versions : ℕ → Option Version) (entries : ℕ) (s t : Keyspace) → ((id : RecordId) → value_at s id ≡ value_at t id) → IsMapOf versions entries s
    → IsMapOf versions entries t
alike_map versions entries s t alike map =
    record {
      held = λ id value is. map.held id value (alike id ∙ is);
      found = λ i id value below live. sym (alike id) ∙ map.found i id value below live;
      once = map.once;
    }

module _ (lines : ℕ) (r : Record) (s : Keyspace) where
  vacated_stand : (a b : Contents) → StandFor lines r s a → Vacates a b → StandFor lines r s b
  vacated_stand a b stand vacates =
      let before = stand.goes_on in
      let are = stand.lawful in
      record {
        layout = vacates.layout ∙ stand.layout;
        line_count = vacates.line_count ∙ stand.line_count;
        goes_on = record {
          position = vacates.position ∙ before.position;
          epoch = vacates.epoch ∙ before.epoch;
          role = vacates.role ∙ before.role;
        };
        lawful = vacates.lawful are;
        map = alike_map b.versions (entries_of b) are.keyspace s (value_at-maps are.map stand.map) (vacates.map are.keyspace are.lawful are.map);
      }

  image_map : (a : Contents) (image : Image) → StandFor lines r s a → Keeps a image → IsMapOf (version_at a.current image) (entries_of_lines Version1 a.lines) s
  image_map a image stand keeps =
      subst (λ (layout : Layout). IsMapOf (version_at a.current image) (entries_of_lines layout a.lines) s) stand.layout
      (IsMapOf-same a.versions (version_at a.current image) (entries_of a) s (λ i below. sym (keeps.versions i below)) stand.map)

  old_image : (a : Contents) (image : Image) → StandFor lines r s a → Keeps a image → IsOldImage lines a.current s image
  old_image a image stand keeps =
      subst (λ (n : ℕ). IsOldImage n a.current s image) stand.line_count
      (record { layout = stand.layout; undamaged = lawful_undamaged a image stand.lawful keeps; map = image_map a image stand keeps })

  stays_old : (a : Contents) (image : Image) → StandFor lines r s a → Keeps a image → StaysOld lines r s image
  stays_old a image stand keeps = record { current = a.current; goes_on = stand.goes_on; is = old_image a image stand keeps }

  holds_old : (a : Contents) (image : Image) → StandFor lines r s a → HoldsBy Vacates a image → StaysOld lines r s image
  holds_old a image stand holds = stays_old holds.new image (vacated_stand a holds.new stand holds.stands) holds.keeps

  -- ---- where the last entries are empty

  module _ (a : Contents) (image : Image) (stand : StandFor lines r s a) (keeps : Keeps a image) where
    old_within : (i : ℕ) → i < entries_of_lines Version1 a.lines → i < entries_of a
    old_within i below = subst (λ (layout : Layout). i < entries_of_lines layout a.lines) (sym stand.layout) below

    uncounted : IsEmptied a → (i : ℕ) → entries_of_lines Version2 a.lines ≤ i → i < entries_of a → (b : Bool) → counts a.current (image (entry_word i 0)) ≡ b
        → counts a.current (image (entry_word i 0)) ≡ false
    uncounted emptied i low high false is = is
    uncounted emptied i low high true is =
        absurd (emptied i (version_in a.current image i) low
        (sym (keeps.versions i high) ∙ cond-true (counts a.current (image (entry_word i 0))) (Some (version_in a.current image i)) _ is))

    movable : a.current.gaps.items ≡ [] → IsEmptied a → IsMovable Version1 a.lines a.current s image
    movable gapless emptied =
        record {
          undamaged = subst (λ (q : Record). IsUndamaged a.lines q image) (sym (as_it_is a.current Version1 stand.layout))
              (lawful_undamaged a image stand.lawful keeps);
          map = image_map a image stand keeps;
          gapless = gapless;
          last = λ i low high. uncounted emptied i low (old_within i high) (counts a.current (image (entry_word i 0))) refl;
        }

    emptied_movable : a.current.gaps.items ≡ [] → IsEmptied a → IsMovable Version1 lines a.current s image
    emptied_movable gapless emptied = subst (λ (n : ℕ). IsMovable Version1 n a.current s image) stand.line_count (movable gapless emptied)

  -- ---- the device in the end

  module _ (a : Contents) (current : Record) (d : State) (stand : StandFor lines r s a) (vacated : IsVacated current d a) where
    end_stand : StandFor lines r s vacated.new
    end_stand = vacated_stand a vacated.new stand vacated.stands

    pub vacated_goes_on : GoesOnFrom r current
    vacated_goes_on = subst (GoesOnFrom r) vacated.held.current_is end_stand.goes_on

    pub vacated_movable : Leaves d (IsMovable Version1 lines current s)
    vacated_movable image is =
        let same = vacated.held.current_is in
        subst (λ (q : Record). IsMovable Version1 lines q s image) same
        (emptied_movable vacated.new image end_stand (vacated.held.durable image is)
        (subst (λ (q : Record). q.gaps.items ≡ []) (sym same) vacated.gapless) vacated.emptied)

  -- ---- where it stops

  pub stopped_old : (AreSuch : Contents → Type 0) (IsSuch : Record → Image → Type 0)
      → ((b : Contents) (image : Image) → b.current.layout ≡ Version1 → b.lines ≡ lines → IsConsistent b → Keeps b image → AreSuch b → IsSuch b.current image)
      → (a : Contents) (d : State) → StandFor lines r s a → StopsAt AreSuch d a → Leaves d (StaysOldWith IsSuch lines r s)
  stopped_old AreSuch IsSuch so a d stand stops image is =
      let keeps = stops.durable image is in
      let end = vacated_stand a stops.new stand stops.stands in
      record {
        current = stops.new.current;
        goes_on = end.goes_on;
        is = old_image stops.new image end keeps;
        such = so stops.new image end.layout end.line_count stops.consistent keeps stops.such;
      }

  -- ---- at each moment

  pub vacating_moments : (contents : Contents) (before : Image) (a b c : State) → IsOldImage lines r s before → StandFor lines r s contents
      → LeavesOnly a b (StaysReadable lines r before) → LeavesOnly b c (HoldsBy Vacates contents) → LeavesOnly a c (StaysOld lines r s)
  vacating_moments contents before a b c old stand first second =
      LeavesOnly-then (readable_moments lines r s before a b old first)
      (LeavesOnly-weaken (StaysOld lines r s) (λ image holds. holds_old contents image stand holds) second)

-- a version that is left counts in the image
pub left_counts : (lines : ℕ) (b : Contents) (image : Image) → b.current.layout ≡ Version1 → b.lines ≡ lines → IsConsistent b → Keeps b image → ¬ IsEmptied b
    → HasLastEntry lines b.current image
left_counts lines b image layout same consistent keeps left none =
    left (λ i version low is.
    elim (cases_lt i (entries_of b)) [
      | inl high ↦
          let entries : entries_of b ≡ entries_of_lines Version1 lines =
          ap (λ (l : Layout). entries_of_lines l b.lines) layout ∙ ap (entries_of_lines Version1) same in
          absurd (none_some (sym (version_at-none b.current image i (none i (subst (λ (n : ℕ). entries_of_lines Version2 n ≤ i) same low)
          (subst (λ (n : ℕ). i < n) entries high))) ∙ keeps.versions i high ∙ is))
      | inr past ↦ absurd (none_some (sym (consistent.beyond i past) ∙ is))
    ])

-- ---- what refuses a reopening

super_full : (size magic version count entries : Bool)
    → cond size (Some WrongSize) (cond (not magic) (Some BadMagic) (cond (not version) (Some BadVersion)
    (cond (not count) (Some WrongSize) (cond (not entries) (Some Damaged) None)))) ≡ Some Full
    → ⊥
super_full true magic version count entries is = cc
super_full false false version count entries is = cc
super_full false true false count entries is = cc
super_full false true true false entries is = cc
super_full false true true true false is = cc
super_full false true true true true is = cc

pub never_full : (lines : ℕ) (image : Image) (role : Role) → RefusesReopening Version1 lines image role Full → ⊥
never_full lines image role (inl (inl super)) =
    super_full (is_wrong_size lines) (image 0 == magic_number) (image 1 == layouts.version Version1) (image 2 == lines) (image 3 == directory_room lines) super
never_full lines image role (inl (inr (inl damaged))) = let is = damaged.0 in cc
never_full lines image role (inl (inr (inr memory))) = cc
never_full lines image role (inr (inl wrong)) = let is = wrong.0 in cc
never_full lines image role (inr (inr exhausted)) = let is = exhausted.0 in cc
