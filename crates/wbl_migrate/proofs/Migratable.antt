-- What each step of a migration leaves can be migrated on.
use Rattle.std.proofs.Common.{◌≡◌, [], ◌⊎◌, None, ℕ, refl, inl, inr, sym, ap, subst, ◌∙◌, arith}
use Rattle.kv_types.specs.declared.refusal.Refusal.{Refusal}
use Rattle.kv_types.specs.declared.refusal.Refusal.TheVariants.{Damaged, Exhausted, Fault, Full, Memory, WrongRole}
use Rattle.kv_types.specs.Keyspace.{Keyspace}
use Rattle.pmem.specs.Device.{State, Only}
use Rattle.pmem.specs.Crash.{IsImage, image_of}
use Rattle.pmem.specs.Runs.{LeavesOnly}
use Rattle.pmem.proofs.Leaving.{LeavesOnly-then, LeavesOnly-weaken, none_leaves}
use Rattle.model.specs.declared.layout.Layout.{Layout}
use Rattle.model.specs.declared.layout.Layout.TheVariants.{Version1, Version2, Halfway}
use Rattle.model.specs.declared.record.Record.{Record}
use Rattle.model.specs.Layout.{version}
use Rattle.model.specs.Image.{HasSuperblock, Holds, Image, IsMapOf, entries_of_lines, version_at}
use Rattle.model.proofs.RecordLemmas.{HasRecord-unique}
use Rattle.heap_layout.specs.Superblock.{super_refusal}
use Rattle.wbl_record.specs.Current.{IsCurrent}
use Rattle.wbl_engine.specs.Lawful.{IsUndamaged}
use Rattle.wbl_engine.specs.Reopening.{RefusesReopening}
use Rattle.wbl_migrate.specs.Migrating.{GoesOnFrom, HasGapless, IsHalfwayImage, IsImageOf, IsMigratable, IsMigrated, IsOldImage, StaysMigratable, StaysOld}
use Rattle.wbl_migrate.specs.Stage.{IsMovable, KeepsMap, in_layout}
use Rattle.wbl_migrate.specs.Steps.{Leaves, IsHalfwayOrNew, renewed}
use Rattle.wbl_migrate.proofs.MovableLemmas.{as_it_is}
use Rattle.wbl_migrate.proofs.Picks.{none_some}

-- ---- the record

goes_nowhere : (r : Record) → GoesOnFrom r r
goes_nowhere r = record { position = refl; epoch = refl; role = refl }

-- the record of version 2 goes on from what the one before it went on from
goes_renewed : (r q : Record) → GoesOnFrom r q → GoesOnFrom r (renewed q)
goes_renewed r q goes = record { position = goes.position; epoch = goes.epoch; role = goes.role }

-- an image has one record
pub one_record : (lines : ℕ) (q r : Record) (image : Image) → IsCurrent lines image q → IsCurrent lines image r → q ≡ r
one_record lines q r image is was = HasRecord-unique lines image q r is.lawful.few is.version_is was.version_is is.has_record was.has_record

pub old_record : (lines : ℕ) (r q : Record) (s : Keyspace) (image : Image) → IsOldImage lines r s image → IsCurrent lines image q → q ≡ r
old_record lines r q s image old is = one_record lines q r image is old.undamaged.current

pub halfway_record : (lines : ℕ) (r q : Record) (s : Keyspace) (image : Image) → IsHalfwayImage lines r s image → HasGapless lines image q → q ≡ r
halfway_record lines r q s image halfway is = one_record lines q r image is.undamaged.current halfway.is.undamaged.current

-- ---- the map

-- what an image of a layout holds
image_holds : (layout : Layout) (lines : ℕ) (r : Record) (s : Keyspace) (image : Image) → IsImageOf layout lines r s image → Holds lines r s image
image_holds layout lines r s image is =
    record {
      superblock = is.undamaged.superblock;
      has_record = is.undamaged.current.has_record;
      map = subst (λ (l : Layout). IsMapOf (version_at r image) (entries_of_lines l lines) s) (sym is.layout) is.map;
    }

map_kept : (lines : ℕ) (r q : Record) (s : Keyspace) (image : Image) → GoesOnFrom r q → IsMigratable lines q s image → KeepsMap lines r.position s image
map_kept lines r q s image goes (inl old) =
    record { current = q; position_is = goes.position; holds = image_holds Version1 lines q s image old }
map_kept lines r q s image goes (inr (inl halfway)) =
    record { current = q; position_is = goes.position; holds = image_holds Halfway lines q s image halfway.is }
map_kept lines r q s image goes (inr (inr new)) =
    record { current = q; position_is = goes.position; holds = image_holds Version2 lines q s image new }

pub migratable_map : (lines : ℕ) (r : Record) (s : Keyspace) (image : Image) → StaysMigratable lines r s image → KeepsMap lines r.position s image
migratable_map lines r s image stays = map_kept lines r stays.current s image stays.goes_on stays.is

-- ---- a device that has crashed leaves what it holds

abbrev IsCertain : State → Type 0
IsCertain d = (word : ℕ) → Only (d.words word) (image_of d.words word)

pub certain_image : (d : State) (P : Image → Type 0) → IsCertain d → P (image_of d.words) → Leaves d P
certain_image d P certain holds image is =
    let same : image ≡ image_of d.words = λ i word. (certain word).only (image word) (is word) i in
    subst P (sym same) holds

-- where nothing is done
pub stays : (d : State) (lines : ℕ) (r : Record) (s : Keyspace) → IsCertain d → IsMigratable lines r s (image_of d.words)
    → LeavesOnly d d (StaysMigratable lines r s)
stays d lines r s certain is =
    none_leaves d (StaysMigratable lines r s)
    (certain_image d (StaysMigratable lines r s) certain (record { current = r; goes_on = goes_nowhere r; is = is }))

-- ---- from halfway on

-- an image that can be migrated on is one of its layout
movable_image : (layout : Layout) (lines : ℕ) (r : Record) (s : Keyspace) (image : Image) → IsMovable layout lines r s image
    → IsImageOf layout lines (in_layout layout r) s image
movable_image layout lines r s image movable = record { layout = refl; undamaged = movable.undamaged; map = movable.map }

-- and one that is halfway, without a gap, can be
halfway_can : (lines : ℕ) (r : Record) (s : Keyspace) (image : Image) → IsHalfwayImage lines r s image → IsMovable Halfway lines r s image
halfway_can lines r s image halfway =
    record {
      undamaged = subst (λ (q : Record). IsUndamaged lines q image) (sym (as_it_is r Halfway halfway.is.layout)) halfway.is.undamaged;
      map = halfway.is.map;
      gapless = halfway.gapless;
      last = λ i low high. absurd (omega (arith, low, high));
    }

later : (lines : ℕ) (r q : Record) (s : Keyspace) (image : Image) → GoesOnFrom r q → IsHalfwayOrNew lines q s image → StaysMigratable lines r s image
later lines r q s image goes (inl halfway) =
    record {
      current = in_layout Halfway q;
      goes_on = record { position = goes.position; epoch = goes.epoch; role = goes.role };
      is = inr (inl (record { is = movable_image Halfway lines q s image halfway; gapless = halfway.gapless }));
    }
later lines r q s image goes (inr new) =
    record { current = renewed q; goes_on = goes_renewed r q goes; is = inr (inr (movable_image Version2 lines (renewed q) s image new)) }

-- (its floor is the position of the record that it goes on from)
new_migrated : (d : State) (lines : ℕ) (r q : Record) (s : Keyspace) → ¬ (r.layout ≡ Version2) → GoesOnFrom r q
    → Leaves d (IsMovable Version2 lines (renewed q) s) → Leaves d (IsMigrated lines r s)
new_migrated d lines r q s older goes all image is =
    let new : IsMovable Version2 lines (renewed q) s image = all image is in
    record {
      current = renewed q;
      goes_on = goes_renewed r q goes;
      is = movable_image Version2 lines (renewed q) s image new;
      kept = λ same. absurd (older same);
      floor = λ other. goes.position;
    }

-- a record of another layout is not of version 2
not_new : (layout : Layout) (r : Record) → ¬ (layout ≡ Version2) → r.layout ≡ layout → ¬ (r.layout ≡ Version2)
not_new layout r differ is same = differ (sym is ∙ same)

-- an image that was halfway, whose record was read
halfway_movable : (d : State) (r q : Record) (s : Keyspace) → IsCertain d → HasGapless d.lines (image_of d.words) q
    → IsHalfwayImage d.lines r s (image_of d.words) → Leaves d (IsMovable Halfway d.lines q s)
halfway_movable d r q s certain current halfway =
    let same : q ≡ r = halfway_record d.lines r q s (image_of d.words) halfway current in
    subst (λ (x : Record). Leaves d (IsMovable Halfway d.lines x s)) (sym same)
    (certain_image d (IsMovable Halfway d.lines r s) certain (halfway_can d.lines r s (image_of d.words) halfway))

halfway_goes : (d : State) (r q : Record) (s : Keyspace) → HasGapless d.lines (image_of d.words) q → IsHalfwayImage d.lines r s (image_of d.words)
    → GoesOnFrom r q
halfway_goes d r q s current halfway =
    subst (GoesOnFrom r) (sym (halfway_record d.lines r q s (image_of d.words) halfway current)) (goes_nowhere r)

pub finished : (d e : State) (r q : Record) (s : Keyspace) → IsCertain d → HasGapless d.lines (image_of d.words) q
    → (Leaves d (IsMovable Halfway d.lines q s) → Leaves e (IsMovable Version2 d.lines (renewed q) s))
    → IsHalfwayImage d.lines r s (image_of d.words) → Leaves e (IsMigrated d.lines r s)
finished d e r q s certain current done halfway =
    new_migrated e d.lines r q s (not_new Halfway r (λ e. cc) halfway.is.layout) (halfway_goes d r q s current halfway)
    (done (halfway_movable d r q s certain current halfway))

pub finishing : (d e : State) (r q : Record) (s : Keyspace) → IsCertain d → HasGapless d.lines (image_of d.words) q
    → (Leaves d (IsMovable Halfway d.lines q s) → LeavesOnly d e (IsHalfwayOrNew d.lines q s))
    → IsHalfwayImage d.lines r s (image_of d.words) → LeavesOnly d e (StaysMigratable d.lines r s)
finishing d e r q s certain current moments halfway =
    LeavesOnly-weaken (StaysMigratable d.lines r s)
    (λ image is. later d.lines r q s image (halfway_goes d r q s current halfway) is)
    (moments (halfway_movable d r q s certain current halfway))

-- ---- from version 1 on

-- under a record of version 1 that goes on from it
old_stays : (lines : ℕ) (r : Record) (s : Keyspace) (image : Image) → StaysOld lines r s image → StaysMigratable lines r s image
old_stays lines r s image old = record { current = old.current; goes_on = old.goes_on; is = inl old.is }

pub vacating : (a b : State) (lines : ℕ) (r : Record) (s : Keyspace) → LeavesOnly a b (StaysOld lines r s) → LeavesOnly a b (StaysMigratable lines r s)
vacating a b lines r s moments = LeavesOnly-weaken (StaysMigratable lines r s) (old_stays lines r s) moments

-- after the entries were emptied the image was switched
pub upgraded : (a b c : State) (r q : Record) (s : Keyspace) → r.layout ≡ Version1 → b.lines ≡ a.lines → GoesOnFrom r q → Leaves b (IsMovable Version1 a.lines q s)
    → (Leaves b (IsMovable Version1 b.lines q s) → Leaves c (IsMovable Version2 b.lines (renewed q) s)) → Leaves c (IsMigrated a.lines r s)
upgraded a b c r q s is_old counted goes vacated done =
    subst (λ (n : ℕ). Leaves c (IsMigrated n r s)) counted
    (new_migrated c b.lines r q s (not_new Version1 r (λ e. cc) is_old) goes (done (subst (λ (n : ℕ). Leaves b (IsMovable Version1 n q s)) (sym counted) vacated)))

pub upgrading : (a b c : State) (r q : Record) (s : Keyspace) → b.lines ≡ a.lines → GoesOnFrom r q → Leaves b (IsMovable Version1 a.lines q s)
    → LeavesOnly a b (StaysOld a.lines r s)
    → (Leaves b (IsMovable Version1 b.lines q s) → LeavesOnly b c (λ image. IsImage b.words image ⊎ IsHalfwayOrNew b.lines q s image))
    → LeavesOnly a c (StaysMigratable a.lines r s)
upgrading a b c r q s counted goes vacated first second =
    let switched : LeavesOnly b c (λ image. IsImage b.words image ⊎ IsHalfwayOrNew b.lines q s image) =
    second (subst (λ (n : ℕ). Leaves b (IsMovable Version1 n q s)) (sym counted) vacated) in
    LeavesOnly-then (vacating a b a.lines r s first)
    (LeavesOnly-weaken (StaysMigratable a.lines r s)
    (λ image is.
    elim is [
      | inl before ↦ old_stays a.lines r s image (first.each image (inl before))
      | inr on ↦ subst (λ (n : ℕ). StaysMigratable n r s image) counted (later b.lines r q s image goes on)
    ])
    switched)

-- ---- refusals

-- what is told of a cause: a wrong role is told as damage
pub record IsTold (cause told : Refusal) : Type 0 where
  pub wrong : cause ≡ WrongRole → told ≡ Damaged
  pub other : (cause ≡ WrongRole) ⊎ (told ≡ cause)

told_as : {cause told : Refusal} (x : Refusal) → IsTold cause told → ¬ (x ≡ WrongRole) → cause ≡ x → told ≡ x
told_as x is differ same = elim is.other [ inl wrong ↦ absurd (differ (sym same ∙ wrong)) | inr told ↦ told ∙ same ]

module _ {lines : ℕ} {image : Image} {q : Record} {cause told : Refusal} {X : Type 0} {left device : X}
    (whole : super_refusal Version1 lines image ≡ None) (current : IsCurrent lines image q) (is : IsTold cause told)
    (refuses : (RefusesReopening Version1 lines image q.role cause × (left ≡ device))
    ⊎ ((cause ≡ Full) ⊎ ((cause ≡ Fault) ⊎ ((cause ≡ Exhausted) ⊎ (cause ≡ Memory))))) where
  -- another cause is not told as damage
  not_damaged : {A : Type 0} (x : Refusal) → ¬ (x ≡ WrongRole) → ¬ (x ≡ Damaged) → cause ≡ x → told ≡ Damaged → A
  not_damaged x no_role no_damage same damaged = absurd (no_damage (sym (told_as x is no_role same) ∙ damaged))

  abbrev IsDamaged : Type 0
  IsDamaged = (left ≡ device) × ((r : Record) (s : Keyspace) → ¬ IsOldImage lines r s image)

  pub told_damaged : told ≡ Damaged → IsDamaged
  told_damaged damaged =
      elim refuses [
        | inl (inl (inl super), stays) ↦ absurd (none_some (sym whole ∙ super))
        | inl (inl (inr (inl none)), stays) ↦ (stays, λ r s old. none.1 r old.undamaged)
        | inl (inl (inr (inr memory)), stays) ↦ not_damaged Memory (λ e. cc) (λ e. cc) memory damaged
        | inl (inr (inl role), stays) ↦
            (stays, λ r s old. role.1 r old.undamaged (ap (λ (x : Record). x.role) (sym (old_record lines r q s image old current))))
        | inl (inr (inr exhausted), stays) ↦ not_damaged Exhausted (λ e. cc) (λ e. cc) exhausted.0 damaged
        | inr (inl full) ↦ not_damaged Full (λ e. cc) (λ e. cc) full damaged
        | inr (inr (inl fault)) ↦ not_damaged Fault (λ e. cc) (λ e. cc) fault damaged
        | inr (inr (inr (inl exhausted))) ↦ not_damaged Exhausted (λ e. cc) (λ e. cc) exhausted damaged
        | inr (inr (inr (inr memory))) ↦ not_damaged Memory (λ e. cc) (λ e. cc) memory damaged
      ]

-- ---- the stage

-- an image that can be migrated on, and whose version is 2
pub only_new : (lines : ℕ) (r : Record) (s : Keyspace) (image : Image) → HasSuperblock Version2 lines image → IsMigratable lines r s image
    → IsMigrated lines r s image
only_new lines r s image has (inl old) =
    let a = has.version in let b = old.undamaged.superblock.version ∙ ap version old.layout in absurd (omega (arith, a, b))
only_new lines r s image has (inr (inl halfway)) =
    let a = has.version in let b = halfway.is.undamaged.superblock.version ∙ ap version halfway.is.layout in absurd (omega (arith, a, b))
only_new lines r s image has (inr (inr new)) =
    record { current = r; goes_on = goes_nowhere r; is = new; kept = λ same. refl; floor = λ older. absurd (older new.layout) }
