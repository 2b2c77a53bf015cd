-- What a sequencer is ahead of, and what it expects to come back, while versions that have ended are freed and gaps are cleared.
use mathlib.Core.Path.{fun_ext}
use Rattle.std.proofs.Common.{rules, ◌≡◌, ℕ, Bool, false, not, ◌||◌, ◌&&◌, IsTrue, List, [], ◌∷◌, ◌++◌, inl, None, Some, nat_eq, refl, sym, ap, subst, ◌∙◌}
use Rattle.std.proofs.lemmas.Bool.{both_ways, ne_eqb, or_from, or_left}
use Rattle.std.specs.List.{AllByRecursion}
use Rattle.kv_types.specs.declared.place.EntryNo.{EntryNo}
use Rattle.kv_types.specs.declared.place.Extent.{Extent}
use Rattle.pmem.specs.Device.{State}
use Rattle.pmem.specs.Crash.{image_of}
use Rattle.model.specs.declared.group.Group.{Group}
use Rattle.model.specs.declared.group.Part.{Part}
use Rattle.model.specs.declared.group.Put.{Put}
use Rattle.model.specs.Image.{Version}
use Rattle.model.specs.Group.{AreAllApart, AreEnded, Contents, IsConsistent, IsGroup, IsPlaced, IsUnused, Versions, after_free, after_group, entries_of, extents_of, is_listed, is_put_at, parts_versions, puts_of_group}
use Rattle.model.proofs.GroupsLemmas.{IsConsistent-after_group, parts_versions-none}
use Rattle.mv_keyspace.specs.Table.{IsTable}
use Rattle.placing.specs.Back.{ComesBack}
use Rattle.placing.specs.Left.{IsLeftOf}
use Rattle.placing.specs.Read.{LiesIn}
use Rattle.placing.proofs.FreedPlaces.{AreEnded-after_parts, comes-back-cleared, comes-back-freed, extents-after_parts}
use Rattle.placing.proofs.LeftLemmas.{AllGood, HasGood, good_parts, left-after_parts}
use Rattle.placing.proofs.TakenLemmas.{All-map}
use Rattle.placing.proofs.WithoutLemmas.{left-without, still_none, table-without}
use Rattle.wbl_engine.specs.Contents.{IsDurable}
use Rattle.wbl_engine.specs.Freeing.{Clears, record_after_clearing}
use Rattle.wbl_engine.specs.Lawful.{AreLawful}
use Rattle.wbl_engine.proofs.ApartLemmas.{AreVersionsApart, IsFresh, parts_apart}
use Rattle.wbl_engine.proofs.InsideLemmas.{inside-from_keeps}
use Rattle.wbl_engine.proofs.WithoutLemmas.{AllEnded, versions_without}
use Rattle.redis_core.specs.Sequencing.{Expects, IsAheadOf, Sequencing, contents_ahead, puts_of_parts}
use Rattle.wbl_engine.specs.CommittingAll.{AreGroups}
use Rattle.group_commit.specs.Group.{after_groups}
use Rattle.primary.specs.Leading.{AreLaid, LiesInside}
use Rattle.group_commit.proofs.FreedLemmas.{free_without, unused_without, AllEnded-listed, AllEnded-parts, AreEnded-after_group, AreParts-without, NonePut, NonePut-unused, parts-without}

-- ---- versions in the lines of the extents

laid_inside : (entries lines : ℕ) (versions : Versions) (parts : List Part) → AllGood (LiesInside lines) versions → AllByRecursion (IsPlaced entries lines) (puts_of_parts parts)
    → AllGood (LiesInside lines) (parts_versions versions parts)
laid_inside entries lines versions parts inside placed =
    good_parts (LiesInside lines) versions parts inside
    (All-map (IsPlaced entries lines) (HasGood (LiesInside lines)) (λ put is. record { above = is.above; within = is.within }) (puts_of_parts parts) placed)

laid_apart : (versions : Versions) (is_free : ℕ → Bool) (parts : List Part) → AreVersionsApart versions → AllByRecursion (IsUnused versions is_free) (puts_of_parts parts)
    → AreAllApart (puts_of_parts parts) → AreVersionsApart (parts_versions versions parts)
laid_apart versions is_free parts apart unused puts_are =
    parts_apart parts versions apart (All-map (IsUnused versions is_free) (IsFresh versions) (λ put is. is.lines) (puts_of_parts parts) unused) puts_are

pub laid-group : (contents : Contents) (group : Group) → AreLaid contents → IsGroup contents group → AreLaid (after_group contents group)
laid-group contents group laid is = record {
  inside = laid_inside (entries_of contents) contents.lines contents.versions group.parts.items laid.inside is.placed;
  apart = laid_apart contents.versions contents.is_free group.parts.items laid.apart is.unused is.apart;
}

pub laid-groups : (contents : Contents) (groups : List Group) → AreLaid contents → AreGroups contents groups → AreLaid (after_groups contents groups)
laid-groups contents [] laid are = laid
laid-groups contents (group ∷ groups) laid are = laid-groups (after_group contents group) groups (laid-group contents group laid are.0) are.1

laid-ahead : (s : Sequencing) (contents : Contents) → IsAheadOf s contents → AreLaid contents → AreLaid (contents_ahead contents s.waiting)
laid-ahead s contents stands laid = record {
  inside = laid_inside (entries_of contents) contents.lines contents.versions s.waiting laid.inside stands.placed;
  apart = laid_apart contents.versions contents.is_free s.waiting laid.apart stands.unused stands.apart;
}

-- those of a sound engine
module _ (device : State) (contents : Contents) (consistent : IsConsistent contents) (lawful : AreLawful contents) (durable : IsDurable device contents) where
  lies : (i : ℕ) (version : Version) → contents.versions i ≡ Some version → LiesInside contents.lines version.first_line version.lines
  lies i version is =
      let inside = inside-from_keeps contents (image_of device.words) consistent (durable (image_of device.words) (λ word. inl refl)) i version is in
      record { above = inside.above; within = inside.within }

  pub laid-engine : AreLaid contents
  laid-engine = record { inside = lies; apart = lawful.apart }

-- ---- what is free

-- no put is at an entry that is not free
not_put : (versions : Versions) (is_free : ℕ → Bool) (puts : List Put) (i : ℕ) → AllByRecursion (IsUnused versions is_free) puts → is_free i ≡ false → is_put_at i puts ≡ false
not_put versions is_free [] i unused taken = refl
not_put versions is_free (put ∷ puts) i unused taken =
    or_from (nat_eq i put.entry.0) (is_put_at i puts)
    (ne_eqb i put.entry.0 (λ same. both_ways (is_free put.entry.0) (ap is_free (sym same) ∙ taken) unused.0.entry))
    (not_put versions is_free puts i unused.1 taken)

-- ---- versions are freed

-- entries that have ended in contents that a sequencer is ahead of
module _ (s : Sequencing) (contents : Contents) (entries : List EntryNo) (consistent : IsConsistent contents) (stands : IsAheadOf s contents) (ended : AreEnded contents entries) where
  abbrev gone : ℕ → Bool
  gone i = is_listed i entries

  abbrev puts : List Put
  puts = puts_of_parts s.waiting

  all_ended : AllEnded gone contents.versions
  all_ended = AllEnded-listed contents entries ended

  none_put : NonePut gone puts
  none_put = NonePut-unused gone contents puts consistent all_ended stands.unused

  versions_are : parts_versions (after_free entries contents).versions s.waiting ≡ versions_without gone (parts_versions contents.versions s.waiting)
  versions_are = parts-without gone contents.versions s.waiting none_put

  -- the sequencer is as far ahead of what is left
  pub IsAheadOf-freed : IsAheadOf s (after_free entries contents)
  IsAheadOf-freed =
      search (
        rules,
        AreParts-without gone s.before contents.versions s.waiting all_ended none_put stands.parts,
        unused_without gone contents puts stands.unused,
        All-map (λ (put : Put). contents.versions put.entry.0 ≡ None) (λ (put : Put). (after_free entries contents).versions put.entry.0 ≡ None)
            (λ put is. still_none (gone put.entry.0) (contents.versions put.entry.0) is) puts stands.empty,
        left-without gone contents s.room stands.left,
        subst (λ versions. IsTable versions s.table) (sym versions_are)
            (table-without gone (parts_versions contents.versions s.waiting) s.table (AllEnded-parts gone contents.versions s.waiting all_ended none_put) stands.table),
      )

  abbrev ahead : Contents
  ahead = contents_ahead contents s.waiting

  -- what waits makes no difference to it
  ahead_freed : contents_ahead (after_free entries contents) s.waiting ≡ after_free entries ahead
  ahead_freed =
      let with_versions : Versions → Contents = λ others. record (contents_ahead (after_free entries contents) s.waiting) { versions = others } in
      let with_free : (ℕ → Bool) → Contents = λ free. record (after_free entries ahead) { is_free = free } in
      ap with_versions versions_are ∙ ap with_free (fun_ext (λ i. free_without (contents.is_free i) (gone i) (is_put_at i puts) (none_put i)))

  left_ahead : IsLeftOf ahead s.room
  left_ahead =
      let left = left-after_parts 0 contents s.room s.waiting stands.left stands.taken in
      record { entries = left.entries; lines = left.lines; apart = left.apart }

  lies_in : AreLaid contents → (i : ℕ) (version : Version) → ahead.versions i ≡ Some version → LiesIn contents.lines version
  lies_in laid i version begun =
      let inside = (laid-ahead s contents stands laid).inside i version begun in
      record { some = (left_ahead.apart i version begun).some; above = inside.above; within = inside.within }

  -- they come back to its heap, with their extents
  pub Expects-freed : AreLaid contents → (e : List EntryNo) (x : List Extent) → Expects s contents e x
      → Expects s (after_free entries contents) (e ++ entries) (x ++ extents_of contents.versions entries)
  Expects-freed laid e x expects =
      let ended_ahead = AreEnded-after_parts contents ahead s.waiting entries refl refl (λ i listed. refl) none_put ended in
      let back = comes-back-freed ahead (lies_in laid) (laid-ahead s contents stands laid).apart s.room e x entries
      (λ i free. (left_ahead.entries i free).2) (λ i version begun. left_ahead.apart i version begun) ended_ahead expects in
      subst (λ (x' : List Extent). Expects s (after_free entries contents) (e ++ entries) (x ++ x')) (extents-after_parts contents.versions s.waiting entries none_put)
      (subst (λ (after : Contents). ComesBack after s.room (e ++ entries) (x ++ extents_of ahead.versions entries)) (sym ahead_freed) back)

-- a group leaves the extents of versions that have ended as they are
pub extents-after_groups : (contents : Contents) (groups : List Group) (entries : List EntryNo) → IsConsistent contents → AreGroups contents groups → AreEnded contents entries
    → extents_of (after_groups contents groups).versions entries ≡ extents_of contents.versions entries
extents-after_groups contents [] entries consistent are ended = refl
extents-after_groups contents (group ∷ groups) entries consistent are ended =
    let none = NonePut-unused (λ i. is_listed i entries) contents (puts_of_group group) consistent (AllEnded-listed contents entries ended) are.0.unused in
    extents-after_groups (after_group contents group) groups entries (IsConsistent-after_group contents group consistent are.0) are.1
    (AreEnded-after_group contents group entries consistent are.0 ended)
    ∙ extents-after_parts contents.versions group.parts.items entries none

-- ---- a gap is cleared

-- the contents with one gap less
abbrev cleared_to : List EntryNo → Contents → Contents
cleared_to cleared contents = record contents { current = record_after_clearing contents.current; is_free = λ i. contents.is_free i || is_listed i cleared }

cleared_is : (old new : Contents) (cleared : List EntryNo) → Clears old cleared new → new ≡ cleared_to cleared old
cleared_is old new cleared clears =
    λ p. record { current = clears.current p; lines = clears.lines_are p; versions = λ i. clears.versions i p; is_free = λ i. clears.is_free i p }

module _ (s : Sequencing) (contents new : Contents) (cleared : List EntryNo) (stands : IsAheadOf s contents) (clears : Clears contents cleared new) where
  abbrev after : Contents
  after = cleared_to cleared contents

  left_cleared : IsLeftOf after s.room
  left_cleared = record {
    entries = λ i free.
        let was = stands.left.entries i free in
        (was.0, or_left (contents.is_free i) (is_listed i cleared) was.1, was.2);
    lines = stands.left.lines;
    apart = stands.left.apart;
  }

  ahead_cleared : IsAheadOf s after
  ahead_cleared =
      search (
        rules,
        left_cleared,
        All-map (IsUnused contents.versions contents.is_free) (IsUnused after.versions after.is_free)
            (λ put is. record { entry = or_left (contents.is_free put.entry.0) (is_listed put.entry.0 cleared) is.entry; lines = is.lines }) (puts_of_parts s.waiting) stands.unused,
      )

  -- the sequencer is as far ahead of the contents without the gap
  pub IsAheadOf-cleared : IsAheadOf s new
  IsAheadOf-cleared = subst (IsAheadOf s) (sym (cleared_is contents new cleared clears)) ahead_cleared

  beside_cleared : (i : ℕ) → IsTrue (is_listed i cleared) → is_put_at i (puts_of_parts s.waiting) ≡ false
  beside_cleared i listed = not_put contents.versions contents.is_free (puts_of_parts s.waiting) i stands.unused (clears.were_not_free i listed)

  expects_cleared : (e : List EntryNo) (x : List Extent) → Expects s contents e x → Expects s after (e ++ cleared) x
  expects_cleared e x expects =
      let left = left-after_parts 0 contents s.room s.waiting stands.left stands.taken in
      comes-back-cleared (contents_ahead contents s.waiting) (contents_ahead after s.waiting) s.room refl refl (λ i. refl) e cleared x
      (λ i. free_without (contents.is_free i) (is_listed i cleared) (is_put_at i (puts_of_parts s.waiting)) (beside_cleared i))
      (λ i listed. (
        clears.within i listed,
        ap (λ free. free && not (is_put_at i (puts_of_parts s.waiting))) (clears.were_not_free i listed),
        parts_versions-none contents.versions s.waiting i (clears.held_none i listed) (beside_cleared i listed),
      ))
      clears.once (λ i free. (left.entries i free).1) expects

  -- its entries come back to its heap
  pub Expects-cleared : (e : List EntryNo) (x : List Extent) → Expects s contents e x → Expects s new (e ++ cleared) x
  Expects-cleared e x expects = subst (λ (to : Contents). Expects s to (e ++ cleared) x) (sym (cleared_is contents new cleared clears)) (expects_cleared e x expects)
