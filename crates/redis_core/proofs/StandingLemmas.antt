-- A sequencer stays ahead of the contents of an engine: where a part begins to wait, and where all leave as a group.
use Rattle.std.proofs.Common.{rules, ◌≡◌, ℕ, ◌+◌, ◌<◌, ◌≤◌, List, [], ◌∷◌, ◌++◌, length, Option, None, inl, sym, subst, ◌∙◌, arith}
use Rattle.std.specs.List.{AllByRecursion}
use Rattle.kv_types.specs.declared.change.Change.{Change}
use Rattle.kv_types.specs.declared.place.EntryNo.{EntryNo}
use Rattle.model.specs.declared.group.Group.{Group}
use Rattle.model.specs.declared.group.Part.{Part}
use Rattle.model.specs.declared.group.Put.{Put}
use Rattle.model.specs.declared.group.TheConstants.{MAX_PARTS}
use Rattle.model.specs.Group.{Contents, IsGroup, after_group, puts_of_part, parts_versions, AreParts, IsPlaced, IsUnused, AreAllApart, HasItsLines, entries_of}
use Rattle.model.proofs.GroupsLemmas.{parts_versions-none}
use Rattle.extent_heap.specs.Room.{Room}
use Rattle.mv_keyspace.specs.Table.{IsTable, AreEnded, place_all}
use Rattle.mv_keyspace.proofs.VersionTables.{AreEmpty}
use Rattle.mv_keyspace.proofs.PartTables.{AreDistinct, IsTable-changes, names-ended}
use Rattle.placing.specs.Left.{IsTaken, IsLeftOf}
use Rattle.placing.specs.Place.{TakesPlaces}
use Rattle.placing.proofs.TakenLemmas.{All-map, All-append, IsFree, taken_within, places_within, places_free, places_taken, places_fitting, places_apart, AreAllApart-append, not_put_at, AreDistinct-from_apart}
use Rattle.placing.proofs.LeftLemmas.{placed_of_free, unused_of_free, left_within, after_parts, left-after_parts}
use Rattle.placing.proofs.PartsLemmas.{parts_versions-append, last_position-append, AreParts-append, puts_of_parts-append}
use Rattle.multi_watch.specs.Sessions.{Sessions}
use Rattle.redis_core.specs.Copying.{CopyOf}
use Rattle.redis_core.specs.Sequencing.{MovesCopy, Sequencing, puts_of_parts, ended_by_parts, newest_end, NamesOnce, IsAheadOf, HandsOut}
use Rattle.redis_core.specs.Turn.{Moves}

-- the entries of new puts hold nothing, also after the parts that wait
empty_of_free : (contents : Contents) (room : Room) (waiting : List Part) (put : Put) → IsLeftOf contents room → AllByRecursion (IsTaken room) (puts_of_parts waiting) → IsFree room put
    → parts_versions contents.versions waiting put.entry.0 ≡ None
empty_of_free contents room waiting put left taken free =
    parts_versions-none contents.versions waiting put.entry.0 (left.entries put.entry.0 free.entry).2 (not_put_at room (puts_of_parts waiting) put.entry.0 taken free.entry)

-- ---- a part begins to wait

module _ (s : Sequencing) (contents : Contents) (stands : IsAheadOf s contents) (part : Part) (room : Room) (takes : TakesPlaces s.room (puts_of_part part) room) where
  new_free : AllByRecursion (IsFree s.room) (puts_of_part part)
  new_free = places_free s.room (puts_of_part part) room takes

  new_empty : AreEmpty (parts_versions contents.versions s.waiting) (puts_of_part part)
  new_empty = All-map (IsFree s.room) (λ put. parts_versions contents.versions s.waiting put.entry.0 ≡ None) (λ put. empty_of_free contents s.room s.waiting put stands.left stands.taken) (puts_of_part part) new_free

  new_distinct : AreDistinct (puts_of_part part)
  new_distinct = AreDistinct-from_apart (puts_of_part part) (places_apart s.room (puts_of_part part) room takes)

  pub IsAheadOf-part : (listed : List EntryNo) (newest : ℕ) (sessions : Sessions) (copy : Option CopyOf) → part.position ≡ s.position + 1 → AreEnded part.position s.table part.changes.items part.ended.items
      → IsAheadOf (record { table = place_all part.position s.table part.changes.items; room = room; position = part.position; epoch = s.epoch; before = s.before; waiting = s.waiting ++ part ∷ []; ended = listed; newest = newest; sessions = sessions; copy = copy }) contents
  IsAheadOf-part listed newest sessions copy next ended =
      let old = puts_of_parts s.waiting in
      let new = puts_of_part part in
      let puts = puts_of_parts-append s.waiting part in
      let within = places_within s.room new room takes in
      let All = λ (P : Put → Type 0) (h : AllByRecursion P old) (k : AllByRecursion P new). subst (AllByRecursion P) (sym puts) (All-append P old new h k) in
      record {
        epoch = stands.epoch;
        before = stands.before;
        last = last_position-append s.before s.waiting part;
        parts = AreParts-append s.before contents.versions s.waiting part stands.parts (omega (arith, stands.last, next))
            (names-ended (parts_versions contents.versions s.waiting) s.table part new_empty new_distinct stands.table ended);
        once = All-append NamesOnce s.waiting (part ∷ []) stands.once (ended.once, tt);
        placed = All (IsPlaced (entries_of contents) contents.lines) stands.placed (All-map (IsFree s.room) (IsPlaced (entries_of contents) contents.lines) (λ put. placed_of_free contents s.room put stands.left) new new_free);
        fitting = All HasItsLines stands.fitting (places_fitting s.room new room takes);
        unused = All (IsUnused contents.versions contents.is_free) stands.unused
            (All-map (IsFree s.room) (IsUnused contents.versions contents.is_free) (λ put. unused_of_free contents s.room put stands.left) new new_free);
        empty = All (λ put. contents.versions put.entry.0 ≡ None) stands.empty
            (All-map (IsFree s.room) (λ put. contents.versions put.entry.0 ≡ None) (λ put free. (stands.left.entries put.entry.0 free.entry).2) new new_free);
        apart = subst AreAllApart (sym puts) (AreAllApart-append s.room old new stands.apart (places_apart s.room new room takes) stands.taken new_free);
        taken = All (IsTaken room) (All-map (IsTaken s.room) (IsTaken room) (λ put. taken_within room s.room put within) old stands.taken) (places_taken s.room new room takes);
        left = left_within contents room s.room within stands.left;
        table = subst (λ versions. IsTable versions (place_all part.position s.table part.changes.items)) (sym (parts_versions-append contents.versions s.waiting part))
            (IsTable-changes part.position (parts_versions contents.versions s.waiting) s.table part.changes.items new_empty new_distinct stands.table);
      }

-- what sessions there are does not matter, nor what is listed or copied
pub IsAheadOf-others : (s : Sequencing) (listed : List EntryNo) (newest : ℕ) (sessions : Sessions) (copy : Option CopyOf) (contents : Contents) → IsAheadOf s contents
    → IsAheadOf (record s { ended = listed; newest = newest; sessions = sessions; copy = copy }) contents
IsAheadOf-others s listed newest sessions copy contents stands = search rules

-- nor what copy there is
pub IsAheadOf-copied : (old : Sequencing) (copy : Option CopyOf) (new : Sequencing) → MovesCopy old copy new → (contents : Contents) → IsAheadOf old contents → IsAheadOf new contents
IsAheadOf-copied old copy new moves contents stands = subst (λ s. IsAheadOf s contents) (sym moves) (IsAheadOf-others old old.ended old.newest old.sessions copy contents stands)

-- ---- all parts leave

-- what is handed out is what a commit requires, and the sequencer is ahead of the contents after the commit
pub IsAheadOf-group : (old : Sequencing) (group : Group) (new : Sequencing) → HandsOut old group new → (contents : Contents) → IsAheadOf old contents → IsGroup contents group × IsAheadOf new (after_group contents group)
IsAheadOf-group old group new hands contents stands =
    let parts = old.waiting in
    let listed = old.ended ++ ended_by_parts parts in
    let newest = newest_end old.newest parts in
    let is : (P : List Part → Type 0) → P parts → P group.parts.items = λ P h. subst P (sym hands.all) h in
    let group_is : IsGroup contents group = record {
      epoch = inl (hands.epoch ∙ stands.epoch);
      before = hands.before ∙ stands.before;
      some = is (λ items. 0 < length items) hands.some;
      few = is (λ items. length items ≤ MAX_PARTS) hands.few;
      parts = subst (λ first. AreParts first contents.versions group.parts.items) (sym hands.before) (is (AreParts old.before contents.versions) stands.parts);
      placed = is (λ items. AllByRecursion (IsPlaced (entries_of contents) contents.lines) (puts_of_parts items)) stands.placed;
      fitting = is (λ items. AllByRecursion HasItsLines (puts_of_parts items)) stands.fitting;
      unused = is (λ items. AllByRecursion (IsUnused contents.versions contents.is_free) (puts_of_parts items)) stands.unused;
      apart = is (λ items. AreAllApart (puts_of_parts items)) stands.apart;
    } in
    let later : IsAheadOf (record old { before = old.position; waiting = []; ended = listed; newest = newest }) (after_parts group.epoch contents parts) =
    search (rules, left-after_parts group.epoch contents old.room parts stands.left stands.taken) in
    (group_is, subst (λ s. IsAheadOf s (after_group contents group)) (sym hands.after) (is (λ items. IsAheadOf (record old { before = old.position; waiting = []; ended = listed; newest = newest }) (after_parts group.epoch contents items)) later))

-- whatever a call moved, the sequencer stays ahead of the contents
pub IsAheadOf-moves : (changes : List Change) (old new : Sequencing) → Moves changes old new → new.epoch ≡ old.epoch → new.before ≡ old.before → (contents : Contents) → IsAheadOf old contents → IsAheadOf new contents
IsAheadOf-moves [] old new moves epoch before contents stands =
    subst (λ s. IsAheadOf s contents)
    (λ i. record { table = sym moves.table i; room = sym moves.room i; position = sym moves.position i; epoch = sym epoch i; before = sym before i; waiting = sym moves.waiting i; ended = new.ended; newest = new.newest; sessions = new.sessions; copy = new.copy })
    (IsAheadOf-others old new.ended new.newest new.sessions new.copy contents stands)
IsAheadOf-moves (change ∷ changes) old new moves epoch before contents stands =
    let part = moves.0 in
    let adds = moves.1 in
    let performs = adds.performs in
    subst (λ s. IsAheadOf s contents)
    (λ i. record { table = sym performs.table_is i; room = new.room; position = sym adds.position i; epoch = sym epoch i; before = sym before i; waiting = sym adds.waiting i; ended = new.ended; newest = new.newest; sessions = new.sessions; copy = new.copy })
    (IsAheadOf-part old contents stands part new.room performs.places new.ended new.newest new.sessions new.copy performs.position_is performs.ended)
