-- What versions still tell of earlier keyspaces once a group has committed: a part leaves what is recalled of a position below its own.
use Rattle.std.proofs.Common.{◌≡◌, ◌⊎◌, ℕ, ◌+◌, ◌<◌, ◌≤◌, ◌++◌, ◌||◌, inl, inr, Bool, true, false, cond, not, IsTrue, List, [], ◌∷◌, map, nat_eq, Option, None, Some, refl, sym, ap, subst, ◌∙◌, arith, append_assoc}
use Rattle.std.proofs.lemmas.Bool.{cases_lt, ne_eqb, or_left, or_parts}
use Rattle.std.specs.List.{AllByRecursion, flat_map}
use Rattle.kv_types.specs.declared.change.Change.{Change}
use Rattle.kv_types.specs.declared.record_id.RecordId.{RecordId}
use Rattle.kv_types.specs.Keyspace.{Keyspace, value_at}
use Rattle.model.specs.declared.group.Group.{Group}
use Rattle.model.specs.declared.group.Part.{Part}
use Rattle.model.specs.declared.group.PlacedChange.{PlacedChange}
use Rattle.model.specs.declared.group.PlacedChange.TheVariants as placed
use Rattle.model.specs.declared.group.Put.{Put}
use Rattle.model.specs.declared.work.FreeList.{FreeList}
use Rattle.model.specs.declared.work.Work.{Work}
use Rattle.model.specs.declared.work.Work.TheVariants as work
use Rattle.model.specs.Group.{AreAllApart, AreParts, Contents, IsConsistent, IsGroup, IsPlaced, IsUnused, NamesEnded, Versions, after_group, change_of, change_versions, changes_versions, ended_by, ended_where_begun, ends_record, is_ended_version, is_live_version, is_put_at, last_position, part_versions, parts_versions, put_of, puts_of_group, puts_of_part, version_of_put, entries_of}
use Rattle.model.specs.Image.{IsLive, IsMapOf, Version}
use Rattle.model.proofs.GroupsLemmas.{AreAllApart-prefix, AreAllApart-rest, IsMapOf-changes, changes_versions-none, is_put_at-append}
use Rattle.model.proofs.MapLemmas.{not_live}
use Rattle.model.proofs.VersionsLemmas.{HasRoom}
use Rattle.placing.proofs.MemberLemmas.{listed-from_member}
use Rattle.placing.proofs.TakenLemmas.{All-both, All-map, All-prefix, All-rest}
use Rattle.redis_core.specs.Sequencing.{Sequencing}
use Rattle.redis_core.proofs.BegunLemmas.{none_earlier}
use Rattle.redis_core.proofs.ListedLemmas.{IsEmptyIn, none_at_begun}
use Rattle.standby_stream.specs.Delta.{IsGone, Recalls}
use Rattle.group_commit.specs.Group.{groups_of, lists_of}
use Rattle.group_commit.proofs.WorkLemmas.{groups_of-lists, lists_of-lists}
use Rattle.primary.specs.Recalling.{HoldsEnded, IsHeld, IsRecalled, LeadAlong, Past, Remembers}

-- ---- where a version stays

-- the entry has this version now, which may have ended since
record IsSince (old : Version) (now : Option Version) : Type 0 where
  version : Version
  is : now ≡ Some version
  id : version.id ≡ old.id
  value : version.value ≡ old.value
  ended : IsTrue old.is_ended → IsTrue version.is_ended

since_ended : (change : Change) (old : Version) (now : Option Version) → IsSince old now → IsSince old (ended_where_begun change now)
since_ended change old now since = record {
  version = ended_by change since.version;
  is = ap (ended_where_begun change) since.is;
  id = since.id;
  value = since.value;
  ended = λ e. or_left since.version.is_ended (ends_record change since.version.id) (since.ended e);
}

since_change : (position : ℕ) (versions : Versions) (c : PlacedChange) (i : ℕ) (old : Version) → IsSince old (versions i) → is_put_at i (put_of c) ≡ false
    → IsSince old (change_versions position versions c i)
since_change position versions (placed.Put put) i old since beside =
    subst (λ here. IsSince old (cond here (Some (version_of_put position put)) (ended_where_begun (change_of (placed.Put put)) (versions i))))
    (sym (or_parts (nat_eq i put.entry.0) false beside).0) (since_ended (change_of (placed.Put put)) old (versions i) since)
since_change position versions (placed.Drop id) i old since beside = since_ended (change_of (placed.Drop id)) old (versions i) since
since_change position versions (placed.DropKey key) i old since beside = since_ended (change_of (placed.DropKey key)) old (versions i) since
since_change position versions placed.Clear i old since beside = since_ended (change_of placed.Clear) old (versions i) since

since_changes : (position : ℕ) (versions : Versions) (changes : List PlacedChange) (i : ℕ) (old : Version) → IsSince old (versions i) → is_put_at i (flat_map put_of changes) ≡ false
    → IsSince old (changes_versions position versions changes i)
since_changes position versions [] i old since beside = since
since_changes position versions (c ∷ changes) i old since beside =
    let apart = or_parts (is_put_at i (put_of c)) (is_put_at i (flat_map put_of changes)) (sym (is_put_at-append i (put_of c) (flat_map put_of changes)) ∙ beside) in
    since_changes position (change_versions position versions c) changes i old (since_change position versions c i old since apart.0) apart.1

-- ---- where a live version comes from

-- this version was live before, at the position that it has
record WasLive (before : Option Version) (now : Version) : Type 0 where
  version : Version
  begun : before ≡ Some version
  not_ended : version.is_ended ≡ false
  position : version.position ≡ now.position
  id : version.id ≡ now.id
  value : version.value ≡ now.value

was_ended : (change : Change) (before : Option Version) (now : Version) → ended_where_begun change before ≡ Some now → now.is_ended ≡ false → WasLive before now
was_ended change None now is live = cc
was_ended change (Some version) now is live =
    let same : ended_by change version ≡ now = cc in
    record {
      version = version;
      begun = refl;
      not_ended = (or_parts version.is_ended (ends_record change version.id) (ap (λ (v : Version). v.is_ended) same ∙ live)).0;
      position = ap (λ (v : Version). v.position) same;
      id = ap (λ (v : Version). v.id) same;
      value = ap (λ (v : Version). v.value) same;
    }

was_put : (here : Bool) (position : ℕ) (put : Put) (change : Change) (before : Option Version) (now : Version)
    → cond here (Some (version_of_put position put)) (ended_where_begun change before) ≡ Some now → now.is_ended ≡ false → (now.position ≡ position) ⊎ WasLive before now
was_put true position put change before now is live =
    let same : version_of_put position put ≡ now = cc in
    inl (sym (ap (λ (v : Version). v.position) same))
was_put false position put change before now is live = inr (was_ended change before now is live)

was_change : (position : ℕ) (versions : Versions) (c : PlacedChange) (i : ℕ) (now : Version) → change_versions position versions c i ≡ Some now → now.is_ended ≡ false
    → (now.position ≡ position) ⊎ WasLive (versions i) now
was_change position versions (placed.Put put) i now is live = was_put (nat_eq i put.entry.0) position put (change_of (placed.Put put)) (versions i) now is live
was_change position versions (placed.Drop id) i now is live = inr (was_ended (change_of (placed.Drop id)) (versions i) now is live)
was_change position versions (placed.DropKey key) i now is live = inr (was_ended (change_of (placed.DropKey key)) (versions i) now is live)
was_change position versions placed.Clear i now is live = inr (was_ended (change_of placed.Clear) (versions i) now is live)

-- it was made by one of the changes, at their position, or it was live before them
was_changes : (position : ℕ) (versions : Versions) (changes : List PlacedChange) (i : ℕ) (now : Version) → changes_versions position versions changes i ≡ Some now → now.is_ended ≡ false
    → (now.position ≡ position) ⊎ WasLive (versions i) now
was_changes position versions [] i now is live = inr (record { version = now; begun = is; not_ended = live; position = refl; id = refl; value = refl })
was_changes position versions (c ∷ changes) i now is live = by (was_changes position (change_versions position versions c) changes i now is live)
  where
    first : (was : WasLive (change_versions position versions c i) now) → (was.version.position ≡ position) ⊎ WasLive (versions i) was.version
        → (now.position ≡ position) ⊎ WasLive (versions i) now
    first was (inl made) = inl (sym was.position ∙ made)
    first was (inr earlier) =
        inr (record {
          version = earlier.version;
          begun = earlier.begun;
          not_ended = earlier.not_ended;
          position = earlier.position ∙ was.position;
          id = earlier.id ∙ was.id;
          value = earlier.value ∙ was.value;
        })

    by : (now.position ≡ position) ⊎ WasLive (change_versions position versions c i) now → (now.position ≡ position) ⊎ WasLive (versions i) now
    by (inl made) = inl made
    by (inr was) = first was (was_change position versions c i was.version was.begun was.not_ended)

-- ---- what versions recall

-- the keyspace that they map is recalled by the live ones alone
recalls-map : (versions : Versions) (Counts : ℕ → Type 0) (entries position : ℕ) (s : Keyspace) → IsMapOf versions entries s → ((i : ℕ) → entries ≤ i → versions i ≡ None)
    → Recalls versions Counts position s
recalls-map versions Counts entries position s map_is beyond = record {
  kept = λ id value found. let held = map_is.held id value found in inl (held.0, value, held.2);
  stayed = λ i id value live low. map_is.found i id value (within i id value live (cases_lt i entries)) live;
}
  where
    within : (i : ℕ) (id : RecordId) (value : List ℕ) → IsLive versions i id value → (i < entries) ⊎ (entries ≤ i) → i < entries
    within i id value live (inl lt) = lt
    within i id value live (inr le) = absurd (not_live (beyond i le) live)

-- where more count, no less is recalled
pub recalls-more : (versions : Versions) (Counts More : ℕ → Type 0) (position : ℕ) (s : Keyspace) → ((i : ℕ) → Counts i → More i)
    → Recalls versions Counts position s → Recalls versions More position s
recalls-more versions Counts More position s more recalls = record { kept = λ id value found. by id (recalls.kept id value found); stayed = recalls.stayed }
  where
    by : (id : RecordId) → ((i : ℕ) × (other : List ℕ) × IsLive versions i id other) ⊎ ((i : ℕ) × IsGone versions i id × Counts i)
        → ((i : ℕ) × (other : List ℕ) × IsLive versions i id other) ⊎ ((i : ℕ) × IsGone versions i id × More i)
    by id (inl live) = inl live
    by id (inr gone) = inr (gone.0, gone.1, more gone.0 gone.2)

-- ---- one part

-- a part leaves what is recalled of a position below its own: what it ends is named, and what is named is held
module _ (Held : ℕ → ℕ → Type 0) (versions : Versions) (part : Part) (empty : AllByRecursion (IsEmptyIn versions) (puts_of_part part)) (names : NamesEnded versions part) (holds : HoldsEnded Held part) (p : ℕ) (below : p < part.position) where
  abbrev Told : RecordId → Type 0
  Told id = ((i : ℕ) × (other : List ℕ) × IsLive (part_versions versions part) i id other) ⊎ ((i : ℕ) × IsGone (part_versions versions part) i id × Held p i)

  since_part : (i : ℕ) (version : Version) → versions i ≡ Some version → IsSince version (part_versions versions part i)
  since_part i version begun =
      since_changes part.position versions part.changes.items i version (record { version = version; is = begun; id = refl; value = refl; ended = λ e. e })
      (none_at_begun versions (puts_of_part part) i version empty begun)

  told_live : (i : ℕ) (id : RecordId) (other : List ℕ) (live : IsLive versions i id other) (now : IsSince live.version (part_versions versions part i)) (ended : Bool)
      → now.version.is_ended ≡ ended → Told id
  told_live i id other live now false is = inl (i, other, record { version = now.version; begun = now.is; not_ended = is; id_is = now.id ∙ live.id_is; value_is = now.value ∙ live.value_is })
  told_live i id other live now true is =
      let was : IsTrue (is_live_version (versions i)) = ap is_live_version live.begun ∙ ap not live.not_ended in
      let ended : IsTrue (is_ended_version (part_versions versions part i)) = ap is_ended_version now.is ∙ is in
      inr (
        i,
        record { version = now.version; begun = now.is; has_ended = is; id_is = now.id ∙ live.id_is },
        holds p i below (listed-from_member i part.ended.items ((names i).1 (or_left (is_live_version (versions i)) (is_put_at i (puts_of_part part)) was, ended))),
      )

  told_gone : (i : ℕ) (id : RecordId) → IsGone versions i id → Held p i → Told id
  told_gone i id gone held =
      let now = since_part i gone.version gone.begun in
      inr (i, record { version = now.version; begun = now.is; has_ended = now.ended gone.has_ended; id_is = now.id ∙ gone.id_is }, held)

  told : (id : RecordId) → ((i : ℕ) × (other : List ℕ) × IsLive versions i id other) ⊎ ((i : ℕ) × IsGone versions i id × Held p i) → Told id
  told id (inl live) =
      let now = since_part live.0 live.2.version live.2.begun in
      told_live live.0 id live.1 live.2 now now.version.is_ended refl
  told id (inr gone) = told_gone gone.0 id gone.1 gone.2

  recalls-part : (s : Keyspace) → Recalls versions (Held p) p s → Recalls (part_versions versions part) (Held p) p s
  recalls-part s recalls = record {
    kept = λ id value found. told id (recalls.kept id value found);
    stayed = λ i id value live low. earlier i id value live low (was_changes part.position versions part.changes.items i live.version live.begun live.not_ended);
  }
    where
      earlier : (i : ℕ) (id : RecordId) (value : List ℕ) (live : IsLive (part_versions versions part) i id value) → live.version.position ≤ p
          → (live.version.position ≡ part.position) ⊎ WasLive (versions i) live.version → value_at s id ≡ Some value
      earlier i id value live low (inl made) = absurd (omega (arith, made, low, below))
      earlier i id value live low (inr was) =
          recalls.stayed i id value (record { version = was.version; begun = was.begun; not_ended = was.not_ended; id_is = was.id ∙ live.id_is; value_is = was.value ∙ live.value_is })
          (omega (arith, was.position, low))

-- ---- part by part

-- no put is at an entry beyond the directory
none_beyond : (versions : Versions) (entries : ℕ) (puts : List Put) (i : ℕ) → AllByRecursion (HasRoom versions entries) puts → entries ≤ i → is_put_at i puts ≡ false
none_beyond versions entries [] i rooms le = refl
none_beyond versions entries (put ∷ puts) i rooms le =
    let within = rooms.0.within in
    ap (λ b. b || is_put_at i puts) (ne_eqb i put.entry.0 (λ e. too_low e within)) ∙ none_beyond versions entries puts i rooms.1 le
  where
    too_low : i ≡ put.entry.0 → put.entry.0 < entries → ⊥
    too_low e lt = omega (arith, e, lt, le)

-- The versions are the keyspace at this position, and recall each from position `low` on.
record IsReached (Held : ℕ → ℕ → Type 0) (past : Past) (low entries position : ℕ) (versions : Versions) : Type 0 where
  beyond : (i : ℕ) → entries ≤ i → versions i ≡ None
  map_is : IsMapOf versions entries (past position)
  recalls : (p : ℕ) → low ≤ p → p < position → Recalls versions (Held p) p (past p)

module _ (Held : ℕ → ℕ → Type 0) (past : Past) (low entries : ℕ) where
  abbrev Reached : ℕ → Versions → Type 0
  Reached = IsReached Held past low entries

  reached-part : (position : ℕ) (versions : Versions) (part : Part) (parts : List Part) → AllByRecursion (HasRoom versions entries) (puts_of_part part) → AreAllApart (puts_of_part part) → NamesEnded versions part
      → HoldsEnded Held part → LeadAlong past position (part ∷ parts) → Reached position versions → Reached (position + 1) (part_versions versions part)
  reached-part position versions part parts rooms apart names holds leads reached = record {
    beyond = λ i le. changes_versions-none part.position versions part.changes.items i (reached.beyond i le) (none_beyond versions entries (puts_of_part part) i rooms le);
    map_is = subst (IsMapOf (part_versions versions part) entries) leads.1 (IsMapOf-changes part.position versions entries (past position) part.changes.items rooms apart reached.map_is);
    recalls = λ p low_is below. recalls-part Held versions part empty names holds p (omega (arith, leads.0, below)) (past p) (before p low_is below (cases_lt p position));
  }
    where
      empty : AllByRecursion (IsEmptyIn versions) (puts_of_part part)
      empty = All-map (HasRoom versions entries) (IsEmptyIn versions) (λ put room. room.empty) (puts_of_part part) rooms

      before : (p : ℕ) → low ≤ p → p < position + 1 → (p < position) ⊎ (position ≤ p) → Recalls versions (Held p) p (past p)
      before p low_is below (inl earlier) = reached.recalls p low_is earlier
      before p low_is below (inr here) =
          let same : position ≡ p = omega (arith, below, here) in
          recalls-map versions (Held p) entries p (past p) (subst (λ n. IsMapOf versions entries (past n)) same reached.map_is) reached.beyond

  reached-parts : (position : ℕ) (versions : Versions) (parts : List Part) → AllByRecursion (HasRoom versions entries) (flat_map puts_of_part parts) → AreAllApart (flat_map puts_of_part parts)
      → AreParts position versions parts → AllByRecursion (HoldsEnded Held) parts → LeadAlong past position parts → Reached position versions
      → Reached (last_position position parts) (parts_versions versions parts)
  reached-parts position versions [] rooms apart are holds leads reached = reached
  reached-parts position versions (part ∷ parts) rooms apart are holds leads reached =
      let first = puts_of_part part in
      let others = flat_map puts_of_part parts in
      let after = part_versions versions part in
      let at : part.position ≡ position + 1 = leads.0 in
      reached-parts part.position after parts
      (All-both (HasRoom versions entries) (λ put. is_put_at put.entry.0 first ≡ false) (HasRoom after entries)
      (λ put room beside. record { within = room.within; empty = changes_versions-none part.position versions part.changes.items put.entry.0 room.empty beside })
      others (All-rest (HasRoom versions entries) first others rooms) (none_earlier first others apart))
      (AreAllApart-rest first others apart) are.2 holds.1 (subst (λ n. LeadAlong past n parts) (sym at) leads.2)
      (subst (λ n. Reached n after) (sym at)
      (reached-part position versions part parts (All-prefix (HasRoom versions entries) first others rooms) (AreAllApart-prefix first others apart) are.1 holds.0 leads reached))

-- ---- a commit

-- a group that waits behind free lists commits
module _ (low position : ℕ) (past : Past) (contents : Contents) (lists : List FreeList) (group : Group) (rest : List Work) (aside : List FreeList) (s : Sequencing) (at : contents.current.position ≡ position)
    (consistent : IsConsistent contents) (map_is : IsMapOf contents.versions (entries_of contents) (past position)) (lawful : IsGroup contents group)
    (remembers : Remembers low position past contents (map work.Free lists ++ work.Commit group ∷ rest) aside s) where
  abbrev behind : List Work
  behind = work.Commit group ∷ rest

  -- what is held stays so
  abbrev Kept : ℕ → ℕ → Type 0
  Kept = IsHeld (aside ++ lists_of (map work.Free lists ++ behind)) s.ended s.newest

  abbrev last : ℕ
  last = last_position group.before group.parts.items

  same : aside ++ lists_of (map work.Free lists ++ behind) ≡ (aside ++ lists) ++ lists_of rest
  same = ap (λ (xs : List FreeList). aside ++ xs) (lists_of-lists lists behind) ∙ sym (append_assoc aside lists (lists_of rest))

  groups : AllByRecursion (IsRecalled Kept past) (group ∷ groups_of rest)
  groups = subst (AllByRecursion (IsRecalled Kept past)) (groups_of-lists lists behind) remembers.groups

  rooms : AllByRecursion (HasRoom contents.versions (entries_of contents)) (puts_of_group group)
  rooms =
      All-both (IsPlaced (entries_of contents) contents.lines) (IsUnused contents.versions contents.is_free) (HasRoom contents.versions (entries_of contents))
      (λ put placed unused. record { within = placed.entry; empty = consistent.free put.entry.0 unused.entry }) (puts_of_group group) lawful.placed lawful.unused

  reached : IsReached Kept past low (entries_of contents) last (parts_versions contents.versions group.parts.items)
  reached =
      reached-parts Kept past low (entries_of contents) group.before contents.versions group.parts.items rooms lawful.apart lawful.parts groups.0.ended groups.0.parts
      (subst (λ n. IsReached Kept past low (entries_of contents) n contents.versions) (sym (lawful.before ∙ at))
      (record { beyond = consistent.beyond; map_is = map_is; recalls = remembers.earlier }))

  -- its versions are the keyspace where it ends
  pub map-committed : IsMapOf (after_group contents group).versions (entries_of contents) (past last)
  map-committed = reached.map_is

  -- and what was remembered is so after it
  pub remembers-committed : Remembers low last past (after_group contents group) rest (aside ++ lists) s
  remembers-committed = record {
    earlier = subst (λ (xs : List FreeList). (p : ℕ) → low ≤ p → p < last → Recalls (after_group contents group).versions (IsHeld xs s.ended s.newest p) p (past p)) same reached.recalls;
    groups = subst (λ xs. AllByRecursion (IsRecalled (IsHeld xs s.ended s.newest) past) (groups_of rest)) same groups.1;
  }
