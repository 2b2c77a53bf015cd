-- What a group does to the versions, their map and the contents of an engine.
use Rattle.std.proofs.Common.{◌≡◌, ℕ, ◌≤◌, false, ◌||◌, List, [], ◌∷◌, ◌++◌, map, None, refl, sym, ap, subst, ◌∙◌, arith, append-nil, ne_eqb}
use Rattle.std.proofs.lemmas.Bool.{or_parts, and_parts}
use Rattle.std.specs.List.{flat_map, AllByRecursion}
use Rattle.kv_types.specs.Keyspace.{Keyspace, play, play_all}
use Rattle.kv_types.proofs.PlayLemmas.{play_all-append}
use Rattle.model.specs.Image.{IsMapOf}
use Rattle.model.specs.declared.group.Group.{Group}
use Rattle.model.specs.declared.group.Part.{Part}
use Rattle.model.specs.declared.group.Put.{Put}
use Rattle.model.specs.declared.group.PlacedChange.{PlacedChange}
use Rattle.model.specs.Group.{change_of, put_of, changes_of_part, puts_of_part, changes_of_group, puts_of_group, Versions, change_versions, changes_versions, part_versions, parts_versions, is_put_at, IsPlaced, IsApartFrom, AreAllApart, IsUnused, Contents, IsGroup, IsConsistent, after_group, entries_of}
use Rattle.model.proofs.VersionsLemmas.{HasRoom, IsMapOf-change}

-- ---- facts of each element

All-both : {X : Type 0} (P Q R : X → Type 0) → ((x : X) → P x → Q x → R x) → (xs : List X) → AllByRecursion P xs → AllByRecursion Q xs → AllByRecursion R xs
All-both P Q R f [] h k = tt
All-both P Q R f (x ∷ xs) h k = (f x h.0 k.0, All-both P Q R f xs h.1 k.1)

All-prefix : {X : Type 0} (P : X → Type 0) (xs ys : List X) → AllByRecursion P (xs ++ ys) → AllByRecursion P xs
All-prefix P [] ys h = tt
All-prefix P (x ∷ xs) ys h = (h.0, All-prefix P xs ys h.1)

All-rest : {X : Type 0} (P : X → Type 0) (xs ys : List X) → AllByRecursion P (xs ++ ys) → AllByRecursion P ys
All-rest P [] ys h = h
All-rest P (x ∷ xs) ys h = All-rest P xs ys h.1

-- ---- puts that are apart

pub AreAllApart-prefix : (xs ys : List Put) → AreAllApart (xs ++ ys) → AreAllApart xs
AreAllApart-prefix [] ys h = tt
AreAllApart-prefix (x ∷ xs) ys h = (All-prefix (IsApartFrom x) xs ys h.0, AreAllApart-prefix xs ys h.1)

pub AreAllApart-rest : (xs ys : List Put) → AreAllApart (xs ++ ys) → AreAllApart ys
AreAllApart-rest [] ys h = h
AreAllApart-rest (x ∷ xs) ys h = AreAllApart-rest xs ys h.1

-- none of these puts is at the entry of that one
abbrev IsBeside : List Put → Put → Type 0
IsBeside puts put = is_put_at put.entry.0 puts ≡ false

beside_more : (x : Put) (xs : List Put) (put : Put) → IsApartFrom x put → IsBeside xs put → IsBeside (x ∷ xs) put
beside_more x xs put apart beside = ap (λ b. b || is_put_at put.entry.0 xs) (ne_eqb put.entry.0 x.entry.0 (λ e. apart.entries (sym e))) ∙ beside

-- none of the earlier puts is at the entry of a later one
AllBeside : (xs ys : List Put) → AreAllApart (xs ++ ys) → AllByRecursion (IsBeside xs) ys
AllBeside [] [] h = tt
AllBeside [] (y ∷ ys) h = (refl, AllBeside [] ys h.1)
AllBeside (x ∷ xs) ys h = All-both (IsApartFrom x) (IsBeside xs) (IsBeside (x ∷ xs)) (beside_more x xs) ys (All-rest (IsApartFrom x) xs ys h.0) (AllBeside xs ys h.1)

pub is_put_at-append : (i : ℕ) (xs ys : List Put) → is_put_at i (xs ++ ys) ≡ (is_put_at i xs || is_put_at i ys)
is_put_at-append i [] ys = refl
is_put_at-append i (x ∷ xs) ys = grind (arith, is_put_at-append i xs ys)

-- ---- puts that are placed

-- a directory with more entries has those of the puts
pub placed_in_more : (entries more lines : ℕ) (puts : List Put) → entries ≤ more → AllByRecursion (IsPlaced entries lines) puts → AllByRecursion (IsPlaced more lines) puts
placed_in_more entries more lines [] le placed = tt
placed_in_more entries more lines (put ∷ puts) le placed = (
  record { entry = omega (arith, placed.0.entry, le); above = placed.0.above; within = placed.0.within },
  placed_in_more entries more lines puts le placed.1,
)

-- ---- entries that hold nothing

-- an entry without a version gets one only from a put
pub change_versions-none : (position : ℕ) (versions : Versions) (placed_change : PlacedChange) (i : ℕ) → versions i ≡ None → is_put_at i (put_of placed_change) ≡ false → change_versions position versions placed_change i ≡ None
change_versions-none position versions c i none beside = grind arith

pub changes_versions-none : (position : ℕ) (versions : Versions) (changes : List PlacedChange) (i : ℕ) → versions i ≡ None → is_put_at i (flat_map put_of changes) ≡ false → changes_versions position versions changes i ≡ None
changes_versions-none position versions [] i none beside = none
changes_versions-none position versions (c ∷ changes) i none beside =
    let apart = or_parts _ _ (sym (is_put_at-append i (put_of c) (flat_map put_of changes)) ∙ beside) in
    changes_versions-none position (change_versions position versions c) changes i (change_versions-none position versions c i none apart.0) apart.1

pub parts_versions-none : (versions : Versions) (parts : List Part) (i : ℕ) → versions i ≡ None → is_put_at i (flat_map puts_of_part parts) ≡ false → parts_versions versions parts i ≡ None
parts_versions-none versions [] i none beside = none
parts_versions-none versions (part ∷ parts) i none beside =
    let apart = or_parts _ _ (sym (is_put_at-append i (puts_of_part part) (flat_map puts_of_part parts)) ∙ beside) in
    parts_versions-none (part_versions versions part) parts i (changes_versions-none part.position versions part.changes.items i none apart.0) apart.1

-- ---- the map

room_after : (entries position : ℕ) (versions : Versions) (changes : List PlacedChange) (put : Put) → HasRoom versions entries put → IsBeside (flat_map put_of changes) put → HasRoom (changes_versions position versions changes) entries put
room_after entries position versions changes put room beside = record { within = room.within; empty = changes_versions-none position versions changes put.entry.0 room.empty beside }

-- the map moves by changes, one after another, where no two puts share an entry
pub IsMapOf-changes : (position : ℕ) (versions : Versions) (entries : ℕ) (s : Keyspace) (changes : List PlacedChange) → AllByRecursion (HasRoom versions entries) (flat_map put_of changes) → AreAllApart (flat_map put_of changes)
    → IsMapOf versions entries s → IsMapOf (changes_versions position versions changes) entries (play_all s (map change_of changes))
IsMapOf-changes position versions entries s [] room apart map = map
IsMapOf-changes position versions entries s (c ∷ changes) room apart map =
    let first = put_of c in
    let others = flat_map put_of changes in
    let after = change_versions position versions c in
    let none_first : AllByRecursion (IsBeside (flat_map put_of (c ∷ []))) others = subst (λ puts. AllByRecursion (IsBeside puts) others) (sym (append-nil first)) (AllBeside first others apart) in
    IsMapOf-changes position after entries (play s (change_of c)) changes
    (All-both (HasRoom versions entries) (IsBeside (flat_map put_of (c ∷ []))) (HasRoom after entries) (room_after entries position versions (c ∷ [])) others (All-rest (HasRoom versions entries) first others room) none_first)
    (AreAllApart-rest first others apart)
    (IsMapOf-change position versions entries s c (All-prefix (HasRoom versions entries) first others room) map)

-- the map moves by parts
pub IsMapOf-parts : (versions : Versions) (entries : ℕ) (s : Keyspace) (parts : List Part) → AllByRecursion (HasRoom versions entries) (flat_map puts_of_part parts) → AreAllApart (flat_map puts_of_part parts)
    → IsMapOf versions entries s → IsMapOf (parts_versions versions parts) entries (play_all s (flat_map changes_of_part parts))
IsMapOf-parts versions entries s [] room apart map = map
IsMapOf-parts versions entries s (part ∷ parts) room apart map =
    let first = puts_of_part part in
    let others = flat_map puts_of_part parts in
    let after = part_versions versions part in
    subst (IsMapOf (parts_versions versions (part ∷ parts)) entries) (sym (play_all-append s (changes_of_part part) (flat_map changes_of_part parts)))
    (IsMapOf-parts after entries (play_all s (changes_of_part part)) parts
    (All-both (HasRoom versions entries) (IsBeside first) (HasRoom after entries) (room_after entries part.position versions part.changes.items) others (All-rest (HasRoom versions entries) first others room) (AllBeside first others apart))
    (AreAllApart-rest first others apart)
    (IsMapOf-changes part.position versions entries s part.changes.items (All-prefix (HasRoom versions entries) first others room) (AreAllApart-prefix first others apart) map))

-- ---- a group

rooms_of_group : (contents : Contents) (puts : List Put) → IsConsistent contents → AllByRecursion (IsPlaced (entries_of contents) contents.lines) puts → AllByRecursion (IsUnused contents.versions contents.is_free) puts → AllByRecursion (HasRoom contents.versions (entries_of contents)) puts
rooms_of_group contents puts consistent placed unused =
    All-both (IsPlaced (entries_of contents) contents.lines) (IsUnused contents.versions contents.is_free) (HasRoom contents.versions (entries_of contents))
    (λ put p u. record { within = p.entry; empty = consistent.free put.entry.0 u.entry }) puts placed unused

-- the map of the contents moves by the changes of the group
pub IsMapOf-after_group : (contents : Contents) (group : Group) (s : Keyspace) → IsConsistent contents → IsGroup contents group → IsMapOf contents.versions (entries_of contents) s
    → IsMapOf (after_group contents group).versions (entries_of contents) (play_all s (changes_of_group group))
IsMapOf-after_group contents group s consistent lawful map =
    IsMapOf-parts contents.versions (entries_of contents) s group.parts.items (rooms_of_group contents (puts_of_group group) consistent lawful.placed lawful.unused) lawful.apart map

-- no put of a group has an entry beyond the directory
not_beyond : (entries lines : ℕ) (puts : List Put) (i : ℕ) → AllByRecursion (IsPlaced entries lines) puts → entries ≤ i → is_put_at i puts ≡ false
not_beyond entries lines [] i placed le = refl
not_beyond entries lines (put ∷ puts) i placed le = let low = placed.0.entry in rw (ne_eqb i put.entry.0 (λ e. omega arith)) (not_beyond entries lines puts i placed.1 le)

pub IsConsistent-after_group : (contents : Contents) (group : Group) → IsConsistent contents → IsGroup contents group → IsConsistent (after_group contents group)
IsConsistent-after_group contents group consistent lawful = record {
  free = λ i is.
      let both = and_parts (contents.is_free i) _ is in
      let beside : is_put_at i (puts_of_group group) ≡ false = grind (arith, both.1) in
      parts_versions-none contents.versions group.parts.items i (consistent.free i both.0) beside;
  beyond = λ i le. parts_versions-none contents.versions group.parts.items i (consistent.beyond i le) (not_beyond (entries_of contents) contents.lines (puts_of_group group) i lawful.placed le);
}
