-- What a heap has left is free in the contents, and stays so where a commit makes a part durable that was taken from it.
use Rattle.std.proofs.Common.{◌≡◌, ℕ, ◌+◌, ◌-◌, inl, inr, Bool, false, not, ◌&&◌, IsTrue, List, [], ◌∷◌, length, nat_eq, Option, Some, None, refl, ap, subst, ◌∙◌, arith}
use Rattle.std.proofs.lemmas.Bool.{cond_both}
use Rattle.std.specs.List.{flat_map, AllByRecursion}
use Rattle.model.specs.declared.group.Part.{Part}
use Rattle.model.specs.declared.group.Put.{Put}
use Rattle.model.specs.declared.group.PlacedChange.{PlacedChange}
use Rattle.model.specs.declared.image.TheConstants.{STAMP_WINDOW}
use Rattle.model.specs.Image.{Version}
use Rattle.model.specs.Group.{Contents, Versions, change_of, put_of, puts_of_part, with_puts, change_versions, changes_versions, part_versions, parts_versions, ended_where_begun, version_of_put, last_position, IsPlaced, IsUnused, AreApart, is_put_at, entries_of}
use Rattle.model.proofs.GroupsLemmas.{parts_versions-none}
use Rattle.extent_heap.specs.Room.{Room}
use Rattle.mv_keyspace.specs.Table.{puts_of}
use Rattle.placing.specs.Left.{HasNoFreeLine, IsTaken, IsLeftOf}
use Rattle.placing.proofs.PartsLemmas.{puts_alone}
use Rattle.placing.proofs.TakenLemmas.{All-map, All-prefix, All-rest, IsFree, IsWithin, lines_within, lines_apart, not_put_at}

-- ---- what is free of the heap is free in the contents

pub placed_of_free : (contents : Contents) (room : Room) (put : Put) → IsLeftOf contents room → IsFree room put → IsPlaced (entries_of contents) contents.lines put
placed_of_free contents room put left free =
    let first = left.lines put.extent.first_line (free.run put.extent.first_line (omega arith) (omega (arith, free.some))) in
    let end = put.extent.first_line + (put.extent.lines - 1) in
    let last = left.lines end (free.run end (omega arith) (omega (arith, free.some))) in
    record {
      entry = (left.entries put.entry.0 free.entry).0;
      above = first.0;
      within = omega (arith, free.some, last.1);
    }

pub swapped : (first lines first' lines' : ℕ) → AreApart first lines first' lines' → AreApart first' lines' first lines
swapped first lines first' lines' (inl h) = inr h
swapped first lines first' lines' (inr h) = inl h

pub unused_of_free : (contents : Contents) (room : Room) (put : Put) → IsLeftOf contents room → IsFree room put → IsUnused contents.versions contents.is_free put
unused_of_free contents room put left free = record {
  entry = (left.entries put.entry.0 free.entry).1;
  lines = λ i version begun.
      swapped version.first_line version.lines put.extent.first_line put.extent.lines
      (lines_apart room version.first_line version.lines put.extent.first_line put.extent.lines (left.apart i version begun) free.some free.run);
}

pub left_within : (contents : Contents) (small large : Room) → IsWithin small large → IsLeftOf contents large → IsLeftOf contents small
left_within contents small large within left = record {
  entries = λ i free. left.entries i (within.entries i free);
  lines = λ line free. left.lines line (within.lines line free);
  apart = λ i version begun. lines_within small large version.first_line version.lines within (left.apart i version begun);
}

-- ---- the lines of versions

module _ (Good : ℕ → ℕ → Type 0) where
  abbrev pub AllGood : Versions → Type 0
  AllGood versions = (i : ℕ) (version : Version) → versions i ≡ Some version → Good version.first_line version.lines

  abbrev pub HasGood : Put → Type 0
  HasGood put = Good put.extent.first_line put.extent.lines

  good_where_begun : (versions : Versions) (c : PlacedChange) → AllGood versions → (i : ℕ) (entry : Option Version) (version : Version) → versions i ≡ entry → ended_where_begun (change_of c) entry ≡ Some version
      → Good version.first_line version.lines
  good_where_begun versions c good i None version is begun = cc
  good_where_begun versions c good i (Some old) version is begun =
      let first : old.first_line ≡ version.first_line = cc in
      let lines : old.lines ≡ version.lines = cc in
      subst (Good version.first_line) lines (subst (λ n. Good n old.lines) first (good i old is))

  good_puts : (position : ℕ) (puts : List Put) (versions : Versions) → AllGood versions → AllByRecursion HasGood puts → AllGood (with_puts position puts versions)
  good_puts position [] versions good new i version begun = good i version begun
  good_puts position (put ∷ puts) versions good new i version begun =
      cond_both (nat_eq i put.entry.0) (Some (version_of_put position put)) (with_puts position puts versions i) (λ entry. entry ≡ Some version → Good version.first_line version.lines)
      (λ own e. own_put (version_of_put position put) e new.0) (λ other e. good_puts position puts versions good new.1 i version e) begun
    where
      own_put : (made : Version) → Some made ≡ Some version → Good made.first_line made.lines → Good version.first_line version.lines
      own_put made e is = let same : made ≡ version = cc in subst (λ (v : Version). Good v.first_line v.lines) same is

  good_change : (position : ℕ) (versions : Versions) (c : PlacedChange) → AllGood versions → AllByRecursion HasGood (put_of c) → AllGood (change_versions position versions c)
  good_change position versions c good new = good_puts position (put_of c) _ (λ j version begun. good_where_begun versions c good j (versions j) version refl begun) new

  -- if the lines of all versions and of all new puts are good, so are those of the versions after the changes
  pub good_changes : (position : ℕ) (versions : Versions) (changes : List PlacedChange) → AllGood versions → AllByRecursion HasGood (puts_of changes) → AllGood (changes_versions position versions changes)
  good_changes position versions [] good new = good
  good_changes position versions (c ∷ changes) good new =
      good_changes position (change_versions position versions c) changes (good_change position versions c good (All-prefix HasGood (put_of c) (puts_of changes) new)) (All-rest HasGood (put_of c) (puts_of changes) new)

  -- and so are those of the versions after parts
  pub good_parts : (versions : Versions) (parts : List Part) → AllGood versions → AllByRecursion HasGood (flat_map puts_of_part parts) → AllGood (parts_versions versions parts)
  good_parts versions [] good new = good
  good_parts versions (part ∷ parts) good new =
      good_parts (part_versions versions part) parts
      (good_changes part.position versions part.changes.items good (All-prefix HasGood (puts_of_part part) (flat_map puts_of_part parts) new)) (All-rest HasGood (puts_of_part part) (flat_map puts_of_part parts) new)

-- ---- the contents after parts

-- in this epoch
abbrev pub after_parts : ℕ → Contents → List Part → Contents
after_parts epoch contents parts =
    record {
      current = record {
        layout = contents.current.layout;
        number = contents.current.number + 1;
        position = last_position contents.current.position parts;
        cp = contents.current.cp + length parts;
        cd = contents.current.cp + length parts + 1 + STAMP_WINDOW;
        epoch = epoch;
        role = contents.current.role;
        gaps = contents.current.gaps;
        floor = contents.current.floor;
      };
      lines = contents.lines;
      versions = parts_versions contents.versions parts;
      is_free = λ i. contents.is_free i && not (is_put_at i (flat_map puts_of_part parts));
    }

pub still_free : (a b : Bool) → IsTrue a → b ≡ false → IsTrue (a && not b)
still_free a b free none = ap (λ x. x && not b) free ∙ ap not none

-- what the heap has left besides the parts is free after them
pub left-after_parts : (epoch : ℕ) (contents : Contents) (room : Room) (parts : List Part) → IsLeftOf contents room → AllByRecursion (IsTaken room) (flat_map puts_of_part parts) → IsLeftOf (after_parts epoch contents parts) room
left-after_parts epoch contents room parts left taken =
    let puts = flat_map puts_of_part parts in
    record {
      entries = λ i free.
          let before = left.entries i free in
          let none = not_put_at room puts i taken free in
          (before.0, still_free (contents.is_free i) (is_put_at i puts) before.1 none, parts_versions-none contents.versions parts i before.2 none);
      lines = left.lines;
      apart = good_parts (HasNoFreeLine room) contents.versions parts left.apart (All-map (IsTaken room) (HasGood (HasNoFreeLine room)) (λ put is. is.lines) puts taken);
    }

-- and so it is after one
pub left-after : (epoch : ℕ) (contents : Contents) (room : Room) (part : Part) → IsLeftOf contents room → AllByRecursion (IsTaken room) (puts_of_part part) → IsLeftOf (after_parts epoch contents (part ∷ [])) room
left-after epoch contents room part left taken = left-after_parts epoch contents room (part ∷ []) left (puts_alone (IsTaken room) part taken)
