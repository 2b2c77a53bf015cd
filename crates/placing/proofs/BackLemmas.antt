-- What comes back to a heap can be given back in parts, in any order, and the heap then has more that is free in the contents.
use Rattle.std.proofs.Common.{◌≡◌, ℕ, ◌+◌, ◌-◌, ◌<◌, ◌≤◌, ◌||◌, ◌&&◌, not, Bool, false, IsTrue, List, [], ◌∷◌, ◌++◌, length, nat_eq, None, refl, sym, ap, ap₂, subst, ◌∙◌, arith, eq-eqb, length-append}
use Rattle.std.proofs.lemmas.Bool.{false≢true, false_from_ne_true, or_left, or_right}
use Rattle.std.proofs.lemmas.List.{map-append}
use Rattle.std.proofs.lemmas.Map.Keys.{IsDistinct-head, IsDistinct-tail, IsDistinct-cons}
use Rattle.std.specs.List.{AllByRecursion, IsDistinct, flat_map}
use Rattle.kv_types.specs.declared.place.EntryNo.{EntryNo}
use Rattle.kv_types.specs.declared.place.Extent.{Extent}
use Rattle.extent_heap.specs.Extents.{is_line_of}
use Rattle.extent_heap.specs.Room.{Room, IsOutEntry, fresh_room, is_free_entry, is_free_line}
use Rattle.extent_heap.specs.Runs.{has_line}
use Rattle.extent_heap.proofs.RunsLemmas.{has_line-append, line_bounds, line_within}
use Rattle.model.specs.declared.group.Part.{Part}
use Rattle.model.specs.declared.group.Put.{Put}
use Rattle.model.specs.declared.group.PlacedChange.{PlacedChange}
use Rattle.model.specs.declared.layout.Layout.{Layout}
use Rattle.model.specs.Group.{AreApart, Contents, Versions, changes_versions, is_listed, is_put_at, parts_versions, puts_of_part, entries_of}
use Rattle.model.specs.Image.{entries_of_lines, first_extent_line}
use Rattle.model.proofs.DirectoryLemmas.{entries_same}
use Rattle.model.proofs.GroupsLemmas.{changes_versions-none, is_put_at-append}
use Rattle.mv_keyspace.specs.Row.{numbers_of}
use Rattle.mv_keyspace.specs.Table.{puts_of}
use Rattle.placing.specs.Back.{AreExtentsApart, CanGiveAll, ComesBack, GivesAll, HasOut, IsEntryBack, IsLineBack, IsTakenExtent, count_versions, has_version}
use Rattle.placing.specs.Left.{IsLeftOf}
use Rattle.placing.specs.Place.{TakesPlaces}
use Rattle.placing.specs.Rebuilt.{IsLineOfVersion}
use Rattle.placing.proofs.ClaimLemmas.{not_line_of}
use Rattle.placing.proofs.CountLemmas.{AreBelow, changes_counted, none_counted}
use Rattle.placing.proofs.LeftLemmas.{HasGood, after_parts, good_changes, still_free, swapped}
use Rattle.placing.proofs.MemberLemmas.{distinct_none, unlisted}
use Rattle.placing.proofs.PartsLemmas.{parts_versions-append, puts_of_parts-append}
use Rattle.placing.proofs.TakenLemmas.{All-map, All-prefix, All-rest, AreDistinct-from_apart, IsFree, IsWithin, not_free, not_put_at_free, places_apart, places_below, places_free, places_held, places_within}

-- ---- entries in a list

pub listed-append : (i : ℕ) (xs ys : List EntryNo) → is_listed i (xs ++ ys) ≡ (is_listed i xs || is_listed i ys)
listed-append i [] ys = refl
listed-append i (x ∷ xs) ys = grind (arith, listed-append i xs ys)

distinct_front : (ns ms : List ℕ) → IsDistinct nat_eq (ns ++ ms) → IsDistinct nat_eq ns
distinct_front [] ms once = distinct_none nat_eq
distinct_front (n ∷ ns) ms once =
    IsDistinct-cons nat_eq n ns (All-prefix (λ m. nat_eq n m ≡ false) ns ms (IsDistinct-head nat_eq n (ns ++ ms) once)) (distinct_front ns ms (IsDistinct-tail nat_eq n (ns ++ ms) once))

once_front : (xs ys : List EntryNo) → IsDistinct nat_eq (numbers_of (xs ++ ys)) → IsDistinct nat_eq (numbers_of xs)
once_front xs ys once = distinct_front (numbers_of xs) (numbers_of ys) (rw map-append at once)

once_back : (xs ys : List EntryNo) → IsDistinct nat_eq (numbers_of (xs ++ ys)) → IsDistinct nat_eq (numbers_of ys)
once_back [] ys once = once
once_back (x ∷ xs) ys once = once_back xs ys (IsDistinct-tail nat_eq x.0 (numbers_of (xs ++ ys)) once)

-- an entry of the second part is none of the first
listed_beside : (xs ys : List EntryNo) → IsDistinct nat_eq (numbers_of (xs ++ ys)) → (i : ℕ) → IsTrue (is_listed i ys) → is_listed i xs ≡ false
listed_beside [] ys once i listed = refl
listed_beside (x ∷ xs) ys once i listed =
    let apart = All-rest (λ m. nat_eq x.0 m ≡ false) (numbers_of xs) (numbers_of ys) (rw map-append at (IsDistinct-head nat_eq x.0 (numbers_of (xs ++ ys)) once)) in
    grind (arith, unlisted x.0 ys apart, listed_beside xs ys (IsDistinct-tail nat_eq x.0 (numbers_of (xs ++ ys)) once) i listed)

-- ---- extents in a list

apart_front : (xs ys : List Extent) → AreExtentsApart (xs ++ ys) → AreExtentsApart xs
apart_front [] ys apart = tt
apart_front (x ∷ xs) ys apart = (All-prefix (λ (other : Extent). AreApart x.first_line x.lines other.first_line other.lines) xs ys apart.0, apart_front xs ys apart.1)

apart_back : (xs ys : List Extent) → AreExtentsApart (xs ++ ys) → AreExtentsApart ys
apart_back [] ys apart = apart
apart_back (x ∷ xs) ys apart = apart_back xs ys apart.1

no_line : (extent : Extent) (ys : List Extent) (line : ℕ) → AllByRecursion (λ (other : Extent). AreApart extent.first_line extent.lines other.first_line other.lines) ys → IsTrue (is_line_of extent line)
    → has_line ys line ≡ false
no_line extent [] line apart is = refl
no_line extent (y ∷ ys) line apart is =
    let bounds = line_bounds extent line is in
    grind (arith, not_line_of y extent.first_line extent.lines line (swapped extent.first_line extent.lines y.first_line y.lines apart.0) bounds.0 bounds.1, no_line extent ys line apart.1 is)

-- a line of the second part is none of the first
line_beside : (xs ys : List Extent) → AreExtentsApart (xs ++ ys) → (line : ℕ) → IsTrue (has_line ys line) → has_line xs line ≡ false
line_beside [] ys apart line has = refl
line_beside (x ∷ xs) ys apart line has =
    grind (arith, no_line x ys line (All-rest (λ (other : Extent). AreApart x.first_line x.lines other.first_line other.lines) xs ys apart.0), line_beside xs ys apart.1 line has)

-- ---- what is out

out_entries : (room : Room) (xs : List EntryNo) → ((i : ℕ) → IsTrue (is_listed i xs) → (i < room.end_entry) × (is_free_entry room i ≡ false)) → AllByRecursion (IsOutEntry room) xs
out_entries room [] told = tt
out_entries room (x ∷ xs) told =
    let first = told x.0 (or_left (nat_eq x.0 x.0) (is_listed x.0 xs) (eq-eqb x.0 x.0 refl)) in
    (record { within = first.0; taken = first.1 }, out_entries room xs (λ i listed. told i (or_right (nat_eq i x.0) (is_listed i xs) listed)))

taken_extents : (room : Room) (xs : List Extent) → AllByRecursion (λ (extent : Extent). 0 < extent.lines) xs
    → ((line : ℕ) → IsTrue (has_line xs line) → (line < room.end_line) × (is_free_line room line ≡ false)) → AllByRecursion (IsTakenExtent room) xs
taken_extents room [] some told = tt
taken_extents room (x ∷ xs) some told =
    let here = λ (line : ℕ) (from : x.first_line ≤ line) (before : line < x.first_line + x.lines). told line (or_left (is_line_of x line) (has_line xs line) (line_within x line from before)) in
    let least = some.0 in
    let last = (here (x.first_line + (x.lines - 1)) (omega (arith, least)) (omega (arith, least))).0 in (
      record { some = least; within = omega (arith, least, last); taken = λ line from before. (here line from before).1 },
      taken_extents room xs some.1 (λ line has. told line (or_right (is_line_of x line) (has_line xs line) has)),
    )

-- ---- a part of what comes back

module _ (contents : Contents) (room : Room) (e e' : List EntryNo) (x x' : List Extent) (back : ComesBack contents room (e ++ e') (x ++ x')) where
  entry_first : (i : ℕ) → IsTrue (is_listed i e) → IsEntryBack contents room i
  entry_first i listed = back.entries_back i (listed-append i e e' ∙ or_left (is_listed i e) (is_listed i e') listed)

  entry_rest : (i : ℕ) → IsTrue (is_listed i e') → IsEntryBack contents room i
  entry_rest i listed = back.entries_back i (listed-append i e e' ∙ or_right (is_listed i e) (is_listed i e') listed)

  line_first : (line : ℕ) → IsTrue (has_line x line) → IsLineBack contents room line
  line_first line has = back.lines_back line (has_line-append x x' line ∙ or_left (has_line x line) (has_line x' line) has)

  line_rest : (line : ℕ) → IsTrue (has_line x' line) → IsLineBack contents room line
  line_rest line has = back.lines_back line (has_line-append x x' line ∙ or_right (has_line x line) (has_line x' line) has)

  pub can-give : CanGiveAll room e x
  can-give =
      record {
        once = once_front e e' back.once;
        entries_out = out_entries room e (λ i listed. (subst (λ n. i < n) (sym back.out.end_entry) (entry_first i listed).within, (entry_first i listed).out));
        apart = apart_front x x' back.apart;
        extents_out = taken_extents room x (All-prefix (λ (extent : Extent). 0 < extent.lines) x x' back.some)
            (λ line has. (subst (λ n. line < n) (sym back.out.end_line) (line_first line has).within, (line_first line has).out));
        held = omega (arith, back.out.held, length-append x x');
      }

  module _ (new : Room) (gives : GivesAll room e x new) where
    pub rest-comes-back : ComesBack contents new e' x'
    rest-comes-back =
        record {
          once = once_back e e' back.once;
          entries_back = λ i listed.
              let was = entry_rest i listed in
              record {
                within = was.within;
                is_free = was.is_free;
                none = was.none;
                out = gives.entries_given i ∙ ap₂ (λ (a b : Bool). a || b) was.out (listed_beside e e' back.once i listed);
              };
          apart = apart_back x x' back.apart;
          some = All-rest (λ (extent : Extent). 0 < extent.lines) x x' back.some;
          lines_back = λ line has.
              let was = line_rest line has in
              record {
                above = was.above;
                within = was.within;
                none = was.none;
                out = gives.lines_given line ∙ ap₂ (λ (a b : Bool). a || b) was.out (line_beside x x' back.apart line has);
              };
          out = record { end_line = gives.end_line ∙ back.out.end_line; end_entry = gives.end_entry ∙ back.out.end_entry; held = omega (arith, back.out.held, length-append x x', gives.held) };
        }

    was_entry : (i : ℕ) → IsTrue (is_listed i e) → (i < entries_of contents) × IsTrue (contents.is_free i) × (contents.versions i ≡ None)
    was_entry i listed = let was = entry_first i listed in (was.within, was.is_free, was.none)

    was_line : (line : ℕ) → IsTrue (has_line x line) → (first_extent_line contents.lines ≤ line) × (line < contents.lines)
    was_line line has = let was = line_first line has in (was.above, was.within)

    pub left-given : IsLeftOf contents room → IsLeftOf contents new
    left-given left = record {
      entries = λ i free. grind (arith, gives.entries_given i, left.entries i, was_entry i);
      lines = λ line free. grind (arith, gives.lines_given line, left.lines line, was_line line);
      apart = λ i version begun. record {
        some = (left.apart i version begun).some;
        none = λ line from before.
            gives.lines_given line
            ∙ ap₂ (λ (a b : Bool). a || b) ((left.apart i version begun).none line from before)
            (false_from_ne_true (has_line x line) (λ has. (line_first line has).none (record { i = i; version = version; begun = begun; from = from; before = before })));
      };
    }

-- ---- a new heap

-- of a heap without versions nothing is out
pub fresh-has_out : (contents : Contents) (layout : Layout) (lines : ℕ) → contents.current.layout ≡ layout → contents.lines ≡ lines → ((i : ℕ) → contents.versions i ≡ None)
    → HasOut contents (fresh_room (first_extent_line lines) lines (entries_of_lines layout lines)) 0
fresh-has_out contents layout lines layout_is is empty =
    record { end_line = sym is; end_entry = sym (ap₂ entries_of_lines layout_is is); held = omega (arith, none_counted contents.versions (entries_of contents) (λ i lt. ap has_version (empty i))) }

-- ---- places are taken in between

-- Contents and heap after changes that took their places from the heap: what comes back still does.
module _ (contents after : Contents) (position : ℕ) (changes : List PlacedChange) (room left : Room) (e : List EntryNo) (x : List Extent)
    (layout_is : after.current.layout ≡ contents.current.layout) (lines_are : after.lines ≡ contents.lines)
    (versions_are : after.versions ≡ changes_versions position contents.versions changes)
    (is_free_are : (i : ℕ) → after.is_free i ≡ (contents.is_free i && not (is_put_at i (puts_of changes))))
    (empty : (i : ℕ) → IsTrue (is_free_entry room i) → contents.versions i ≡ None)
    (takes : TakesPlaces room (puts_of changes) left) (back : ComesBack contents room e x) where
  abbrev puts : List Put
  puts = puts_of changes

  entries_are : entries_of after ≡ entries_of contents
  entries_are = entries_same contents after layout_is lines_are

  puts_free : AllByRecursion (IsFree room) puts
  puts_free = places_free room puts left takes

  within : IsWithin left room
  within = places_within room puts left takes

  entry_after : (i : ℕ) → IsEntryBack contents room i → IsEntryBack after left i
  entry_after i was =
      let none = not_put_at_free room puts i puts_free was.out in
      record {
        within = subst (λ n. i < n) (sym entries_are) was.within;
        is_free = is_free_are i ∙ still_free (contents.is_free i) (is_put_at i puts) was.is_free none;
        none = ap (λ (versions : Versions). versions i) versions_are ∙ changes_versions-none position contents.versions changes i was.none none;
        out = not_free (is_free_entry left i) (is_free_entry room i) (within.entries i) was.out;
      }

  -- no version has the line after the changes
  abbrev IsElsewhere : ℕ → ℕ → ℕ → Type 0
  IsElsewhere line first lines = first ≤ line → line < first + lines → ⊥

  none_after : (line : ℕ) → IsLineBack contents room line → ¬ IsLineOfVersion after.versions line
  none_after line was of =
      good_changes (IsElsewhere line) position contents.versions changes
      (λ i version begun from before. was.none (record { i = i; version = version; begun = begun; from = from; before = before }))
      (All-map (IsFree room) (HasGood (IsElsewhere line)) (λ put free from before. false≢true (sym was.out ∙ free.run line from before)) puts puts_free)
      of.i of.version (ap (λ (versions : Versions). versions of.i) (sym versions_are) ∙ of.begun) of.from of.before

  line_after : (line : ℕ) → IsLineBack contents room line → IsLineBack after left line
  line_after line was = record {
    above = subst (λ n. first_extent_line n ≤ line) (sym lines_are) was.above;
    within = subst (λ n. line < n) (sym lines_are) was.within;
    none = none_after line was;
    out = not_free (is_free_line left line) (is_free_line room line) (within.lines line) was.out;
  }

  out_after : HasOut after left (length x)
  out_after =
      let n = entries_of contents in
      let taken = places_held room puts left takes in
      let below = subst (λ m. AreBelow m puts) back.out.end_entry (places_below room puts left takes) in
      let none = All-map (IsFree room) (λ (put : Put). contents.versions put.entry.0 ≡ None) (λ put free. empty put.entry.0 free.entry) puts puts_free in
      let more = changes_counted position contents.versions changes n below none (AreDistinct-from_apart puts (places_apart room puts left takes)) in
      let count : count_versions after.versions (entries_of after) ≡ count_versions (changes_versions position contents.versions changes) n =
      ap₂ count_versions versions_are entries_are in
      record {
        end_line = taken.end_line ∙ back.out.end_line ∙ sym lines_are;
        end_entry = taken.end_entry ∙ back.out.end_entry ∙ sym entries_are;
        held = omega (arith, count, more, back.out.held, taken.held);
      }

  pub comes-back-after : ComesBack after left e x
  comes-back-after = record {
    once = back.once;
    entries_back = λ i listed. entry_after i (back.entries_back i listed);
    apart = back.apart;
    some = back.some;
    lines_back = λ line has. line_after line (back.lines_back line has);
    out = out_after;
  }

and_not_or : (a b c : Bool) → (a && not (b || c)) ≡ ((a && not b) && not c)
and_not_or a b c = grind arith

-- so it is where one more part waits
pub comes-back-part : (epoch epoch' : ℕ) (contents : Contents) (waiting : List Part) (part : Part) (room left : Room) (e : List EntryNo) (x : List Extent) → TakesPlaces room (puts_of_part part) left
    → ((i : ℕ) → IsTrue (is_free_entry room i) → parts_versions contents.versions waiting i ≡ None) → ComesBack (after_parts epoch contents waiting) room e x
    → ComesBack (after_parts epoch' contents (waiting ++ part ∷ [])) left e x
comes-back-part epoch epoch' contents waiting part room left e x takes empty back =
    comes-back-after (after_parts epoch contents waiting) (after_parts epoch' contents (waiting ++ part ∷ [])) part.position part.changes.items room left e x refl refl
    (parts_versions-append contents.versions waiting part)
    (λ i. rw (puts_of_parts-append waiting part, is_put_at-append i (flat_map puts_of_part waiting) (puts_of_part part)) (and_not_or (contents.is_free i) (is_put_at i (flat_map puts_of_part waiting)) (is_put_at i (puts_of_part part))))
    empty takes back
