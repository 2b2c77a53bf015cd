-- What a newcomer gathers stays a copy while parts go on with it, goes back to the heap where it is dropped, and is what a standby follows once it counts.
use Rattle.std.proofs.Common.{◌≡◌, ℕ, ◌+◌, ◌<◌, ◌≤◌, false, IsTrue, List, [], ◌∷◌, map, length, nat_eq, Option, Some, None, inl, inr, refl, sym, ap, subst, ◌∙◌, arith, eqb-true}
use Rattle.std.proofs.lemmas.Bool.{and_from, and_parts, cases_Bool, cond-false, cond-true, or_cases, true≢false}
use Rattle.std.proofs.lemmas.Option.{none-some}
use Rattle.std.specs.Prelude.{is_none}
use Rattle.std.specs.List.{AllByRecursion}
use Rattle.kv_types.specs.declared.record_id.RecordId.{RecordId}
use Rattle.extent_heap.specs.Room.{Room}
use Rattle.model.specs.declared.group.PlacedChange.{PlacedChange}
use Rattle.model.specs.declared.group.PlacedChange.TheVariants as placed
use Rattle.model.specs.declared.group.Put.{Put}
use Rattle.model.specs.Group.{Contents, IsPlaced, IsUnused, Versions, changes_versions, entries_of, is_ended_version, is_put_at, version_of_put, with_puts}
use Rattle.model.specs.Image.{Version, first_extent_line}
use Rattle.mv_keyspace.specs.Table.{IsTable, Table, puts_of}
use Rattle.mv_keyspace.proofs.PartTables.{AreDistinct, IsTable-changes, with_puts-other}
use Rattle.mv_keyspace.proofs.VersionTables.{AreEmpty}
use Rattle.placing.specs.Back.{HasOut}
use Rattle.placing.specs.Left.{HasNoFreeLine, IsLeftOf, IsTaken}
use Rattle.placing.specs.Read.{LiesIn}
use Rattle.placing.proofs.CountLemmas.{AreBelow, changes_counted}
use Rattle.placing.proofs.LeftLemmas.{HasGood, good_changes, placed_of_free, unused_of_free}
use Rattle.placing.proofs.TakenLemmas.{All-map, AreDistinct-from_apart, IsFree, lines_within, not_put_at}
use Rattle.wbl_engine.specs.Contents.{Same}
use Rattle.wbl_engine.specs.Copying.{AreRising, AreStageable, AreUpTo, IsCopy, after_copy, is_unstaged, last_record}
use Rattle.wbl_engine.proofs.CopyLaws.{copy_consistent, more_copy}
use Rattle.wbl_engine.proofs.RisingLemmas.{rising_distinct, rising_fresh, rising_up_to}
use Rattle.standby.specs.declared.copies.Half.{Half}
use Rattle.standby.specs.Copies.{Rise, last_of, last_told}
use Rattle.standby.specs.Following.{Follows}
use Rattle.standby.specs.Gathering.{AreOfHalf, Gathers, IsAt, PlacesPuts}
use Rattle.standby.proofs.CopiesLemmas.{last_placed, puts_back, rising}
use Rattle.standby.proofs.EndedLemmas.{Same-is}
use Rattle.standby.proofs.PlacesTaken.{AreTaken, AreTaken-places}
use Rattle.standby.proofs.PutsAlone.{puts_alone}

-- ---- the half copy

-- what is staged is up to the last record
pub up_to_last : (half : Option Half) (staged : Versions) → AreOfHalf half staged → AreUpTo (last_of half) staged
up_to_last None staged none = λ i version is. absurd (none-some version (sym (none i) ∙ is))
up_to_last (Some half) staged of_half = of_half.2

-- and made at its position
pub made_at_half : (half : Option Half) (staged : Versions) (position : ℕ) → AreOfHalf half staged → IsAt half position
    → (i : ℕ) (version : Version) → staged i ≡ Some version → version.position ≡ position
made_at_half None staged position none at = λ i version is. absurd (none-some version (sym (none i) ∙ is))
made_at_half (Some half) staged position of_half at = λ i version is. of_half.1 i version is ∙ sym at

none_live : (held : Option Version) → ((version : Version) → held ≡ Some version → version.is_ended ≡ false) → IsTrue (is_ended_version held) → ⊥
none_live None live ended = true≢false (sym ended)
none_live (Some version) live ended = true≢false (sym ended ∙ live version refl)

-- what holds of the entry of each put
of_entries : (P : ℕ → Type 0) (puts : List Put) → AllByRecursion (λ (put : Put). P put.entry.0) puts → (i : ℕ) → IsTrue (is_put_at i puts) → P i
of_entries P [] all i at = absurd (true≢false (sym at))
of_entries P (put ∷ puts) all i at =
    elim (or_cases (nat_eq i put.entry.0) (is_put_at i puts) at) [
      | inl here ↦ subst P (sym (eqb-true i put.entry.0 here)) all.0
      | inr later ↦ of_entries P puts all.1 i later
    ]

-- a version is a put's, or was there
at_position : (position : ℕ) (puts : List Put) (versions : Versions) → ((i : ℕ) (version : Version) → versions i ≡ Some version → version.position ≡ position)
    → (i : ℕ) (version : Version) → with_puts position puts versions i ≡ Some version → version.position ≡ position
at_position position [] versions before i version is = before i version is
at_position position (put ∷ puts) versions before i version is =
    elim (cases_Bool (nat_eq i put.entry.0)) [
      | inl here ↦
          let both : Some version ≡ Some (version_of_put position put) =
          sym is ∙ cond-true (nat_eq i put.entry.0) (Some (version_of_put position put)) (with_puts position puts versions i) here in
          let same : version ≡ version_of_put position put = cc in
          ap (λ (v : Version). v.position) same
      | inr other ↦
          at_position position puts versions before i version
          (sym (cond-false (nat_eq i put.entry.0) (Some (version_of_put position put)) (with_puts position puts versions i) other) ∙ is)
    ]

-- the lines lie in the extents of an image
abbrev LinesIn : ℕ → ℕ → ℕ → Type 0
LinesIn end first lines = (0 < lines) × (first_extent_line end ≤ first) × (first + lines ≤ end)

-- ---- a part goes on with it

module _ (contents : Contents) (staged : Versions) (table : Table) (room : Room) (half : Option Half) (gathers : Gathers contents staged table room half)
    (position : ℕ) (at : IsAt half position) (told : List (RecordId × List ℕ)) (rise : Rise (last_of half) told)
    (puts : List Put) (after : Table) (left : Room) (places : PlacesPuts table room position told puts after left) where
  abbrev counted : Contents
  counted = after_copy contents staged 0

  takes : AreTaken room puts left
  takes = AreTaken-places room puts left places.places

  rises : AreRising (last_of half) puts
  rises = rising (last_of half) puts (subst (Rise (last_of half)) (sym places.these) rise)

  up_to : AreUpTo (last_of half) staged
  up_to = up_to_last half staged gathers.of_half

  placed_all : AllByRecursion (IsPlaced (entries_of contents) contents.lines) puts
  placed_all = All-map (IsFree room) (IsPlaced (entries_of contents) contents.lines) (λ put. placed_of_free counted room put gathers.follows.left) puts takes.free

  -- the engine stages it
  pub stageable : AreStageable contents staged puts
  stageable = record {
    newcomer = gathers.newcomer;
    empty = gathers.empty;
    placed = placed_all;
    fitting = takes.fitting;
    unused = All-map (IsFree room) (IsUnused staged (is_unstaged contents staged)) (λ put. unused_of_free counted room put gathers.follows.left) puts takes.free;
    apart = takes.apart;
    fresh = rising_fresh (last_of half) staged puts up_to rises;
    distinct = rising_distinct (last_of half) puts rises;
  }

  module _ (contents' : Contents) (same : Same contents contents') (staged' : Versions) (made : (i : ℕ) → staged' i ≡ with_puts position puts staged i)
      (parts : ℕ) (some : 0 < parts) where
    copy' : IsCopy (entries_of contents) staged'
    copy' = more_copy position gathers.copy stageable staged' made

    abbrev changes : List PlacedChange
    changes = map placed.Put puts

    versions_are : staged' ≡ changes_versions position staged changes
    versions_are = λ p i. (made i ∙ sym (puts_alone position staged puts stageable.fresh stageable.distinct takes.apart i)) p

    -- what holds of the puts holds of the changes
    of_changes : (P : List Put → Type 0) → P puts → P (puts_of changes)
    of_changes P holds = subst P (sym (puts_back puts)) holds

    empty : AreEmpty staged puts
    empty = All-map (IsFree room) (λ put. staged put.entry.0 ≡ None) (λ put is. (gathers.follows.left.entries put.entry.0 is.entry).2) puts takes.free

    distinct : AreDistinct puts
    distinct = AreDistinct-from_apart puts takes.apart

    -- what holds of the lines of all that was staged and of the puts holds of all that is staged now
    lines_of : (Good : ℕ → ℕ → Type 0) → ((i : ℕ) (version : Version) → staged i ≡ Some version → Good version.first_line version.lines) → AllByRecursion (HasGood Good) puts
        → (i : ℕ) (version : Version) → staged' i ≡ Some version → Good version.first_line version.lines
    lines_of Good before new i version is =
        good_changes Good position staged changes before (of_changes (AllByRecursion (HasGood Good)) new) i version (sym (ap (λ (vs : Versions). vs i) versions_are) ∙ is)

    unput : (i : ℕ) → is_put_at i puts ≡ false → staged' i ≡ staged i
    unput i none = made i ∙ with_puts-other position puts staged i none

    is_free' : (i : ℕ) (version : Version) → staged' i ≡ Some version → IsTrue (contents.is_free i)
    is_free' i version is =
        elim (cases_Bool (is_put_at i puts)) [
          | inl put ↦
              of_entries (λ j. IsTrue (contents.is_free j)) puts
              (All-map (IsFree room) (λ (p : Put). IsTrue (contents.is_free p.entry.0))
              (λ p free. (and_parts (contents.is_free p.entry.0) (is_none (staged p.entry.0)) (gathers.follows.left.entries p.entry.0 free.entry).1).0) puts takes.free) i put
          | inr none ↦ gathers.is_free i version (sym (unput i none) ∙ is)
        ]

    left' : IsLeftOf (after_copy contents staged' 0) left
    left' = record {
      entries = λ i free.
          let before = gathers.follows.left.entries i (takes.within.entries i free) in
          let still : staged' i ≡ None = unput i (not_put_at left puts i takes.taken free) ∙ before.2 in
          (before.0, and_from (contents.is_free i) (is_none (staged' i)) (and_parts (contents.is_free i) (is_none (staged i)) before.1).0 (ap is_none still), still);
      lines = λ line free. gathers.follows.left.lines line (takes.within.lines line free);
      apart = lines_of (HasNoFreeLine left) (λ i v is. lines_within left room v.first_line v.lines takes.within (gathers.follows.left.apart i v is))
          (All-map (IsTaken left) (HasGood (HasNoFreeLine left)) (λ put is. is.lines) puts takes.taken);
    }

    out' : HasOut (after_copy contents staged' 0) left 0
    out' =
        let n = entries_of contents in
        let below : AreBelow n puts = subst (λ m. AreBelow m puts) gathers.follows.out.end_entry takes.below in
        let more = changes_counted position staged changes n (of_changes (AreBelow n) below) (of_changes (AreEmpty staged) empty) (of_changes AreDistinct distinct) in
        let count = ap length (puts_back puts) in
        let held = takes.held in
        subst (λ (vs : Versions). HasOut (after_copy contents vs 0) left 0) (sym versions_are) (record {
          end_line = held.end_line ∙ gathers.follows.out.end_line;
          end_entry = held.end_entry ∙ gathers.follows.out.end_entry;
          held = omega (arith, more, count, held.held, gathers.follows.out.held);
        })

    table' : IsTable staged' after
    table' =
        subst (λ (vs : Versions). IsTable vs after) (sym versions_are)
        (subst (IsTable (changes_versions position staged changes)) (sym places.after_is)
        (IsTable-changes position staged table changes (of_changes (AreEmpty staged) empty) (of_changes AreDistinct distinct) gathers.follows.table_is))

    follows' : Follows (after_copy contents staged' 0) after left []
    follows' = record {
      consistent = copy_consistent contents staged' 0 copy';
      left = left';
      table_is = table';
      apart = copy'.apart;
      out = out';
      listed = tt;
      all = λ i is. absurd (none_live (staged' i) (copy'.live i) is);
    }

    placed' : (i : ℕ) (version : Version) → staged' i ≡ Some version → LiesIn contents.lines version
    placed' i version is =
        let lies = lines_of (LinesIn contents.lines)
        (λ j v was. let lay = gathers.placed j v was in (lay.some, lay.above, lay.within))
        (All-map (IsFree room) (HasGood (LinesIn contents.lines))
        (λ put free. let lay = placed_of_free counted room put gathers.follows.left free in (free.some, lay.above, lay.within)) puts takes.free) i version is in
        record { some = lies.0; above = lies.1; within = lies.2 }

    last_is : last_record (last_of half) puts ≡ last_told (last_of half) told
    last_is = last_placed (last_of half) puts ∙ ap (last_told (last_of half)) places.these

    -- the newcomer has it then
    pub Gathers-more : Gathers contents' staged' after left (Some (record { position = position; parts = parts; last = last_told (last_of half) told }))
    Gathers-more =
        subst (λ (k : Contents). Gathers k staged' after left (Some (record { position = position; parts = parts; last = last_told (last_of half) told }))) (sym (Same-is contents contents' same)) (record {
          newcomer = gathers.newcomer;
          empty = gathers.empty;
          of_half = (
            some,
            λ i version is. at_position position puts staged (made_at_half half staged position gathers.of_half at) i version (sym (made i) ∙ is),
            subst (λ (last : Option RecordId). AreUpTo last staged') last_is (rising_up_to (last_of half) staged staged' puts position up_to rises made),
          );
          copy = copy';
          is_free = is_free';
          placed = placed';
          follows = follows';
        })
