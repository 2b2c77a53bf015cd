-- One version after another that has ended leaves the entries that are not kept.
use Rattle.std.proofs.Common.{◌≡◌, ◌≢◌, ◌⊎◌, ◌+◌, ◌<◌, ◌≤◌, ◌||◌, ◌&&◌, inl, inr, ℕ, Bool, not, nat_eq, List, length, set, Some, refl, sym, ap, ◌∙◌, arith, eq-eqb, ne_eqb}
use Rattle.std.specs.List.{slice_get}
use Rattle.std.proofs.Math.Bool.{and-true, or-false}
use Rattle.std.proofs.lemmas.Bool.{cases_eq, cond-false, cond-true, or_right}
use Rattle.std.proofs.lemmas.Option.{slice_get_within}
use Rattle.kv_types.specs.declared.place.EntryNo.{EntryNo}
use Rattle.pmem.specs.Device.{State}
use Rattle.pmem.specs.Runs.{LeavesOnly}
use Rattle.pmem.proofs.Leaving.{LeavesOnly-then, LeavesOnly-weaken, none_leaves}
use Rattle.heap_layout.specs.declared.entry.Entry.{Entry}
use Rattle.model.specs.declared.record.Record.{Record}
use Rattle.model.specs.Group.{Contents, IsConsistent}
use Rattle.model.specs.Image.{Image}
use Rattle.model.proofs.DirectoryLemmas.{in-directory}
use Rattle.wbl_engine.specs.Contents.{IsDurable}
use Rattle.wbl_migrate.specs.declared.moving.Place.{Place}
use Rattle.wbl_migrate.specs.Ended.{IsMovable, IsMoving, KeepsMoving, after_move, with_copy}
use Rattle.wbl_migrate.specs.Leaving.{AreLeaving, HasLeft, HasNoneLeft, HasOneLeft, IsHeld, MovesEnded}
use Rattle.wbl_migrate.specs.Moving.{HoldsBy, IsOpen, entries_kept, place_read, version_read}
use Rattle.wbl_migrate.proofs.EndedLawful.{copied_consistent, copied_lawful, moved_consistent, moved_lawful}
use Rattle.wbl_migrate.proofs.EndedMaps.{apart, copied_at, copied_map, copied_other, moved_map}
use Rattle.wbl_migrate.proofs.Picks.{none_some, picked}
use Rattle.wbl_migrate.proofs.PlaceLemmas.{HasGone, HasPlaces, gone_due, gone_free, gone_lie, gone_rest, kept_within, open_apart, open_free, open_none}

-- ---- the same map

pub ended_same : (a : Contents) → MovesEnded a a
ended_same a =
    record {
      current = refl;
      line_count = refl;
      map = λ s. (λ map. map, λ map. map);
      lawful = λ lawful. lawful;
    }

pub ended_then : {a b c : Contents} → MovesEnded a b → MovesEnded b c → MovesEnded a c
ended_then first second =
    record {
      current = second.current ∙ first.current;
      line_count = second.line_count ∙ first.line_count;
      map = λ s. (λ map. (second.map s).0 ((first.map s).0 map), λ map. (first.map s).1 ((second.map s).1 map));
      lawful = λ lawful. second.lawful (first.lawful lawful);
    }

holds_then : {a b : Contents} → MovesEnded a b → IsConsistent b → (image : Image) → HoldsBy MovesEnded b image → HoldsBy MovesEnded a image
holds_then first consistent image second =
    record {
      new = second.new;
      stands = ended_then first second.stands;
      consistent = λ _. second.consistent consistent;
      keeps = second.keeps;
    }

-- nothing is stored
pub none_stored : {current' : Record} {d : State} {a : Contents} → IsHeld current' d a → LeavesOnly d d (HoldsBy MovesEnded a)
none_stored {current'} {d} {a} held =
    none_leaves d (HoldsBy MovesEnded a)
    (λ image is. record { new = a; stands = ended_same a; consistent = λ consistent. consistent; keeps = held.durable image is })

-- ---- one step after another

module _ {current' : Record} {d e : State} {a : Contents} {counted : List (EntryNo × Entry)} {gapped cleared : List EntryNo} {places : List Place} {index : ℕ}
    (so_far : HasLeft current' d a counted gapped cleared places index) where
  pub left_then : {places' : List Place} {index' : ℕ} → HasLeft current' e so_far.new counted gapped cleared places' index'
      → HasLeft current' e a counted gapped cleared places' index'
  left_then next = record { new = next.new; stands = ended_then so_far.stands next.stands; held = next.held; leaving = next.leaving }

  pub one_left_then : HasOneLeft current' e so_far.new → HasOneLeft current' e a
  one_left_then next = record { new = next.new; stands = ended_then so_far.stands next.stands; held = next.held; left = next.left }

  pub moments_then : {c : State} → LeavesOnly c d (HoldsBy MovesEnded a) → LeavesOnly d e (HoldsBy MovesEnded so_far.new)
      → LeavesOnly c e (HoldsBy MovesEnded a)
  moments_then first second =
      LeavesOnly-then first (LeavesOnly-weaken (HoldsBy MovesEnded a) (holds_then so_far.stands so_far.held.consistent) second)

-- behind the last
pub none_left : {current' : Record} {d : State} {a : Contents} {counted : List (EntryNo × Entry)} {gapped cleared : List EntryNo} {places : List Place}
    {index : ℕ}
    → HasLeft current' d a counted gapped cleared places index → length counted ≤ index → HasNoneLeft current' d a
none_left {counted} so_far all =
    record {
      new = so_far.new;
      stands = so_far.stands;
      held = so_far.held;
      emptied = λ i version beyond is.
          let was = so_far.leaving.due i version beyond is in
          let low = was.2 in
          let within = slice_get_within counted was.0 was.1 was.3 in
          omega (arith, all, low, within);
    }

-- before the first
pub none_moved : {current' : Record} {d : State} {a : Contents} {counted : List (EntryNo × Entry)} {gapped cleared : List EntryNo} {places : List Place}
    {index : ℕ}
    → IsHeld current' d a → AreLeaving a counted gapped cleared places index → HasLeft current' d a counted gapped cleared places index
none_moved {a} held leaving = record { new = a; stands = ended_same a; held = held; leaving = leaving }

-- ---- one version

module _ {current' : Record} {d : State} {a : Contents} {counted : List (EntryNo × Entry)} {gapped cleared : List EntryNo} {places : List Place} {index : ℕ}
    (held : IsHeld current' d a) (leaving : AreLeaving a counted gapped cleared places index) {read : EntryNo × Entry}
    (at : slice_get counted index ≡ Some read) where
  -- it stays
  pub skipped : (read.0.0 < entries_kept a.lines) ⊎ (read.1.end ≡ 0) → AreLeaving a counted gapped cleared places (index + 1)
  skipped stays =
      record {
        lie = leaving.lie;
        rest = λ k other low there has_ended. leaving.rest k other (omega (arith, low)) there has_ended;
        due = λ i version beyond is.
            let was = leaving.due i version beyond is in
            let low = was.2 in
            elim (cases_eq was.0 index) [
              | inl same ↦
                  let one : read ≡ was.1 = picked (sym at ∙ ap (slice_get counted) (sym same) ∙ was.3) in
                  absurd (elim stays [
                    | inl kept ↦ let number : read.0.0 ≡ i = ap (λ (r : EntryNo × Entry). r.0.0) one ∙ was.4 in omega (arith, kept, beyond, number)
                    | inr live ↦ was.5 (sym (ap (λ (r : EntryNo × Entry). r.1.end) one) ∙ live)
                  ])
              | inr other ↦ (was.0, was.1, omega (arith, low, other), was.3, was.4, was.5)
            ];
        once = leaving.once;
        free = leaving.free;
      }

  -- there is no place for it
  pub one_left : entries_kept a.lines ≤ read.0.0 → read.1.end ≢ 0 → HasOneLeft current' d a
  one_left beyond ended =
      record {
        new = a;
        stands = ended_same a;
        held = held;
        left = λ emptied. emptied read.0.0 (version_read read.1) beyond (leaving.rest index read (omega arith) at ended).1;
      }

-- The version that was read at this index has ended, and the place can take it.
pub record MayGo (current' : Record) (d : State) (a : Contents) (counted : List (EntryNo × Entry)) (gapped cleared : List EntryNo) (places : List Place)
    (index : ℕ) (read : EntryNo × Entry) (place : Place) : Type 0 where
  pub held : IsHeld current' d a
  pub leaving : AreLeaving a counted gapped cleared places index
  pub at : slice_get counted index ≡ Some read
  pub ended : read.1.end ≢ 0
  pub opens : IsOpen a.lines places gapped cleared place
  pub size : place.extent.lines ≡ read.1.extent.lines

module _ {current' : Record} {d : State} {a : Contents} {counted : List (EntryNo × Entry)} {gapped cleared : List EntryNo} {places : List Place} {index : ℕ}
    {read : EntryNo × Entry} {place : Place} (may : MayGo current' d a counted gapped cleared places index read place) where
  has_places : HasPlaces a gapped cleared places
  has_places = record { lie = may.leaving.lie; free = may.leaving.free }

  here : slice_get places index ≡ Some (place_read read)
  here = (may.leaving.rest index read (omega arith) may.at may.ended).0

  begun : a.versions read.0.0 ≡ Some (version_read read.1)
  begun = (may.leaving.rest index read (omega arith) may.at may.ended).1

  pub place_within : index < length places
  place_within = slice_get_within places index (place_read read) here

  movable : IsMovable a read.0.0 place.entry.0 place.extent.first_line (version_read read.1)
  movable =
      record {
        from_within = in-directory a may.held.consistent read.0.0 (λ none. none_some (sym none ∙ begun));
        held = begun;
        ended = ap not (ne_eqb read.1.end 0 may.ended);
        placed = record {
          entry = kept_within a.current.layout a.lines place.entry.0 may.opens.entry;
          above = may.opens.above;
          within = omega (arith, may.opens.within, may.size);
        };
        unused = record {
          entry = open_free has_places may.opens;
          lines = λ i version is.
              elim (open_apart has_places may.opens i version is) [
                | inl below ↦ inl (omega (arith, below, may.size))
                | inr above ↦ inr above
              ];
        };
        empty = open_none has_places may.opens;
      }

  pub moving : IsMoving current' d a read.0.0 place.entry.0 place.extent.first_line (version_read read.1)
  moving = record { current_is = may.held.current_is; lines_are = may.held.lines_are; durable = may.held.durable; movable = movable }

  abbrev both : Contents
  both = with_copy read.0.0 place.entry.0 place.extent.first_line a

  abbrev moved : Contents
  moved = after_move read.0.0 place.entry.0 place.extent.first_line a

  stands_both : MovesEnded a both
  stands_both = record { current = refl; line_count = refl; map = copied_map movable; lawful = copied_lawful movable }

  stands_moved : MovesEnded a moved
  stands_moved = record { current = refl; line_count = refl; map = moved_map movable; lawful = moved_lawful movable }

  holds_moving : (image : Image) → KeepsMoving read.0.0 place.entry.0 place.extent.first_line a image → HoldsBy MovesEnded a image
  holds_moving image (inl keeps) = record { new = a; stands = ended_same a; consistent = λ consistent. consistent; keeps = keeps }
  holds_moving image (inr (inl keeps)) = record { new = both; stands = stands_both; consistent = copied_consistent movable; keeps = keeps }
  holds_moving image (inr (inr keeps)) = record { new = moved; stands = stands_moved; consistent = moved_consistent movable; keeps = keeps }

  -- at any moment of its move
  pub moving_moments : {e : State} → LeavesOnly d e (KeepsMoving read.0.0 place.entry.0 place.extent.first_line a) → LeavesOnly d e (HoldsBy MovesEnded a)
  moving_moments moments = LeavesOnly-weaken (HoldsBy MovesEnded a) holds_moving moments

  left_from : (i : ℕ) → i ≢ read.0.0 → moved.versions i ≡ both.versions i
  left_from i other = cond-false (nat_eq i read.0.0) _ _ (ne_eqb i read.0.0 other)

  goes : HasGone a counted gapped cleared places index read place moved
  goes =
      record {
        has = has_places;
        opens = may.opens;
        once = may.leaving.once;
        at = may.at;
        here = here;
        gone = cond-true (nat_eq read.0.0 read.0.0) _ _ (eq-eqb read.0.0 read.0.0 refl);
        freed = or_right (both.is_free read.0.0) (nat_eq read.0.0 read.0.0) (eq-eqb read.0.0 read.0.0 refl);
        version = record (version_read read.1) { first_line = place.extent.first_line };
        made = left_from place.entry.0 (λ same. apart movable (sym same)) ∙ copied_at movable place.entry.0 refl;
        there = ap (λ (n : ℕ). record place { extent = record { first_line = place.extent.first_line; lines = n } }) (sym may.size);
        others = λ i other far. left_from i other ∙ copied_other movable i far;
        others_free = λ i other far.
            ap (λ (b : Bool). both.is_free i || b) (ne_eqb i read.0.0 other) ∙ or-false (both.is_free i)
            ∙ ap (λ (b : Bool). a.is_free i && not b) (ne_eqb i place.entry.0 far) ∙ and-true (a.is_free i);
        layout = refl;
        line_count = refl;
      }

  went_leaving : AreLeaving moved counted gapped cleared (set places index place) (index + 1)
  went_leaving =
      record {
        lie = gone_lie goes;
        rest = λ k other low there has_ended.
            gone_rest goes k other (λ same. omega (arith, low, same)) there (may.leaving.rest k other (omega (arith, low)) there has_ended);
        due = λ i version beyond is.
            let held = gone_due goes i version beyond is in
            let was = may.leaving.due i version held.1 held.2 in
            let low = was.2 in
            elim (cases_eq was.0 index) [
              | inl same ↦
                  let one : was.1 ≡ read = picked (sym was.3 ∙ ap (slice_get counted) same ∙ may.at) in
                  absurd (held.0 (sym was.4 ∙ ap (λ (r : EntryNo × Entry). r.0.0) one))
              | inr other ↦ (was.0, was.1, omega (arith, low, other), was.3, was.4, was.5)
            ];
        once = may.leaving.once;
        free = gone_free goes;
      }

  -- it is in its place
  pub went : {e : State} → e.lines ≡ d.lines → IsDurable e moved → HasLeft current' e a counted gapped cleared (set places index place) (index + 1)
  went lines durable =
      record {
        new = moved;
        stands = stands_moved;
        held = record {
          current_is = may.held.current_is;
          lines_are = may.held.lines_are ∙ sym lines;
          durable = durable;
          consistent = moved_consistent movable may.held.consistent;
          lawful = moved_lawful movable may.held.lawful;
        };
        leaving = went_leaving;
      }
