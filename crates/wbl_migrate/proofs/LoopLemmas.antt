-- One live version after another leaves the entries that are not kept.
use Rattle.std.proofs.Common.{◌≡◌, ◌≢◌, ◌⊎◌, ◌+◌, ◌<◌, ◌≤◌, ◌==◌, inl, inr, ℕ, Bool, false, true, not, nat_eq, List, length, set, map, Some, refl, sym, ap, ap₂, ◌∙◌, arith, eq-eqb, ne_eqb}
use Rattle.std.specs.List.{slice_get}
use Rattle.std.specs.Option.{option_map}
use Rattle.std.proofs.lemmas.Bool.{both_ways, cases_Bool, cases_eq, not-true}
use Rattle.std.proofs.lemmas.Option.{slice_get-map, slice_get_within}
use Rattle.kv_types.specs.declared.place.EntryNo.{EntryNo}
use Rattle.heap_layout.specs.declared.entry.Entry.{Entry}
use Rattle.model.specs.Group.{Contents, bytes_of_id, version_of_put}
use Rattle.model.specs.Image.{Version, lines_of_bytes}
use Rattle.wbl_migrate.specs.declared.moving.Place.{Place}
use Rattle.wbl_migrate.specs.Leaving.{AreLeaving}
use Rattle.wbl_migrate.specs.Moving.{AreKnown, AreMoved, HasMoved, IsLeft, IsOpen, IsRoomFor, entries_kept, place_at, place_read, put_again, version_read}
use Rattle.wbl_migrate.proofs.Picks.{picked}
use Rattle.wbl_migrate.proofs.PlaceLemmas.{HasGone, HasPlaces, gone_due, gone_free, gone_lie, gone_rest, kept_within, open_apart, open_free}

-- an entry was read as ended where its end is not 0
pub has_end : (entry : Entry) → (version_read entry).is_ended ≡ true → entry.end ≢ 0
has_end entry ended none = both_ways (nat_eq entry.end 0) (not-true (nat_eq entry.end 0) ended) (eq-eqb entry.end 0 none)

-- ---- before the first

pub none_moved : (contents : Contents) (counted : List (EntryNo × Entry)) (gapped cleared : List EntryNo) → AreKnown contents counted gapped cleared
    → AreMoved contents counted gapped cleared (map place_read counted) 0
none_moved contents counted gapped cleared known =
    record {
      lie = lie;
      rest = λ k read low at. (slice_get-map place_read counted k ∙ ap (option_map place_read) at, known.held k read at);
      due = λ i version beyond is live.
          let found = known.found i version is in (found.0, found.1, omega arith, found.2, found.3);
      ended = λ k read at has_ended. (slice_get-map place_read counted k ∙ ap (option_map place_read) at, known.held k read at);
      stay = λ i version beyond is ended.
          let found = known.found i version is in
          (found.0, found.1, found.2, found.3, has_end found.1.1 (ap (λ (v : Version). v.is_ended) (same i version is) ∙ ended));
      once = known.once;
      free = known.free;
    }
  where
    same : (i : ℕ) (version : Version) (is : contents.versions i ≡ Some version) → version_read (known.found i version is).1.1 ≡ version
    same i version is =
        let found = known.found i version is in
        picked (sym (known.held found.0 found.1 found.2) ∙ ap contents.versions found.3 ∙ is)

    lie : (i : ℕ) (version : Version) → contents.versions i ≡ Some version → (k : ℕ) × (slice_get (map place_read counted) k ≡ Some (place_at i version))
    lie i version is =
        let found = known.found i version is in (
          found.0,
          slice_get-map place_read counted found.0 ∙ ap (option_map place_read) found.2
              ∙ ap₂ (λ (n : ℕ) (v : Version). Some (place_at n v)) found.3 (same i version is),
        )

-- ---- one version

module _ {a : Contents} {counted : List (EntryNo × Entry)} {gapped cleared : List EntryNo} {places : List Place} {index : ℕ}
    (moved : AreMoved a counted gapped cleared places index) where
  has_places : HasPlaces a gapped cleared places
  has_places = record { lie = moved.lie; free = moved.free }

  pub open_room : (entry : Entry) (place : Place) → IsOpen a.lines places gapped cleared place
      → place.extent.lines ≡ lines_of_bytes (bytes_of_id entry.id + length entry.value) → IsRoomFor a entry place
  open_room entry place opens wanted =
      record {
        placed = record { entry = kept_within a.current.layout a.lines place.entry.0 opens.entry; above = opens.above; within = opens.within };
        fitting = wanted;
        unused = record { entry = open_free has_places opens; lines = open_apart has_places opens };
      }

  -- ---- one that stays

  pub skipped : (read : EntryNo × Entry) → slice_get counted index ≡ Some read → (read.0.0 < entries_kept a.lines) ⊎ (read.1.end ≢ 0)
      → AreMoved a counted gapped cleared places (index + 1)
  skipped read at stays =
      record {
        lie = moved.lie;
        rest = λ k other low there. moved.rest k other (omega (arith, low)) there;
        due = λ i version beyond is live.
            let was = moved.due i version beyond is live in
            let low = was.2 in
            elim (cases_eq was.0 index) [
              | inl same ↦ absurd (not_it i version beyond is live was.1 (ap (slice_get counted) (sym same) ∙ was.3) was.4)
              | inr other ↦ (was.0, was.1, omega (arith, low, other), was.3, was.4)
            ];
        ended = moved.ended;
        stay = moved.stay;
        once = moved.once;
        free = moved.free;
      }
    where
      not_it : (i : ℕ) (version : Version) → entries_kept a.lines ≤ i → a.versions i ≡ Some version → version.is_ended ≡ false → (other : EntryNo × Entry)
          → slice_get counted index ≡ Some other → other.0.0 ≡ i → ⊥
      not_it i version beyond is live other there named =
          let same : read ≡ other = picked (sym at ∙ there) in
          let number : read.0.0 ≡ i = ap (λ (r : EntryNo × Entry). r.0.0) same ∙ named in
          let held : Some (version_read read.1) ≡ Some version = sym (moved.rest index read (omega arith) at).1 ∙ ap a.versions number ∙ is in
          let ended : (version_read read.1).is_ended ≡ false = ap (λ (v : Version). v.is_ended) (picked held) ∙ live in
          elim stays [
            | inl kept ↦ omega (arith, kept, beyond, number)
            | inr has_ended ↦ both_ways (read.1.end == 0) (ne_eqb read.1.end 0 has_ended) (unended (read.1.end == 0) ended)
          ]
        where
          unended : (b : Bool) → not b ≡ false → b ≡ true
          unended true e = refl
          unended false e = sym e

  -- ---- one that was moved

  pub went : (read : EntryNo × Entry) (place : Place) (new : Contents) → slice_get counted index ≡ Some read → read.1.end ≡ 0
      → IsOpen a.lines places gapped cleared place → HasMoved a read.0 read.1 place new → new.current.layout ≡ a.current.layout → new.lines ≡ a.lines
      → AreMoved new counted gapped cleared (set places index place) (index + 1)
  went read place new at live opens move layout lines =
      record {
        lie = gone_lie goes;
        rest = λ k other low there.
            gone_rest goes k other (λ same. omega (arith, low, same)) there (moved.rest k other (omega (arith, low)) there);
        due = λ i version beyond is live.
            let held = gone_due goes i version beyond is in
            let was = moved.due i version held.1 held.2 live in
            let low = was.2 in
            elim (cases_eq was.0 index) [
              | inl same ↦
                  let one : was.1 ≡ read = picked (sym was.3 ∙ ap (slice_get counted) same ∙ at) in
                  absurd (held.0 (sym was.4 ∙ ap (λ (r : EntryNo × Entry). r.0.0) one))
              | inr other ↦ (was.0, was.1, omega (arith, low, other), was.3, was.4)
            ];
        ended = λ k other there has_ended.
            gone_rest goes k other (λ same. has_ended (ended_not k other there same)) there (moved.ended k other there has_ended);
        stay = λ i version beyond is has_ended.
            let held = gone_due goes i version beyond is in
            moved.stay i version held.1 held.2 has_ended;
        once = moved.once;
        free = gone_free goes;
      }
    where
      goes : HasGone a counted gapped cleared places index read place new
      goes = record {
        has = has_places;
        opens = opens;
        once = moved.once;
        at = at;
        here = (moved.rest index read (omega arith) at).0;
        gone = move.gone;
        freed = move.freed;
        version = version_of_put read.1.position (put_again read.1 place);
        made = move.made;
        there = refl;
        others = move.others;
        others_free = move.others_free;
        layout = layout;
        line_count = lines;
      }

      ended_not : (k : ℕ) (other : EntryNo × Entry) → slice_get counted k ≡ Some other → k ≡ index → other.1.end ≡ 0
      ended_not k other there same =
          ap (λ (r : EntryNo × Entry). r.1.end) (picked (sym there ∙ ap (slice_get counted) same ∙ at)) ∙ live

  -- ---- a live version that has to go, and behind the last

  pub is_left : (read : EntryNo × Entry) → slice_get counted index ≡ Some read → entries_kept a.lines ≤ read.0.0 → read.1.end ≡ 0 → IsLeft a
  is_left read at beyond live =
      record {
        entry = read.0.0;
        version = version_read read.1;
        beyond = beyond;
        held = (moved.rest index read (omega arith) at).1;
        live = ap (λ (end : ℕ). not (nat_eq end 0)) live;
      }

  pub none_left : length counted ≤ index → ¬ IsLeft a
  none_left all left =
      let was = moved.due left.entry left.version left.beyond left.held left.live in
      let low = was.2 in
      let within = slice_get_within counted was.0 was.1 was.3 in
      omega (arith, all, low, within)

  -- what has ended may leave then
  pub all_live : length counted ≤ index → AreLeaving a counted gapped cleared places 0
  all_live all =
      record {
        lie = moved.lie;
        rest = λ k read low at has_ended. moved.ended k read at has_ended;
        due = λ i version beyond is.
            elim (cases_Bool version.is_ended) [
              | inl has_ended ↦ let was = moved.stay i version beyond is has_ended in (was.0, was.1, omega arith, was.2, was.3, was.4)
              | inr live ↦ absurd (none_left all (record { entry = i; version = version; beyond = beyond; held = is; live = live }))
            ];
        once = moved.once;
        free = moved.free;
      }
