-- A place that is claimed for a version and given back, and the position of a version.
use Rattle.std.proofs.Common.{◌≡◌, ℕ, ◌+◌, ◌<◌, ◌≤◌, ◌||◌, ◌&&◌, inl, inr, Bool, true, false, not, cond, IsTrue, List, [], ◌∷◌, nat_eq, Option, Some, None, IfSome, refl, sym, ap, subst, ◌∙◌, arith, eq-eqb, eqb-true}
use Rattle.std.proofs.lemmas.Bool.{and_parts, true≢false}
use Rattle.kv_types.specs.declared.place.Extent.{Extent}
use Rattle.kv_types.specs.declared.place.EntryNo.{EntryNo}
use Rattle.model.specs.declared.group.Put.{Put}
use Rattle.model.specs.Group.{Contents, HasItsLines, IsConsistent, Versions}
use Rattle.model.specs.Image.{Image, Version, counts, entry_word, version_in}
use Rattle.model.proofs.DirectoryLemmas.{in-directory}
use Rattle.extent_heap.specs.Extents.{is_line_of}
use Rattle.extent_heap.specs.Room.{GivesEntry, GivesExtent, IsOut, IsOutEntry, Room, is_free_entry, is_free_line}
use Rattle.extent_heap.proofs.EntriesLemmas.{free_below}
use Rattle.extent_heap.proofs.Rooms.{free_within}
use Rattle.extent_heap.proofs.RunsLemmas.{line_bounds, line_within}
use Rattle.mv_keyspace.specs.Table.{AreFresh, IsTable, Table}
use Rattle.mv_keyspace.proofs.PartTables.{fresh-from_table}
use Rattle.placing.proofs.TakenLemmas.{AreDistinct-from_apart}
use Rattle.wbl_engine.specs.Contents.{Keeps}
use Rattle.standby.specs.Following.{Follows}
use Rattle.standby.specs.Moving.{ClaimsPlace, IsAlike}
use Rattle.standby.proofs.PlacesTaken.{AreTaken}
use Rattle.std.proofs.lemmas.Option.{none-some}

-- ---- a place that was claimed

and_none : (a b : Bool) → IsTrue b → (a && not b) ≡ false
and_none true true b = refl
and_none false true b = refl
and_none true false b = absurd (true≢false (sym b))
and_none false false b = refl

module _ (room : Room) (put : Put) (left : Room) (claims : ClaimsPlace room put left) where
  between_line : (line : ℕ) → is_free_line claims.between line ≡ is_free_line room line
  between_line line = ap (λ lines. is_free_line (record room { lines = lines }) line) claims.entry.lines

  left_entry : (i : ℕ) → is_free_entry left i ≡ is_free_entry claims.between i
  left_entry i = ap (λ entries. is_free_entry (record room { entries = entries }) i) claims.extent.entries

  left_entries : (i : ℕ) → IsTrue (is_free_entry left i) → IsTrue (is_free_entry room i)
  left_entries i free = (and_parts (is_free_entry room i) (not (nat_eq i put.entry.0)) (sym (claims.entry.taken i) ∙ sym (left_entry i) ∙ free)).0

  left_lines : (line : ℕ) → IsTrue (is_free_line left line) → IsTrue (is_free_line room line)
  left_lines line free =
      sym (between_line line) ∙ (and_parts (is_free_line claims.between line) (not (is_line_of put.extent line)) (sym (claims.extent.taken line) ∙ free)).0

  entry_gone : is_free_entry left put.entry.0 ≡ false
  entry_gone =
      left_entry put.entry.0 ∙ claims.entry.taken put.entry.0 ∙ and_none (is_free_entry room put.entry.0) (nat_eq put.entry.0 put.entry.0) (eq-eqb put.entry.0 put.entry.0 refl)

  line_gone : (line : ℕ) → put.extent.first_line ≤ line → line < put.extent.first_line + put.extent.lines → is_free_line left line ≡ false
  line_gone line low high = claims.extent.taken line ∙ and_none (is_free_line claims.between line) (is_line_of put.extent line) (line_within put.extent line low high)

  entry_below : put.entry.0 < room.end_entry
  entry_below = subst (λ n. put.entry.0 < n) claims.entry.is_room.entries (free_below room.entries put.entry.0 claims.is_free)

  pub AreTaken-claimed : HasItsLines put → AreTaken room (put ∷ []) left
  AreTaken-claimed fitting = record {
    free = (record { entry = claims.is_free; some = claims.some; run = λ line low high. sym (between_line line) ∙ claims.run line low high }, tt);
    taken = (record { entry = entry_gone; lines = record { some = claims.some; none = line_gone } }, tt);
    within = record { entries = left_entries; lines = left_lines };
    fitting = (fitting, tt);
    apart = (tt, tt);
    below = (entry_below, tt);
    held = record {
      held = let first = claims.entry.held in let second = claims.extent.held in omega (arith, first, second);
      end_line = claims.extent.end_line ∙ claims.entry.end_line;
      end_entry = claims.extent.end_entry ∙ claims.entry.end_entry;
    };
  }

  -- ---- and given back

  pub extent_out : IsOut left put.extent
  extent_out = record {
    some = claims.some;
    within =
        subst (λ n. put.extent.first_line + put.extent.lines ≤ n) (sym claims.extent.end_line)
        (free_within claims.between put.extent.first_line put.extent.lines claims.extent.is_room claims.some claims.run);
    held = let held = claims.extent.held in omega (arith, held);
    taken = line_gone;
  }

  module _ (mid : Room) (gives : GivesExtent left put.extent mid) where
    mid_entry : (i : ℕ) → is_free_entry mid i ≡ is_free_entry claims.between i
    mid_entry i = ap (λ entries. is_free_entry (record room { entries = entries }) i) gives.entries ∙ left_entry i

    pub entry_out : IsOutEntry mid put.entry
    entry_out = record {
      within = subst (λ n. put.entry.0 < n) (sym (gives.end_entry ∙ claims.extent.end_entry ∙ claims.entry.end_entry)) entry_below;
      taken = mid_entry put.entry.0 ∙ sym (left_entry put.entry.0) ∙ entry_gone;
    }

    -- the heap has free what it had before
    pub alike-given : (last : Room) → GivesEntry mid put.entry last → IsAlike room last
    alike-given last again = record {
      lines = λ line.
          ap (λ lines. is_free_line (record room { lines = lines }) line) again.lines ∙ gives.given line ∙ ap (λ b. b || is_line_of put.extent line) (claims.extent.taken line)
          ∙ back (is_free_line claims.between line) (is_line_of put.extent line) (λ in_it. let bounds = line_bounds put.extent line in_it in claims.run line bounds.0 bounds.1)
          ∙ between_line line;
      entries = λ i.
          again.given i ∙ ap (λ b. b || nat_eq i put.entry.0) (mid_entry i ∙ claims.entry.taken i)
          ∙ back (is_free_entry room i) (nat_eq i put.entry.0) (λ same. subst (λ n. IsTrue (is_free_entry room n)) (sym (eqb-true i put.entry.0 same)) claims.is_free);
      held = let given = gives.held in let second = claims.extent.held in omega (arith, again.held, given, second, claims.entry.held);
      end_line = again.end_line ∙ gives.end_line ∙ claims.extent.end_line ∙ claims.entry.end_line;
      end_entry = again.end_entry ∙ gives.end_entry ∙ claims.extent.end_entry ∙ claims.entry.end_entry;
    }
      where
        back : (a b : Bool) → (IsTrue b → IsTrue a) → ((a && not b) || b) ≡ a
        back true true into = refl
        back true false into = refl
        back false true into = sym (into refl)
        back false false into = refl

-- the place that was told
pub claimed-some : (room new : Room) (found : Option (EntryNo × Extent)) (entry : EntryNo) (extent : Extent)
    → IfSome found (λ place. (put : Put) → put.entry ≡ place.0 → put.extent ≡ place.1 → ClaimsPlace room put new) → found ≡ Some (entry, extent) → (put : Put) → put.entry ≡ entry → put.extent ≡ extent
    → ClaimsPlace room put new
claimed-some room new None entry extent told is put of_entry of_extent = cc
claimed-some room new (Some place) entry extent told is put of_entry of_extent =
    let same : place ≡ (entry, extent) = cc in
    told put (of_entry ∙ sym (ap (λ (p : EntryNo × Extent). p.0) same)) (of_extent ∙ sym (ap (λ (p : EntryNo × Extent). p.1) same))

-- none of the puts has the entry of a record
pub fresh-claimed : (versions : Versions) (table : Table) (room : Room) (put : Put) (left : Room) → IsTable versions table → ((i : ℕ) → IsTrue (is_free_entry room i) → versions i ≡ None) → ClaimsPlace room put left
    → AreFresh table (put ∷ [])
fresh-claimed versions table room put left is none claims = fresh-from_table versions table (put ∷ []) is (none put.entry.0 claims.is_free, tt) (AreDistinct-from_apart (put ∷ []) (tt, tt))

-- a heap that has free the same serves as well
pub Follows-alike : (contents : Contents) (table : Table) (room room' : Room) (ended : List EntryNo) → IsAlike room room' → Follows contents table room ended → Follows contents table room' ended
Follows-alike contents table room room' ended alike follows = record {
  consistent = follows.consistent;
  left = record {
    entries = λ i free. follows.left.entries i (sym (alike.entries i) ∙ free);
    lines = λ line free. follows.left.lines line (sym (alike.lines line) ∙ free);
    apart = λ i version begun.
        let was = follows.left.apart i version begun in
        record { some = was.some; none = λ line low high. alike.lines line ∙ was.none line low high };
  };
  table_is = follows.table_is;
  apart = follows.apart;
  out = record {
    end_line = alike.end_line ∙ follows.out.end_line;
    end_entry = alike.end_entry ∙ follows.out.end_entry;
    held = let was = follows.out.held in omega (arith, was, alike.held);
  };
  listed = follows.listed;
  all = follows.all;
}

-- ---- the position of a version

position_if : (counted : Bool) (made version : Version) (top : ℕ) → (IsTrue counted → made.position ≤ top) → cond counted (Some made) None ≡ Some version → version.position ≤ top
position_if true made version top below is = let same : made ≡ version = cc in subst (λ (v : Version). v.position ≤ top) same (below refl)
position_if false made version top below is = cc

-- it is at most that of the record
pub position_below : (contents : Contents) (image : Image) → IsConsistent contents → Keeps contents image → (i : ℕ) (version : Version) → contents.versions i ≡ Some version
    → version.position ≤ contents.current.position
position_below contents image consistent keeps i version begun =
    let within = in-directory contents consistent i (λ none. none-some version (sym none ∙ begun)) in
    position_if (counts contents.current (image (entry_word i 0))) (version_in contents.current image i) version contents.current.position
    (λ counted. (keeps.entries i within).position counted) (keeps.versions i within ∙ begun)
