-- What is made of the versions of an image is that of its contents.
use Rattle.std.proofs.Common.{◌≡◌, ◌≢◌, ◌↔◌, ℕ, ◌<◌, ◌≤◌, ◌&&◌, ◌||◌, ◌==◌, ⊎_elim, Bool, true, false, not, IsTrue, List, [], ◌∷◌, Contains, nat_eq, Option, Some, None, refl, sym, ap, ap₂, subst, subst₂, ◌∙◌, arith, eq-eqb, eqb-true, ne_eqb}
use Rattle.std.proofs.lemmas.Bool.{and_parts, true≢false, false_from_ne_true}
use Rattle.std.proofs.lemmas.List.{length-map}
use Rattle.std.proofs.lemmas.Map.Keys.{IsDistinct-head, IsDistinct-tail}
use Rattle.std.specs.List.{IsDistinct}
use Rattle.std.specs.Option.{is_some}
use Rattle.kv_types.specs.declared.place.EntryNo.{EntryNo}
use Rattle.kv_types.specs.declared.record_id.RecordId.{RecordId}
use Rattle.kv_types.specs.declared.record_id.RecordId.TheVariants.{Str, Field}
use Rattle.kv_types.specs.Keyspace.{Keyspace, IsKeyspace, value_at}
use Rattle.kv_types.proofs.OrderLemmas.{same_record, same_key}
use Rattle.kv_types.proofs.LookUpLemmas.{is_same_key}
use Rattle.heap_layout.specs.declared.entry.Entry.{Entry}
use Rattle.heap_layout.specs.Version.{version_of}
use Rattle.extent_heap.specs.Extents.{is_line_of}
use Rattle.extent_heap.specs.Room.{Room, fresh_room, is_free_entry, is_free_line}
use Rattle.extent_heap.proofs.RunsLemmas.{line_bounds, line_within}
use Rattle.model.specs.declared.layout.Layout.{Layout}
use Rattle.model.specs.Group.{Contents, Versions, IsConsistent, is_ended_version, entries_of}
use Rattle.model.specs.Image.{Version, IsLive, counts, entries_of_lines, first_extent_line}
use Rattle.model.specs.ReadImage.{is_clash}
use Rattle.mv_keyspace.specs.Loading.{excludes, AreCompatible, HasRows}
use Rattle.mv_keyspace.specs.Row.{numbers_of}
use Rattle.mv_keyspace.specs.Table.{Cell, Table, cell_at, IsCellOf, IsTable}
use Rattle.placing.specs.Left.{IsLeftOf}
use Rattle.placing.specs.Out.{HasOut, has_version}
use Rattle.placing.specs.Read.{AreOf, ended_read, numbers_read, row_read, rows_read}
use Rattle.placing.specs.Rebuilt.{AreEndedOf, AreFreeEntries, CanClaim, CanClaimAll, ClaimsAll, ClaimsEntries, IsHeapOf, IsLineOfVersion, IsRebuilt, LiesApart, has_entry, has_entry_read, has_line_read}
use Rattle.placing.proofs.CountLemmas.{listed_counted}
use Rattle.placing.proofs.MemberLemmas.{mapped_member, listed-from_member, member-from_listed, here, later, any-from_member, any_false, all_other, member-from_chosen, chosen-from_member, distinct_chosen}

-- ---- records of one keyspace that clash are the same

clash_apart : (s : Keyspace) → IsKeyspace s → (x y : RecordId) (v w : List ℕ) → value_at s x ≡ Some v → value_at s y ≡ Some w → is_clash x y ≡ true → x ≡ y
clash_apart s lawful (Str a) (Str b) v w found found' clash = ap Str (same_key a b (and_parts (is_same_key a b) _ clash).0)
clash_apart s lawful (Str a) (Field b g) v w found found' clash =
    let same = same_key a b (and_parts (is_same_key a b) _ clash).0 in
    let none = lawful.one_kind a g (ap is_some found) in
    let field : value_at s (Field a g) ≡ Some w = ap (λ k. value_at s (Field k g)) same ∙ found' in
    cc
clash_apart s lawful (Field a f) (Str b) v w found found' clash =
    let same = same_key a b (and_parts (is_same_key a b) _ clash).0 in
    let none = lawful.one_kind b f (ap is_some found') in
    let field : value_at s (Field b f) ≡ Some v = ap (λ k. value_at s (Field k f)) (sym same) ∙ found in
    cc
clash_apart s lawful (Field a f) (Field b g) v w found found' clash =
    let test = (and_parts (is_same_key a b) _ clash).1 in
    same_record (Field a f) (Field b g) (grind arith)

-- ---- a new heap, in terms of the contents

-- all lines of the extents and all entries of the directory are free
pub record IsFresh (contents : Contents) (fresh : Room) : Type 0 where
  pub lines : (line : ℕ) → IsTrue (is_free_line fresh line) ↔ ((first_extent_line contents.lines ≤ line) × (line < contents.lines))
  pub entries : (i : ℕ) → IsTrue (is_free_entry fresh i) ↔ (i < entries_of contents)
  pub end_line : fresh.end_line ≡ contents.lines
  pub end_entry : fresh.end_entry ≡ entries_of contents

pub fresh_of : (contents : Contents) (fresh : Room) (layout : Layout) (lines first count : ℕ) → contents.current.layout ≡ layout → contents.lines ≡ lines → first ≡ first_extent_line lines
    → count ≡ entries_of_lines layout lines
    → ((line : ℕ) → IsTrue (is_free_line fresh line) ↔ ((first ≤ line) × (line < lines))) → ((i : ℕ) → IsTrue (is_free_entry fresh i) ↔ (i < count)) → fresh ≡ fresh_room first lines count → IsFresh contents fresh
fresh_of contents fresh layout lines first count layout_is is first_is count_is free_lines free_entries room = record {
  lines = subst₂ (λ (a b : ℕ). (line : ℕ) → IsTrue (is_free_line fresh line) ↔ ((a ≤ line) × (line < b))) (first_is ∙ ap first_extent_line (sym is)) (sym is) free_lines;
  entries = subst (λ (n : ℕ). (i : ℕ) → IsTrue (is_free_entry fresh i) ↔ (i < n)) (count_is ∙ sym (ap₂ entries_of_lines layout_is is)) free_entries;
  end_line = ap (λ (r : Room). r.end_line) room ∙ sym is;
  end_entry = ap (λ (r : Room). r.end_entry) room ∙ count_is ∙ sym (ap₂ entries_of_lines layout_is is);
}

-- ---- what was read, and the contents

module _ (contents : Contents) (counted : List (EntryNo × Entry)) (gapped : List EntryNo) (are : AreOf contents counted gapped) where
  abbrev versions : Versions
  versions = contents.versions

  abbrev version : EntryNo × Entry → Version
  version read = version_of contents.current read.1

  -- what was read is a version of the contents
  begun : (read : EntryNo × Entry) → Contains counted read → versions read.0.0 ≡ Some (version read)
  begun read m = (are.versions read.0.0 (version read)).1 (record { entry = read.1; listed = m; version_is = refl })

  -- a version was read
  read_of : (i : ℕ) (v : Version) → versions i ≡ Some v → (read : EntryNo × Entry) × Contains counted read × (read.0.0 ≡ i) × (version read ≡ v)
  read_of i v is = let known = (are.versions i v).0 is in ((record { 0 = i }, known.entry), known.listed, refl, known.version_is)

  -- its end counts just where it is not 0
  ended_iff : (read : EntryNo × Entry) → Contains counted read → (version read).is_ended ≡ not (read.1.end == 0)
  ended_iff read m =
      ⊎_elim (λ (none : read.1.end ≡ 0). ap (counts contents.current) none ∙ sym (ap not (eq-eqb read.1.end 0 none)))
      (λ (ends : IsTrue (counts contents.current read.1.end)).
      ends ∙ sym (ap not (ne_eqb read.1.end 0 (λ none. true≢false (sym ends ∙ ap (counts contents.current) none)))))
      (are.ends read m)

  -- ---- what may be claimed

  module _ (fresh : Room) (new : IsFresh contents fresh) where
    can_claim : (read : EntryNo × Entry) → Contains counted read → CanClaim fresh read
    can_claim read m =
        let is = begun read m in
        let lies = are.lawful.placed read.0.0 (version read) is in
        record {
          entry = (new.entries read.0.0).1 (are.lawful.begun read.0.0 (version read) is).0;
          some = lies.some;
          run = λ line from before. (new.lines line).1 (omega (arith, lies.above, from), omega (arith, lies.within, before));
        }

    apart : (read other : EntryNo × Entry) → Contains counted read → Contains counted other → read.0.0 ≢ other.0.0 → LiesApart read other
    apart read other m m' differ = record {
      entries = differ;
      lines = are.lawful.apart read.0.0 other.0.0 (version read) (version other) differ (begun read m) (begun other m');
    }

    can_claim_of : (rest : List (EntryNo × Entry)) → ((read : EntryNo × Entry) → Contains rest read → Contains counted read) → IsDistinct nat_eq (numbers_read rest) → CanClaimAll fresh rest
    can_claim_of [] among once = tt
    can_claim_of (read ∷ rest) among once = (
      can_claim read (among read (here read rest)),
      all_other (λ (other : EntryNo × Entry). other.0.0) (LiesApart read) read.0.0 rest (IsDistinct-head nat_eq read.0.0 (numbers_read rest) once)
          (λ other m differ. apart read other (among read (here read rest)) (among other (later read other rest m)) differ),
      can_claim_of rest (λ other m. among other (later read other rest m)) (IsDistinct-tail nat_eq read.0.0 (numbers_read rest) once),
    )

    pub can_claim_all : CanClaimAll fresh counted
    can_claim_all = can_claim_of counted (λ read m. m) are.once

    -- ---- what is left once all was claimed

    -- an entry that holds no version is none of those that were read
    not_read : (i : ℕ) → versions i ≡ None → has_entry_read counted i ≡ false
    not_read i none =
        any_false (λ (read : EntryNo × Entry). nat_eq i read.0.0) counted
        (λ read m same. let both : None ≡ Some (version read) = sym none ∙ ap versions (eqb-true i read.0.0 same) ∙ begun read m in cc)

    module _ (between : Room) (claims : ClaimsAll fresh counted between) where
      free_gap : (i : ℕ) → Contains (numbers_of gapped) i → IsTrue (is_free_entry between i)
      free_gap i m =
          let told = (are.gapped_are i).0 m in
          claims.entries i ∙ ap₂ (λ (a b : Bool). a && not b) ((new.entries i).1 told.0) (not_read i told.2)

      free_gaps_of : (rest : List EntryNo) → ((i : ℕ) → Contains (numbers_of rest) i → Contains (numbers_of gapped) i) → AreFreeEntries between rest
      free_gaps_of [] among = tt
      free_gaps_of (entry ∷ rest) among = (free_gap entry.0 (among entry.0 (here entry.0 (numbers_of rest))), free_gaps_of rest (λ i m. among i (later entry.0 i (numbers_of rest) m)))

      pub free_gaps : AreFreeEntries between gapped
      free_gaps = free_gaps_of gapped (λ i m. m)

      module _ (room : Room) (gaps : ClaimsEntries between gapped room) where
        line_is : (line : ℕ) → is_free_line room line ≡ (is_free_line fresh line && not (has_line_read counted line))
        line_is line = gaps.lines line ∙ claims.lines line

        -- a line of a version is one that was read
        line_read : (line : ℕ) → IsLineOfVersion versions line → IsTrue (has_line_read counted line)
        line_read line of =
            let read = read_of of.i of.version of.begun in
            let first : read.0.1.extent.first_line ≡ of.version.first_line = ap (λ (v : Version). v.first_line) read.3 in
            let lines : read.0.1.extent.lines ≡ of.version.lines = ap (λ (v : Version). v.lines) read.3 in
            any-from_member (λ (other : EntryNo × Entry). is_line_of other.1.extent line) counted read.0 read.1
            (line_within read.0.1.extent line (omega (arith, first, of.from)) (omega (arith, first, lines, of.before)))

        line_not_read : (line : ℕ) → (¬ IsLineOfVersion versions line) → has_line_read counted line ≡ false
        line_not_read line none = any_false (λ (read : EntryNo × Entry). is_line_of read.1.extent line) counted (λ read m is.
            let bounds = line_bounds read.1.extent line is in
            none (record { i = read.0.0; version = version read; begun = begun read m; from = bounds.0; before = bounds.1 }))

        free_line : (line : ℕ) → IsTrue (is_free_line room line) ↔ ((first_extent_line contents.lines ≤ line) × (line < contents.lines) × (¬ IsLineOfVersion versions line))
        free_line line = (
          λ free.
              let parts = and_parts (is_free_line fresh line) (not (has_line_read counted line)) (sym (line_is line) ∙ free) in
              let bounds = (new.lines line).0 parts.0 in
              (bounds.0, bounds.1, λ of. true≢false (sym parts.1 ∙ ap not (line_read line of))),
          λ told. line_is line ∙ ap₂ (λ (a b : Bool). a && not b) ((new.lines line).1 (told.0, told.1)) (line_not_read line told.2),
        )

        entry_is : (i : ℕ) → is_free_entry room i ≡ (is_free_entry fresh i && not (has_entry_read counted i) && not (has_entry gapped i))
        entry_is i = gaps.free i ∙ ap (λ b. b && not (has_entry gapped i)) (claims.entries i)

        -- a free entry of the heap is free in the contents
        is_free_of : (i : ℕ) → i < entries_of contents → IsTrue (not (has_entry_read counted i)) → IsTrue (not (has_entry gapped i)) → (entry : Option Version) → versions i ≡ entry → (b : Bool) → contents.is_free i ≡ b → b ≡ true
        is_free_of i lt unread ungapped entry is true free = refl
        is_free_of i lt unread ungapped None is false taken = absurd (true≢false (sym ungapped ∙ ap not (listed-from_member i gapped ((are.gapped_are i).1 (lt, taken, is)))))
        is_free_of i lt unread ungapped (Some v) is false taken =
            let read = read_of i v is in
            absurd (true≢false (sym unread ∙ ap not (any-from_member (λ (other : EntryNo × Entry). nat_eq i other.0.0) counted read.0 read.1 (eq-eqb i read.0.0.0 (sym read.2)))))

        -- and holds no version
        empty_of_free : (i : ℕ) (entry : Option Version) → versions i ≡ entry → contents.is_free i ≡ true → versions i ≡ None
        empty_of_free i None is free = is
        empty_of_free i (Some v) is free = absurd (true≢false (sym free ∙ (are.lawful.begun i v is).1))

        no_gap : (i : ℕ) → contents.is_free i ≡ true → has_entry gapped i ≡ false
        no_gap i free = false_from_ne_true (has_entry gapped i) (λ t. true≢false (sym free ∙ ((are.gapped_are i).0 (member-from_listed i gapped t)).1))

        free_entry : (i : ℕ) → IsTrue (is_free_entry room i) ↔ ((i < entries_of contents) × IsTrue (contents.is_free i))
        free_entry i = (
          λ free.
              let outer = and_parts (is_free_entry fresh i && not (has_entry_read counted i)) (not (has_entry gapped i)) (sym (entry_is i) ∙ free) in
              let inner = and_parts (is_free_entry fresh i) (not (has_entry_read counted i)) outer.0 in
              let lt = (new.entries i).0 inner.0 in
              (lt, is_free_of i lt inner.1 outer.1 (versions i) refl (contents.is_free i) refl),
          λ told.
              entry_is i
              ∙ ap (λ b. b && not (has_entry_read counted i) && not (has_entry gapped i)) ((new.entries i).1 told.0)
              ∙ ap₂ (λ (a b : Bool). not a && not b) (not_read i (empty_of_free i (versions i) refl told.1)) (no_gap i told.1),
        )

        pub heap_of : IsHeapOf contents room
        heap_of = record { lines = free_line; entries = free_entry }

        pub left_of : IsLeftOf contents room
        left_of = record {
          entries = λ i free. let told = (free_entry i).0 free in (told.0, told.1, empty_of_free i (versions i) refl told.1);
          lines = λ line free. let told = (free_line line).0 free in (told.0, told.1);
          apart = λ i v is. record {
            some = (are.lawful.placed i v is).some;
            none = λ line from before.
                false_from_ne_true (is_free_line room line) (λ free.
                ((free_line line).0 free).2 (record { i = i; version = v; begun = is; from = from; before = before }));
          };
        }

        consistent_of : IsConsistent contents
        consistent_of = record {
          free = λ i free. empty_of_free i (versions i) refl free;
          beyond = λ i past. none_beyond i past (versions i) refl;
        }
          where
            none_beyond : (i : ℕ) → entries_of contents ≤ i → (entry : Option Version) → versions i ≡ entry → versions i ≡ None
            none_beyond i past None is = is
            none_beyond i past (Some v) is = let lt = (are.lawful.begun i v is).0 in absurd (omega (arith, lt, past))

        -- a version has its number among those that were read
        number_read : (i : ℕ) (entry : Option Version) → versions i ≡ entry → IsTrue (has_version entry) → Contains (numbers_read counted) i
        number_read i None is has = cc
        number_read i (Some v) is has =
            let read = read_of i v is in
            subst (λ k. Contains (numbers_read counted) k) read.2 (mapped_member (λ (other : EntryNo × Entry). other.0.0) counted read.0 read.1)

        -- each version took an extent
        out_of : HasOut contents room 0
        out_of =
            let few = listed_counted (numbers_read counted) versions (entries_of contents) (λ i has. number_read i (versions i) refl has) in
            record {
              end_line = gaps.end_line ∙ claims.end_line ∙ new.end_line;
              end_entry = gaps.end_entry ∙ claims.end_entry ∙ new.end_entry;
              held = omega (arith, few, length-map counted (λ (other : EntryNo × Entry). other.0.0), claims.held, gaps.held);
            }

        pub rebuilt_of : (table : Table) → IsTable versions table → IsRebuilt contents table room
        rebuilt_of table table_is = record {
          consistent = consistent_of;
          table_is = table_is;
          heap_is = heap_of;
          left = left_of;
          out = out_of;
          beside = record { versions = versions; table_is = table_is; empty = λ i free. empty_of_free i (versions i) refl ((free_entry i).0 free).1 };
        }

  -- ---- the table

  abbrev is_going : EntryNo × Entry → Bool
  is_going read = read.1.end == 0

  live : (read : EntryNo × Entry) → Contains counted read → IsTrue (is_going read) → IsLive versions read.0.0 read.1.id read.1.value
  live read m going = record { version = version read; begun = begun read m; not_ended = ended_iff read m ∙ ap not going; id_is = refl; value_is = refl }

  compatible : (read other : EntryNo × Entry) → Contains counted read → Contains counted other → IsTrue (is_going read) → IsTrue (is_going other) → read.0.0 ≢ other.0.0 → excludes (row_read read) (row_read other) ≡ false
  compatible read other m m' going going' differ =
      ap₂ (λ (a b : Bool). a || b)
      (false_from_ne_true (is_clash read.1.id other.1.id) (λ clash.
      let lt = (are.lawful.begun read.0.0 (version read) (begun read m)).0 in
      let lt' = (are.lawful.begun other.0.0 (version other) (begun other m')).0 in
      let own = live read m going in
      let others = live other m' going' in
      let map = are.lawful.map in
      let same = clash_apart are.lawful.keyspace are.lawful.lawful read.1.id other.1.id read.1.value other.1.value
      (map.found read.0.0 read.1.id read.1.value lt own) (map.found other.0.0 other.1.id other.1.value lt' others) clash in
      differ (map.once read.0.0 other.0.0 other.1.id read.1.value other.1.value lt lt' (subst (λ id. IsLive versions read.0.0 id read.1.value) same own) others)))
      (ne_eqb read.0.0 other.0.0 differ)

  pub rows_compatible : AreCompatible (rows_read counted)
  rows_compatible = distinct_chosen is_going row_read (λ (read : EntryNo × Entry). read.0.0) excludes counted counted (λ read m. m) are.once compatible

  module _ (table : Table) (has : HasRows (rows_read counted) table) where
    live_cell : (id : RecordId) (cell : Cell) → cell_at table id ≡ Some cell → IsCellOf versions id cell
    unfolding live
    live_cell id cell found =
        let read = member-from_chosen is_going row_read counted (id, cell) ((has.these id cell).0 found) in
        subst (λ (row : RecordId × Cell). IsCellOf versions row.0 row.1) read.3 (record { live = live read.0 read.1 read.2; position_is = refl })

    found_cell : (id : RecordId) (cell : Cell) → IsCellOf versions id cell → cell_at table id ≡ Some cell
    found_cell id cell is =
        let read = read_of cell.entry is.live.version is.live.begun in
        let going : not (is_going read.0) ≡ false = sym (ended_iff read.0 read.1) ∙ ap (λ (v : Version). v.is_ended) read.3 ∙ is.live.not_ended in
        let id_is : read.0.1.id ≡ id = ap (λ (v : Version). v.id) read.3 ∙ is.live.id_is in
        let value_is : read.0.1.value ≡ cell.value = ap (λ (v : Version). v.value) read.3 ∙ is.live.value_is in
        let position_is : read.0.1.position ≡ cell.position = ap (λ (v : Version). v.position) read.3 ∙ sym is.position_is in
        let row : row_read read.0 ≡ (id, cell) = λ k. (id_is k, record { value = value_is k; entry = read.2 k; position = position_is k }) in
        (has.these id cell).1 (subst (λ r. Contains (rows_read counted) r) row (chosen-from_member is_going row_read counted read.0 read.1 (not_not (is_going read.0) going)))
      where
        not_not : (b : Bool) → not b ≡ false → IsTrue b
        not_not true e = refl
        not_not false e = sym e

    pub table_of_versions : IsTable versions table
    table_of_versions = record { keyspace = has.lawful.keyspace; live = live_cell; found = found_cell }

  -- ---- the versions that have ended

  abbrev has_ended : EntryNo × Entry → Bool
  has_ended read = not (is_going read)

  ended_of : (i : ℕ) (entry : Option Version) → versions i ≡ entry → IsTrue (is_ended_version entry) → Contains (ended_read counted) i
  ended_of i None is t = cc
  ended_of i (Some v) is t =
      let read = read_of i v is in
      subst (λ k. Contains (ended_read counted) k) read.2
      (chosen-from_member has_ended (λ (other : EntryNo × Entry). other.0.0) counted read.0 read.1 (sym (ended_iff read.0 read.1) ∙ ap (λ (w : Version). w.is_ended) read.3 ∙ t))

  pub ended_are : AreEndedOf contents (ended_read counted)
  ended_are = record {
    once = distinct_chosen has_ended (λ (read : EntryNo × Entry). read.0.0) (λ (read : EntryNo × Entry). read.0.0) nat_eq counted counted (λ read m. m) are.once
        (λ read other m m' t t' differ. ne_eqb read.0.0 other.0.0 differ);
    these = λ i. (
      λ m.
          let read = member-from_chosen has_ended (λ (other : EntryNo × Entry). other.0.0) counted i m in
          subst (λ k. IsTrue (is_ended_version (versions k))) read.3
          (ap is_ended_version (begun read.0 read.1) ∙ ended_iff read.0 read.1 ∙ read.2),
      λ t. ended_of i (versions i) refl t,
    );
  }
