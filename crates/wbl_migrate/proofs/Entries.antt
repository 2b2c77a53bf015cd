-- The rules of entries hold in each image in which the entries that are read and their extents are the same, under a record by which the same stamps count.
use Rattle.std.proofs.Common.{◌≡◌, ℕ, ◌+◌, ◌*◌, ◌<◌, ◌≤◌, Bool, not, ◌&&◌, IsTrue, inl, inr, sym, ap, ap₂, ◌∙◌, arith}
use Rattle.std.proofs.lemmas.Bool.{and_parts}
use Rattle.heap_layout.specs.declared.entry.Entry.{Entry}
use Rattle.heap_layout.specs.Entry.{IsEntry}
use Rattle.heap_layout.specs.Version.{IsUnder}
use Rattle.heap_layout.specs.Versions.{AreVersions, LieApart, is_counted, is_live}
use Rattle.heap_layout.proofs.ReadAlike.{IsEntry-same, entry_in-same}
use Rattle.model.specs.declared.record.Record.{Record}
use Rattle.model.specs.Image.{Image, counts, entries_of_lines, entry_word, first_extent_line}
use Rattle.model.specs.ReadImage.{is_clash, record_in}
use Rattle.wbl_migrate.proofs.Maps.{SameEntry}

module _ (lines' : ℕ) (r q : Record) (base image : Image) (counted : (stamp : ℕ) → counts q stamp ≡ counts r stamp) (cd : q.cd ≡ r.cd)
    (position : q.position ≡ r.position) (role : q.role ≡ r.role) where
  abbrev Same : ℕ → Type 0
  Same i = SameEntry base image (first_extent_line lines') i

  begun_same : (i : ℕ) → Same i → is_counted q image i ≡ is_counted r base i
  begun_same i same = ap (counts q) (same.words 0 (omega arith)) ∙ counted (base (entry_word i 0))

  live_same : (i : ℕ) → Same i → is_live q image i ≡ is_live r base i
  live_same i same =
      ap₂ (λ (a b : Bool). a && not b) (begun_same i same) (ap (counts q) (same.words 1 (omega arith)) ∙ counted (base (entry_word i 1)))

  under_same : (i : ℕ) → Same i → IsUnder r lines' base i → IsUnder q lines' image i
  under_same i same under =
      let at0 = same.words 0 (omega arith) in
      let at1 = same.words 1 (omega arith) in
      let at2 = same.words 2 (omega arith) in
      record {
        begin = omega (arith, at0, cd, under.begin);
        end = omega (arith, at1, cd, under.end);
        whole = λ is. IsEntry-same lines' base image i same.words (under.whole (sym (begun_same i same) ∙ is));
        position = λ is. let low = under.position (sym (begun_same i same) ∙ is) in omega (arith, at2, position, low);
      }

  apart_same : (i j : ℕ) → Same i → Same j → LieApart base i j → LieApart image i j
  apart_same i j same_i same_j apart =
      let i3 = same_i.words 3 (omega arith) in
      let i4 = same_i.words 4 (omega arith) in
      let j3 = same_j.words 3 (omega arith) in
      let j4 = same_j.words 4 (omega arith) in
      elim apart [ inl before ↦ inl (omega (arith, before, i3, i4, j3)) | inr after ↦ inr (omega (arith, after, j3, j4, i3)) ]

  -- the record of an entry that is whole, whose extent lies behind the directory
  id_same : (i : ℕ) → Same i → IsEntry lines' base i → (record_in image i).0 ≡ (record_in base i).0
  id_same i same entry =
      let behind = entry.above in
      ap (λ (read : Entry). read.id)
      (entry_in-same base image i same.words (λ j below. same.extents (8 * base (entry_word i 3) + j) (omega (arith, behind))))

  pub versions_same : entries_of_lines q.layout lines' ≤ entries_of_lines r.layout lines' → ((i : ℕ) → i < entries_of_lines q.layout lines' → Same i)
      → AreVersions r lines' base → AreVersions q lines' image
  versions_same few same are =
      record {
        entries = λ i below. under_same i (same i below) (are.entries i (within i below));
        apart = λ i j below_i below_j differ counted_i counted_j.
            apart_same i j (same i below_i) (same j below_j)
            (are.apart i j (within i below_i) (within j below_j) differ
            (sym (begun_same i (same i below_i)) ∙ counted_i) (sym (begun_same j (same j below_j)) ∙ counted_j));
        distinct = λ i j below_i below_j differ live_i live_j.
            let was_i : IsTrue (is_live r base i) = sym (live_same i (same i below_i)) ∙ live_i in
            let was_j : IsTrue (is_live r base j) = sym (live_same j (same j below_j)) ∙ live_j in
            ap₂ is_clash (id_same i (same i below_i) (whole i below_i was_i)) (id_same j (same j below_j) (whole j below_j was_j))
            ∙ are.distinct i j (within i below_i) (within j below_j) differ was_i was_j;
        uncopied = λ newcomer i below. begun_same i (same i below) ∙ are.uncopied (sym role ∙ newcomer) i (within i below);
      }
    where
      within : (i : ℕ) → i < entries_of_lines q.layout lines' → i < entries_of_lines r.layout lines'
      within i below = omega (arith, below, few)

      whole : (i : ℕ) → i < entries_of_lines q.layout lines' → IsTrue (is_live r base i) → IsEntry lines' base i
      whole i below live =
          (are.entries i (within i below)).whole (and_parts (is_counted r base i) (not (counts r (base (entry_word i 1)))) live).0
