-- What is read of an image, entry by entry, are the lists of its contents.
use Rattle.std.proofs.Common.{◌≡◌, ◌≢◌, ℕ, zero, suc, ◌+◌, ◌<◌, ◌≤◌, ◌&&◌, ◌||◌, ◌==◌, ◌⊎◌, inl, inr, ⊎_elim, Bool, true, false, not, cond, IsTrue, List, [], ◌∷◌, ◌++◌, map, Contains, nat_eq, Option, Some, None, IsSome, refl, sym, ap, ap₂, subst, subst₂, ◌∙◌, arith, eqb-true, ne_eqb}
use Rattle.std.proofs.lemmas.Bool.{and_parts, not-true, cases_eq, cases_lt, false_from_ne_true, lt-ltb, true≢false}
use Rattle.std.proofs.lemmas.List.{append-nil, map-append}
use Rattle.std.proofs.lemmas.List.Elements.{Contains-append_cases, Contains-append_left, Contains-append_right}
use Rattle.std.proofs.lemmas.Map.Keys.{IsDistinct-from_apart, below_from_sorted, sorted_head, sorted_tail}
use Rattle.std.specs.declared.cmp.Ordering.TheVariants.{Less, Equal, Greater}
use Rattle.std.specs.List.{AllByRecursion, IsDistinct}
use Rattle.std.specs.List.Sorted.{IsStrictlySortedBy}
use Rattle.std.specs.Ordering.{nat_cmp}
use Rattle.kv_types.specs.declared.place.EntryNo.{EntryNo}
use Rattle.kv_types.specs.declared.record_id.RecordId.{RecordId}
use Rattle.kv_types.specs.declared.record_id.RecordId.TheVariants.{Str, Field}
use Rattle.std.specs.Prelude.{is_none}
use Rattle.kv_types.specs.Keyspace.{IsKeyspace, value_at, key_of, field_of}
use Rattle.kv_types.proofs.OrderLemmas.{key_itself, record_itself, string_is_no_field}
use Rattle.heap_layout.specs.declared.entry.Entry.{Entry}
use Rattle.heap_layout.specs.Versions.{counted_at, counted_below, counted_entry, gapped_at, gapped_below, is_counted, is_gapped, is_live}
use Rattle.heap_layout.specs.Version.{version_of}
use Rattle.model.specs.declared.record.Record.{Record}
use Rattle.model.specs.Group.{Contents, AreApart, entries_of}
use Rattle.model.specs.ReadImage.{is_clash, record_in}
use Rattle.model.proofs.MapLemmas.{IsMapOf-map_below, IsMapOf-same, is_sorted-map_below}
use Rattle.model.specs.Image.{Image, Version, IsLive, IsMapOf, counts, entry_bytes, entry_word, map_below, version_at, version_in}
use Rattle.mv_keyspace.specs.Row.{numbers_of}
use Rattle.placing.specs.Read.{AreInOrder, AreOf, IsRead, LiesIn, Shows, numbers_read}
use Rattle.placing.proofs.MemberLemmas.{mapped_member, member-from_map, here, later, no_member, rises_more, rises_none}
use Rattle.placing.proofs.PlacesLemmas.{one_at_least}

-- ---- numbers that rise

below_is_less : (m n : ℕ) → m < n → nat_cmp m n ≡ Less
below_is_less m n lt = ap (λ b. cond b Less (cond (m == n) Equal Greater)) (lt-ltb m n lt)

less_before : (m n : ℕ) (ns : List ℕ) → AllByRecursion (λ k. nat_cmp m k ≡ Less) ns → m < n → AllByRecursion (λ k. nat_cmp m k ≡ Less) (ns ++ n ∷ [])
less_before m n [] less lt = (below_is_less m n lt, tt)
less_before m n (k ∷ ns) less lt = (less.0, less_before m n ns less.1 lt)

rises-push : (ns : List ℕ) (n : ℕ) → IsStrictlySortedBy nat_cmp ns → ((m : ℕ) → Contains ns m → m < n) → IsStrictlySortedBy nat_cmp (ns ++ n ∷ [])
rises-push [] n up lower = rises_more n [] tt rises_none
rises-push (m ∷ ns) n up lower =
    rises_more m (ns ++ n ∷ []) (less_before m n ns (sorted_head nat_cmp m ns up) (lower m (here m ns)))
    (rises-push ns n (sorted_tail nat_cmp m ns up) (λ k at. lower k (later m k ns at)))

-- ---- elements of lists that are made number by number

module _ {X : Type 0} (number : X → ℕ) (passes : ℕ → Bool) (made : ℕ → X) (number-made : (i : ℕ) → number (made i) ≡ i) where
  abbrev one_at : ℕ → List X
  one_at i = cond (passes i) (made i ∷ []) []

  abbrev all_below : ℕ → List X
  all_below zero = []
  all_below (suc i) = all_below i ++ one_at i

  pub member-from_below : (n : ℕ) (x : X) → Contains (all_below n) x → (i : ℕ) × (i < n) × IsTrue (passes i) × (made i ≡ x)
  member-from_below zero x m = absurd (no_member x m)
  member-from_below (suc n) x m =
      ⊎_elim (λ (h : Contains (all_below n) x). let found = member-from_below n x h in (found.0, omega (arith, found.1), found.2, found.3))
      (λ (h : Contains (one_at n) x). let found = member-from_one h in (n, omega arith, found.0, found.1))
      (Contains-append_cases (all_below n) (one_at n) x m)
    where
      member-from_one : Contains (one_at n) x → IsTrue (passes n) × (made n ≡ x)
      member-from_one h = grind arith

  pub below-from_member : (n i : ℕ) → i < n → IsTrue (passes i) → Contains (all_below n) (made i)
  below-from_member zero i lt t = absurd (omega (arith, lt))
  below-from_member (suc n) i lt t =
      ⊎_elim (λ (h : i < n). Contains-append_left (all_below n) (one_at n) (made i) (below-from_member n i h t))
      (λ (h : n ≤ i).
      let same : i ≡ n = omega (arith, lt, h) in
      subst (λ k. Contains (all_below n ++ one_at n) (made k)) (sym same)
      (Contains-append_right (all_below n) (one_at n) (made n) (subst (λ b. Contains (cond b (made n ∷ []) []) (made n)) (sym (ap passes (sym same) ∙ t)) (here (made n) []))))
      (cases_lt i n)

  -- their numbers are the numbers that pass
  pub number-from_below : (n i : ℕ) → Contains (map number (all_below n)) i → (i < n) × IsTrue (passes i)
  number-from_below n i m =
      let of = member-from_map number (all_below n) i m in
      let found = member-from_below n of.0 of.1 in
      let same : found.0 ≡ i = sym (number-made found.0) ∙ ap number found.3 ∙ of.2 in
      (subst (λ k. k < n) same found.1, subst (λ k. IsTrue (passes k)) same found.2)

  pub numbers_rise : (n : ℕ) → IsStrictlySortedBy nat_cmp (map number (all_below n))
  numbers_rise zero = rises_none
  numbers_rise (suc n) =
      subst (IsStrictlySortedBy nat_cmp) (sym (map-append number (all_below n) (one_at n)))
      (elim (passes n) as (λ b. IsStrictlySortedBy nat_cmp (map number (all_below n) ++ map number (cond b (made n ∷ []) []))) [
        | true ↦ rises-push (map number (all_below n)) (number (made n)) (numbers_rise n) (λ m at. let lower = number-from_below n m at in let own = number-made n in omega (arith, lower.0, own))
        | false ↦ subst (IsStrictlySortedBy nat_cmp) (sym (append-nil (map number (all_below n)))) (numbers_rise n)
      ])

  pub numbers_distinct : (n : ℕ) → IsDistinct nat_eq (map number (all_below n))
  numbers_distinct n =
      IsDistinct-from_apart nat_eq (map number (all_below n)) (λ i j d lt within. ne_eqb _ _ (λ same. omega (arith, below_from_sorted (map number (all_below n)) i j d (numbers_rise n) lt within, same)))

-- ---- helpers

clash_itself : (x : RecordId) → is_clash x x ≡ true
clash_itself x = ap₂ (λ (a b : Bool). a && (b || is_none (field_of x) || is_none (field_of x))) (key_itself (key_of x)) (record_itself x)

-- ---- an image and its contents

abbrev entry_made : Record → Image → ℕ → EntryNo × Entry
entry_made r image i = (record { 0 = i }, counted_entry r image i)

abbrev no_made : ℕ → EntryNo
no_made i = record { 0 = i }

counted_is : (r : Record) (image : Image) (n : ℕ) → counted_below r image n ≡ all_below (λ (read : EntryNo × Entry). read.0.0) (is_counted r image) (entry_made r image) (λ i. refl) n
counted_is r image zero = refl
counted_is r image (suc n) = ap (λ reads. reads ++ counted_at r image n) (counted_is r image n)

gapped_is : (r : Record) (image : Image) (n : ℕ) → gapped_below r image n ≡ all_below (λ (entry : EntryNo). entry.0) (is_gapped r image) no_made (λ i. refl) n
gapped_is r image zero = refl
gapped_is r image (suc n) = ap (λ entries. entries ++ gapped_at r image n) (gapped_is r image n)

-- the entry as it is read holds the version of the image
version_read : (r : Record) (image : Image) (i : ℕ) → version_of r (counted_entry r image i) ≡ version_in r image i
version_read r image i = λ k. record (version_in r image i) { is_ended = end_counts (image (entry_word i 1)) (counts r (image (entry_word i 1))) refl k }
  where
    end_counts : (end : ℕ) (b : Bool) → counts r end ≡ b → counts r (cond b end 0) ≡ counts r end
    end_counts end true e = refl
    end_counts end false e = sym e

begun_at : (r : Record) (image : Image) (i : ℕ) → is_counted r image i ≡ true → version_at r image i ≡ Some (version_in r image i)
begun_at r image i begun = ap (λ b. cond b (Some (version_in r image i)) None) begun

version_found : (r : Record) (image : Image) (i : ℕ) (v : Version) → version_at r image i ≡ Some v → IsTrue (is_counted r image i) × (version_in r image i ≡ v)
version_found r image i v is = grind arith

module _ (contents : Contents) (image : Image) (shows : Shows contents image) where
  abbrev r : Record
  r = contents.current

  abbrev count : ℕ
  count = entries_of contents

  abbrev counted : List (EntryNo × Entry)
  counted = counted_below r image count

  abbrev gapped : List EntryNo
  gapped = gapped_below r image count

  within : (i : ℕ) (v : Version) → contents.versions i ≡ Some v → i < count
  within i v is =
      ⊎_elim (λ (lt : i < count). lt) (λ (past : count ≤ i). let none = shows.consistent.beyond i past in let both : None ≡ Some v = sym none ∙ is in cc) (cases_lt i count)

  shown : (i : ℕ) (v : Version) → contents.versions i ≡ Some v → IsTrue (is_counted r image i) × (version_in r image i ≡ v)
  shown i v is = version_found r image i v (shows.versions i (within i v is) ∙ is)

  read_from_version : (i : ℕ) (v : Version) → contents.versions i ≡ Some v → IsRead r counted i v
  read_from_version i v is =
      let told = shown i v is in
      record {
        entry = counted_entry r image i;
        listed = subst (λ reads. Contains reads (entry_made r image i)) (sym (counted_is r image count))
            (below-from_member (λ (read : EntryNo × Entry). read.0.0) (is_counted r image) (entry_made r image) (λ j. refl) count i (within i v is) told.0);
        version_is = version_read r image i ∙ told.1;
      }

  version_from_read : (i : ℕ) (v : Version) → IsRead r counted i v → contents.versions i ≡ Some v
  version_from_read i v read =
      let found = member-from_below (λ (other : EntryNo × Entry). other.0.0) (is_counted r image) (entry_made r image) (λ j. refl) count (record { 0 = i }, read.entry)
      (subst (λ reads. Contains reads (record { 0 = i }, read.entry)) (counted_is r image count) read.listed) in
      let same : found.0 ≡ i = ap (λ (other : EntryNo × Entry). other.0.0) found.3 in
      let entry : counted_entry r image found.0 ≡ read.entry = ap (λ (other : EntryNo × Entry). other.1) found.3 in
      ap contents.versions (sym same) ∙ sym (shows.versions found.0 found.1) ∙ begun_at r image found.0 found.2
      ∙ ap Some (sym (version_read r image found.0) ∙ ap (version_of r) entry ∙ read.version_is)

  ends : (read : EntryNo × Entry) → Contains counted read → (read.1.end ≡ 0) ⊎ IsTrue (counts r read.1.end)
  ends read m =
      let found = member-from_below (λ (other : EntryNo × Entry). other.0.0) (is_counted r image) (entry_made r image) (λ j. refl) count read
      (subst (λ reads. Contains reads read) (counted_is r image count) m) in
      subst (λ (other : EntryNo × Entry). (other.1.end ≡ 0) ⊎ IsTrue (counts r other.1.end)) found.3
      (end_or_none (image (entry_word found.0 1)) (counts r (image (entry_word found.0 1))) refl)
    where
      end_or_none : (end : ℕ) (b : Bool) → counts r end ≡ b → (cond b end 0 ≡ 0) ⊎ IsTrue (counts r (cond b end 0))
      end_or_none end true e = inr e
      end_or_none end false e = inl refl

  positions : (read : EntryNo × Entry) → Contains counted read → read.1.position ≤ r.position
  positions read m =
      let found = member-from_below (λ (other : EntryNo × Entry). other.0.0) (is_counted r image) (entry_made r image) (λ j. refl) count read
      (subst (λ reads. Contains reads read) (counted_is r image count) m) in
      subst (λ (other : EntryNo × Entry). other.1.position ≤ r.position) found.3 ((shows.rules.entries found.0 found.1).position found.2)

  -- ---- entries without a version

  gapped_member : (i : ℕ) → Contains (numbers_of gapped) i → (i < count) × (contents.is_free i ≡ false) × (contents.versions i ≡ None)
  gapped_member i m =
      let found = number-from_below (λ (entry : EntryNo). entry.0) (is_gapped r image) no_made (λ j. refl) count i (subst (λ entries. Contains (numbers_of entries) i) (gapped_is r image count) m) in
      let parts = and_parts (not (image (entry_word i 0) == 0)) (not (is_counted r image i)) found.1 in (
        found.0,
        shows.is_free i found.0 ∙ not-true (image (entry_word i 0) == 0) parts.0,
        sym (shows.versions i found.0) ∙ ap (λ b. cond b (Some (version_in r image i)) None) (not-true (is_counted r image i) parts.1),
      )

  gapped_listed : (i : ℕ) → (i < count) × (contents.is_free i ≡ false) × (contents.versions i ≡ None) → Contains (numbers_of gapped) i
  gapped_listed i told =
      let begun = ap not (sym (shows.is_free i told.0) ∙ told.1) in
      let uncounted : not (is_counted r image i) ≡ true = grind (arith, shows.versions i told.0, told.2) in
      subst (λ entries. Contains (numbers_of entries) i) (sym (gapped_is r image count))
      (mapped_member (λ (entry : EntryNo). entry.0) (all_below (λ (entry : EntryNo). entry.0) (is_gapped r image) no_made (λ j. refl) count) (no_made i)
      (below-from_member (λ (entry : EntryNo). entry.0) (is_gapped r image) no_made (λ j. refl) count i told.0 (ap₂ (λ (a b : Bool). a && b) begun uncounted)))

  -- ---- the versions are in order

  entry_of_live : (i : ℕ) (id : RecordId) (value : List ℕ) → IsLive (version_at r image) i id value → i < count → IsTrue (is_live r image i) × ((record_in image i).0 ≡ id)
  entry_of_live i id value live lt =
      let told = version_found r image i live.version live.begun in (
        ap₂ (λ (a b : Bool). a && not b) told.0 (ap (λ (v : Version). v.is_ended) told.1 ∙ live.not_ended),
        ap (λ (v : Version). v.id) told.1 ∙ live.id_is,
      )

  -- two live versions whose records clash are one
  same_entry : (i j : ℕ) (id other : RecordId) (value value' : List ℕ) → i < count → j < count → IsLive (version_at r image) i id value → IsLive (version_at r image) j other value' → is_clash id other ≡ true → i ≡ j
  same_entry i j id other value value' lt lt' live live' clash =
      ⊎_elim (λ (same : i ≡ j). same)
      (λ (differ : i ≡ j → ⊥).
      let own = entry_of_live i id value live lt in
      let own' = entry_of_live j other value' live' lt' in
      absurd (true≢false (sym clash ∙ ap₂ is_clash (sym own.1) (sym own'.1) ∙ shows.rules.distinct i j lt lt' differ own.0 own'.0)))
      (cases_eq i j)

  map_is : IsMapOf (version_at r image) count (map_below (version_at r image) count)
  map_is = IsMapOf-map_below (version_at r image) count (λ i j id v w lt lt' a b. same_entry i j id id v w lt lt' a b (clash_itself id))

  one_kind : (key field : List ℕ) (string other : Option (List ℕ)) → value_at (map_below (version_at r image) count) (Str key) ≡ string → value_at (map_below (version_at r image) count) (Field key field) ≡ other → IsSome string
      → other ≡ None
  one_kind key field string None e e' some = refl
  one_kind key field None (Some w) e e' some = cc
  one_kind key field (Some v) (Some w) e e' some =
      let live = map_is.held (Str key) v e in
      let live' = map_is.held (Field key field) w e' in
      let clash : is_clash (Str key) (Field key field) ≡ true = ap₂ (λ (a b : Bool). a && (b || true || false)) (key_itself key) (string_is_no_field key key field) in
      let same = same_entry live.0 live'.0 (Str key) (Field key field) v w live.1 live'.1 live.2 live'.2 clash in
      let own = entry_of_live live.0 (Str key) v live.2 live.1 in
      let own' = entry_of_live live'.0 (Field key field) w live'.2 live'.1 in
      let both : Str key ≡ Field key field = sym own.1 ∙ ap (λ i. (record_in image i).0) same ∙ own'.1 in
      cc

  lawful : IsKeyspace (map_below (version_at r image) count)
  lawful = record {
    sorted = is_sorted-map_below (version_at r image) count;
    one_kind = λ key field some. one_kind key field (value_at (map_below (version_at r image) count) (Str key)) (value_at (map_below (version_at r image) count) (Field key field)) refl refl some;
  }

  placed : (i : ℕ) (v : Version) → contents.versions i ≡ Some v → LiesIn contents.lines v
  placed i v is =
      let told = shown i v is in
      let entry = (shows.rules.entries i (within i v is)).whole told.0 in
      let lies : LiesIn contents.lines (version_in r image i) = record {
        some = subst (λ n. 0 < n) (sym entry.lines_are) (one_at_least (entry_bytes image i));
        above = entry.above;
        within = subst (λ n. image (entry_word i 3) + n ≤ contents.lines) (sym entry.lines_are) entry.in_format.extent;
      } in
      subst (LiesIn contents.lines) told.1 lies

  apart : (i j : ℕ) (v w : Version) → i ≢ j → contents.versions i ≡ Some v → contents.versions j ≡ Some w → AreApart v.first_line v.lines w.first_line w.lines
  apart i j v w differ is is' =
      let told = shown i v is in
      let told' = shown j w is' in
      subst₂ (λ (x y : Version). AreApart x.first_line x.lines y.first_line y.lines) told.1 told'.1 (shows.rules.apart i j (within i v is) (within j w is') differ told.0 told'.0)

  begun : (i : ℕ) (v : Version) → contents.versions i ≡ Some v → (i < count) × (contents.is_free i ≡ false)
  begun i v is =
      let lt = within i v is in (
        lt,
        shows.is_free i lt ∙ false_from_ne_true (image (entry_word i 0) == 0) (λ none.
            true≢false (sym (shown i v is).0 ∙ ap (counts r) (eqb-true (image (entry_word i 0)) 0 none))),
      )

  in_order : AreInOrder contents
  in_order = record {
    begun = begun;
    placed = placed;
    apart = apart;
    keyspace = map_below (version_at r image) count;
    lawful = lawful;
    map = IsMapOf-same (version_at r image) contents.versions count (map_below (version_at r image) count) shows.versions map_is;
  }

  -- what is read of the image are the lists of its contents
  pub read_is_of : AreOf contents (counted_below contents.current image (entries_of contents)) (gapped_below contents.current image (entries_of contents))
  read_is_of = record {
    lawful = in_order;
    once = subst (λ reads. IsDistinct nat_eq (numbers_read reads)) (sym (counted_is r image count)) (numbers_distinct (λ (read : EntryNo × Entry). read.0.0) (is_counted r image) (entry_made r image) (λ i. refl) count);
    versions = λ i v. (λ is. read_from_version i v is, λ read. version_from_read i v read);
    ends = ends;
    positions = positions;
    gapped_once = subst (λ entries. IsDistinct nat_eq (numbers_of entries)) (sym (gapped_is r image count)) (numbers_distinct (λ (entry : EntryNo). entry.0) (is_gapped r image) no_made (λ i. refl) count);
    gapped_are = λ i. (λ m. gapped_member i m, λ told. gapped_listed i told);
  }

  -- and in rising order
  pub read_rises : IsStrictlySortedBy nat_cmp (numbers_read (counted_below contents.current image (entries_of contents)))
  read_rises = subst (λ reads. IsStrictlySortedBy nat_cmp (numbers_read reads)) (sym (counted_is r image count)) (numbers_rise (λ (read : EntryNo × Entry). read.0.0) (is_counted r image) (entry_made r image) (λ i. refl) count)
