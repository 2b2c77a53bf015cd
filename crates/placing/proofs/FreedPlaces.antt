-- Entries whose versions are freed, or that are cleared, come back to the heap, and so do the extents of those versions.
use Rattle.std.proofs.Common.{◌≡◌, ◌≢◌, ℕ, ◌+◌, ◌<◌, ◌≤◌, ◌||◌, ⊎_elim, Bool, true, false, cond, IsTrue, List, [], ◌∷◌, ◌++◌, length, nat_eq, Option, Some, None, refl, sym, ap, ap₂, subst, ◌∙◌, arith, eq-eqb, eqb-true, length-append}
use Rattle.std.proofs.lemmas.Bool.{false≢true, or_cases, or_left, or_right, or_parts, false_from_ne_true}
use Rattle.std.proofs.lemmas.List.{map-append}
use Rattle.std.specs.List.{AllByRecursion, IsDistinct, flat_map}
use Rattle.kv_types.specs.declared.change.Change.{Change}
use Rattle.kv_types.specs.declared.place.EntryNo.{EntryNo}
use Rattle.kv_types.specs.declared.place.Extent.{Extent}
use Rattle.extent_heap.specs.Extents.{is_line_of}
use Rattle.extent_heap.specs.Room.{Room, is_free_entry}
use Rattle.extent_heap.specs.Runs.{has_line}
use Rattle.extent_heap.proofs.RunsLemmas.{has_line-append, line_bounds, line_within}
use Rattle.model.specs.declared.group.Part.{Part}
use Rattle.model.specs.declared.group.PlacedChange.{PlacedChange}
use Rattle.model.specs.Group.{AreApart, AreEnded, Contents, Versions, after_free, change_of, put_of, puts_of_part, change_versions, changes_versions, part_versions, parts_versions, ended_where_begun, ends_record, extent_of, extents_of, is_ended_version, is_listed, is_put_at, entries_of}
use Rattle.model.specs.Image.{Version, first_extent_line}
use Rattle.model.proofs.DirectoryLemmas.{entries_same}
use Rattle.model.proofs.GroupsLemmas.{is_put_at-append}
use Rattle.mv_keyspace.specs.Row.{numbers_of}
use Rattle.mv_keyspace.proofs.DistinctLemmas.{distinct-append, distinct-one}
use Rattle.mv_keyspace.proofs.PartTables.{with_puts-other}
use Rattle.placing.specs.Back.{AreExtentsApart, ComesBack, HasOut, IsLineBack, count_versions, has_version}
use Rattle.placing.specs.Left.{HasNoFreeLine}
use Rattle.placing.specs.Read.{LiesIn}
use Rattle.placing.specs.Rebuilt.{IsLineOfVersion}
use Rattle.placing.proofs.BackLemmas.{listed-append}
use Rattle.placing.proofs.CountLemmas.{freed_counted, same_count}
use Rattle.placing.proofs.MemberLemmas.{distinct_none, first_or_later, no_member, listed-from_member}
use Rattle.placing.proofs.TakenLemmas.{All-append}

-- ---- extents of versions

-- the entries have the same extents at both times where each of them has
pub extents-ahead : (versions later : Versions) (entries : List EntryNo) → ((i : ℕ) → IsTrue (is_listed i entries) → extent_of (versions i) ≡ extent_of (later i)) → extents_of versions entries ≡ extents_of later entries
extents-ahead versions later [] same = refl
extents-ahead versions later (entry ∷ entries) same =
    ap₂ (λ (first rest : List Extent). first ++ rest) (same entry.0 (or_left (nat_eq entry.0 entry.0) (is_listed entry.0 entries) (eq-eqb entry.0 entry.0 refl)))
    (extents-ahead versions later entries (λ i listed. same i (or_right (nat_eq i entry.0) (is_listed i entries) listed)))

extent_where_begun : (change : Change) (entry : Option Version) → extent_of (ended_where_begun change entry) ≡ extent_of entry
extent_where_begun change None = refl
extent_where_begun change (Some version) = refl

-- an entry that no put takes keeps its extent
extent_after_change : (position : ℕ) (versions : Versions) (change : PlacedChange) (i : ℕ) → is_put_at i (put_of change) ≡ false → extent_of (change_versions position versions change i) ≡ extent_of (versions i)
extent_after_change position versions change i beside =
    ap extent_of (with_puts-other position (put_of change) (λ j. ended_where_begun (change_of change) (versions j)) i beside) ∙ extent_where_begun (change_of change) (versions i)

pub extent-after_changes : (position : ℕ) (versions : Versions) (changes : List PlacedChange) (i : ℕ) → is_put_at i (flat_map put_of changes) ≡ false → extent_of (changes_versions position versions changes i) ≡ extent_of (versions i)
extent-after_changes position versions [] i beside = refl
extent-after_changes position versions (change ∷ changes) i beside =
    let apart = or_parts (is_put_at i (put_of change)) (is_put_at i (flat_map put_of changes)) (sym (is_put_at-append i (put_of change) (flat_map put_of changes)) ∙ beside) in
    extent-after_changes position (change_versions position versions change) changes i apart.1 ∙ extent_after_change position versions change i apart.0

pub extent-after_parts : (versions : Versions) (parts : List Part) (i : ℕ) → is_put_at i (flat_map puts_of_part parts) ≡ false → extent_of (parts_versions versions parts i) ≡ extent_of (versions i)
extent-after_parts versions [] i beside = refl
extent-after_parts versions (part ∷ parts) i beside =
    let apart = or_parts (is_put_at i (puts_of_part part)) (is_put_at i (flat_map puts_of_part parts)) (sym (is_put_at-append i (puts_of_part part) (flat_map puts_of_part parts)) ∙ beside) in
    extent-after_parts (part_versions versions part) parts i apart.1 ∙ extent-after_changes part.position versions part.changes.items i apart.0

-- and so do all of them
pub extents-after_parts : (versions : Versions) (parts : List Part) (entries : List EntryNo) → ((i : ℕ) → IsTrue (is_listed i entries) → is_put_at i (flat_map puts_of_part parts) ≡ false)
    → extents_of (parts_versions versions parts) entries ≡ extents_of versions entries
extents-after_parts versions parts entries beside = extents-ahead (parts_versions versions parts) versions entries (λ i listed. extent-after_parts versions parts i (beside i listed))

-- ---- entries that have ended

either : {P : Type 0} (a b : Bool) → IsTrue (a || b) → (IsTrue a → P) → (IsTrue b → P) → P
either {P} a b some first second = ⊎_elim {C = P} first second (or_cases a b some)

first_listed : (entry : EntryNo) (entries : List EntryNo) → IsTrue (is_listed entry.0 (entry ∷ entries))
first_listed entry entries = or_left (nat_eq entry.0 entry.0) (is_listed entry.0 entries) (eq-eqb entry.0 entry.0 refl)

later_listed : (i : ℕ) (entry : EntryNo) (entries : List EntryNo) → IsTrue (is_listed i entries) → IsTrue (is_listed i (entry ∷ entries))
later_listed i entry entries listed = or_right (nat_eq i entry.0) (is_listed i entries) listed

-- each of them is in the directory, and has a version that has ended
pub ended_listed : (contents : Contents) (entries : List EntryNo) → AreEnded contents entries → (i : ℕ) → IsTrue (is_listed i entries)
    → (i < entries_of contents) × IsTrue (is_ended_version (contents.versions i))
ended_listed contents [] ended i listed = absurd (false≢true listed)
ended_listed contents (entry ∷ entries) ended i listed =
    either (nat_eq i entry.0) (is_listed i entries) listed
    (λ is. subst (λ k. (k < entries_of contents) × IsTrue (is_ended_version (contents.versions k))) (sym (eqb-true i entry.0 is)) (ended.0, ended.1))
    (λ rest. ended_listed contents entries ended.3 i rest)

begun_version : (entry : Option Version) → IsTrue (is_ended_version entry) → (version : Version) × (entry ≡ Some version)
begun_version None ended = absurd (false≢true ended)
begun_version (Some version) ended = (version, refl)

ended_not_none : (entry : Option Version) → IsTrue (is_ended_version entry) → entry ≡ None → ⊥
ended_not_none entry ended none = false≢true (sym (ap is_ended_version none) ∙ ended)

-- ---- entries of two lists

ended_once : (contents : Contents) (entries : List EntryNo) → AreEnded contents entries → IsDistinct nat_eq (numbers_of entries)
ended_once contents [] ended = distinct_none nat_eq
ended_once contents (entry ∷ entries) ended =
    distinct-append (entry.0 ∷ []) (numbers_of entries) (distinct-one entry.0) (ended_once contents entries ended.3)
    (λ i own m. grind (arith, ended.2, first_or_later entry.0 i [] own, no_member i, listed-from_member i entries m))

-- two lists without a common entry
pub once-append : (xs ys : List EntryNo) → IsDistinct nat_eq (numbers_of xs) → IsDistinct nat_eq (numbers_of ys) → ((i : ℕ) → IsTrue (is_listed i xs) → IsTrue (is_listed i ys) → ⊥)
    → IsDistinct nat_eq (numbers_of (xs ++ ys))
once-append xs ys once once' apart =
    rw map-append (distinct-append (numbers_of xs) (numbers_of ys) once once' (λ i m m'. apart i (listed-from_member i xs m) (listed-from_member i ys m')))

-- an entry of two lists is in one of them
listed_either : {P : Type 0} (i : ℕ) (xs ys : List EntryNo) → IsTrue (is_listed i (xs ++ ys)) → (IsTrue (is_listed i xs) → P) → (IsTrue (is_listed i ys) → P) → P
listed_either i xs ys listed = either (is_listed i xs) (is_listed i ys) (sym (listed-append i xs ys) ∙ listed)

line_either : {P : Type 0} (line : ℕ) (xs ys : List Extent) → IsTrue (has_line (xs ++ ys) line) → (IsTrue (has_line xs line) → P) → (IsTrue (has_line ys line) → P) → P
line_either line xs ys has = either (has_line xs line) (has_line ys line) (sym (has_line-append xs ys line) ∙ has)

-- ---- the same places of other contents

line_of_same : (versions other : Versions) → ((i : ℕ) → other i ≡ versions i) → (line : ℕ) → IsLineOfVersion other line → IsLineOfVersion versions line
line_of_same versions other same line is = record { i = is.i; version = is.version; begun = sym (same is.i) ∙ is.begun; from = is.from; before = is.before }

-- the other contents have the same versions, and are of the same layout and as many lines
module _ (contents other : Contents) (room : Room) (layout : other.current.layout ≡ contents.current.layout) (lines : other.lines ≡ contents.lines)
    (versions : (i : ℕ) → other.versions i ≡ contents.versions i) where
  entries_are : entries_of other ≡ entries_of contents
  entries_are = entries_same contents other layout lines

  line_back_same : (line : ℕ) → IsLineBack contents room line → IsLineBack other room line
  line_back_same line back = record {
    above = subst (λ n. first_extent_line n ≤ line) (sym lines) back.above;
    within = subst (λ n. line < n) (sym lines) back.within;
    none = λ is. back.none (line_of_same contents.versions other.versions versions line is);
    out = back.out;
  }

  out_same : (more : ℕ) → HasOut contents room more → HasOut other room more
  out_same more out =
      let n = entries_of contents in
      let held = out.held in
      let count = same_count contents.versions other.versions n (λ i lt. ap has_version (versions i)) in
      record {
        end_line = out.end_line ∙ sym lines;
        end_entry = out.end_entry ∙ sym entries_are;
        held = subst (λ k. count_versions other.versions k + more ≤ room.held) (sym entries_are) (omega (arith, held, count));
      }

  -- what comes back, comes back to a heap of the other contents, where what was free still is
  pub comes-back-same : (entries : List EntryNo) (extents : List Extent) → ((i : ℕ) → IsTrue (contents.is_free i) → IsTrue (other.is_free i)) → ComesBack contents room entries extents → ComesBack other room entries extents
  comes-back-same entries extents still back = record {
    once = back.once;
    entries_back = λ i listed.
        let was = back.entries_back i listed in
        record { within = subst (λ n. i < n) (sym entries_are) was.within; is_free = still i was.is_free; none = versions i ∙ was.none; out = was.out };
    apart = back.apart;
    some = back.some;
    lines_back = λ line has. line_back_same line (back.lines_back line has);
    out = out_same (length extents) back.out;
  }

  -- and so do entries that are cleared
  pub comes-back-cleared : (entries cleared : List EntryNo) (extents : List Extent) → ((i : ℕ) → other.is_free i ≡ (contents.is_free i || is_listed i cleared))
      → ((i : ℕ) → IsTrue (is_listed i cleared) → (i < entries_of contents) × (contents.is_free i ≡ false) × (contents.versions i ≡ None))
      → IsDistinct nat_eq (numbers_of cleared) → ((i : ℕ) → IsTrue (is_free_entry room i) → IsTrue (contents.is_free i)) → ComesBack contents room entries extents → ComesBack other room (entries ++ cleared) extents
  comes-back-cleared entries cleared extents freed were once free back =
      let kept = comes-back-same entries extents (λ i was. freed i ∙ or_left (contents.is_free i) (is_listed i cleared) was) back in
      record {
        once = once-append entries cleared back.once once (λ i listed listed'. false≢true (sym (were i listed').1 ∙ (back.entries_back i listed).is_free));
        entries_back = λ i listed.
            listed_either i entries cleared listed (kept.entries_back i)
            (λ new.
            let was = were i new in
            record {
              within = subst (λ n. i < n) (sym entries_are) was.0;
              is_free = freed i ∙ or_right (contents.is_free i) (is_listed i cleared) new;
              none = versions i ∙ was.2;
              out = false_from_ne_true (is_free_entry room i) (λ is. false≢true (sym was.1 ∙ free i is));
            });
        apart = kept.apart;
        some = kept.some;
        lines_back = kept.lines_back;
        out = kept.out;
      }

-- ---- extents of entries that have ended

-- the line is one of a version in one of the entries
record IsLineOfListed (versions : Versions) (entries : List EntryNo) (line : ℕ) : Type 0 where
  pub i : ℕ
  pub listed : IsTrue (is_listed i entries)
  pub version : Version
  pub begun : versions i ≡ Some version
  pub from : version.first_line ≤ line
  pub before : line < version.first_line + version.lines

line_of_later : (versions : Versions) (entry : EntryNo) (entries : List EntryNo) (line : ℕ) → IsLineOfListed versions entries line → IsLineOfListed versions (entry ∷ entries) line
line_of_later versions entry entries line is =
    record { i = is.i; listed = later_listed is.i entry entries is.listed; version = is.version; begun = is.begun; from = is.from; before = is.before }

line_of_extents : (versions : Versions) (entries : List EntryNo) (line : ℕ) → IsTrue (has_line (extents_of versions entries) line) → IsLineOfListed versions entries line
line_of_extents versions [] line has = absurd (false≢true has)
line_of_extents versions (entry ∷ entries) line has = first (λ rest. line_of_later versions entry entries line (line_of_extents versions entries line rest)) (versions entry.0) refl has
  where
    first : (IsTrue (has_line (extents_of versions entries) line) → IsLineOfListed versions (entry ∷ entries) line) → (held : Option Version) → versions entry.0 ≡ held
        → IsTrue (has_line (extent_of held ++ extents_of versions entries) line) → IsLineOfListed versions (entry ∷ entries) line
    first later None is has = later has
    first later (Some version) is has =
        let extent : Extent = record { first_line = version.first_line; lines = version.lines } in
        either (is_line_of extent line) (has_line (extents_of versions entries) line) has
        (λ here.
        let bounds = line_bounds extent line here in
        record { i = entry.0; listed = first_listed entry entries; version = version; begun = is; from = bounds.0; before = bounds.1 })
        later

all_extents : (P : Extent → Type 0) (versions : Versions) (entries : List EntryNo)
    → ((i : ℕ) (version : Version) → IsTrue (is_listed i entries) → versions i ≡ Some version → P (record { first_line = version.first_line; lines = version.lines })) → AllByRecursion P (extents_of versions entries)
all_extents P versions [] holds = tt
all_extents P versions (entry ∷ entries) holds = first (all_extents P versions entries (λ i version listed. holds i version (later_listed i entry entries listed))) (versions entry.0) refl
  where
    first : AllByRecursion P (extents_of versions entries) → (held : Option Version) → versions entry.0 ≡ held → AllByRecursion P (extent_of held ++ extents_of versions entries)
    first rest None is = rest
    first rest (Some version) is = (holds entry.0 version (first_listed entry entries) is, rest)

-- there are as many of them as entries
pub extents_of-length : (contents : Contents) (entries : List EntryNo) → AreEnded contents entries → length (extents_of contents.versions entries) ≡ length entries
extents_of-length contents [] ended = refl
extents_of-length contents (entry ∷ entries) ended =
    let rest = extents_of-length contents entries ended.3 in
    let begun = begun_version (contents.versions entry.0) ended.1 in
    omega (arith, rest, ap (λ held. length (extent_of held ++ extents_of contents.versions entries)) begun.1)

-- ---- extents that are apart

abbrev LiesBeside : Extent → Extent → Type 0
LiesBeside extent other = AreApart extent.first_line extent.lines other.first_line other.lines

apart_both : (xs ys : List Extent) → AreExtentsApart xs → AreExtentsApart ys → AllByRecursion (λ x. AllByRecursion (LiesBeside x) ys) xs → AreExtentsApart (xs ++ ys)
apart_both [] ys apart apart' beside = apart'
apart_both (x ∷ xs) ys apart apart' beside = (All-append (LiesBeside x) xs ys apart.0 beside.0, apart_both xs ys apart.1 apart' beside.1)

-- two runs without a common line
runs_apart : (first lines first' lines' : ℕ) → 0 < lines → 0 < lines' → ((line : ℕ) → first ≤ line → line < first + lines → first' ≤ line → line < first' + lines' → ⊥) → AreApart first lines first' lines'
runs_apart first lines first' lines' some some' none = decide (none first) (none first')
  where
    decide : (first ≤ first → first < first + lines → first' ≤ first → first < first' + lines' → ⊥) → (first ≤ first' → first' < first + lines → first' ≤ first' → first' < first' + lines' → ⊥) → AreApart first lines first' lines'
    decide here there = grind (arith, some, some')

-- a run that shares a line with two that are apart, at that line
not_both : (first lines first' lines' line : ℕ) → AreApart first lines first' lines' → first ≤ line → line < first + lines → first' ≤ line → line < first' + lines' → ⊥
not_both first lines first' lines' line apart from before from' before' =
    ⊎_elim (λ (below : first + lines ≤ first'). omega (arith, below, before, from')) (λ (above : first' + lines' ≤ first). omega (arith, above, before', from)) apart

-- ---- entries that are freed

-- The versions lie in the extents, and no two of them share a line.
module _ (contents : Contents) (placed : (i : ℕ) (version : Version) → contents.versions i ≡ Some version → LiesIn contents.lines version)
    (apart : (i j : ℕ) (version other : Version) → i ≢ j → contents.versions i ≡ Some version → contents.versions j ≡ Some other → AreApart version.first_line version.lines other.first_line other.lines) where
  extents_apart : (entries : List EntryNo) → AreEnded contents entries → AreExtentsApart (extents_of contents.versions entries)
  extents_apart [] ended = tt
  extents_apart (entry ∷ entries) ended = first (extents_apart entries ended.3) (contents.versions entry.0) refl
    where
      first : AreExtentsApart (extents_of contents.versions entries) → (held : Option Version) → contents.versions entry.0 ≡ held → AreExtentsApart (extent_of held ++ extents_of contents.versions entries)
      first rest None is = rest
      first rest (Some version) is = (
        all_extents (LiesBeside (record { first_line = version.first_line; lines = version.lines })) contents.versions entries
            (λ j other listed begun. apart entry.0 j version other (λ same. false≢true (sym ended.2 ∙ subst (λ k. IsTrue (is_listed k entries)) (sym same) listed)) is begun),
        rest,
      )

  -- extents of no version are apart from those of versions
  extents_beside : (extents : List Extent) (entries : List EntryNo) → AllByRecursion (λ (extent : Extent). 0 < extent.lines) extents
      → ((line : ℕ) → IsTrue (has_line extents line) → ¬ IsLineOfVersion contents.versions line) → AllByRecursion (λ extent. AllByRecursion (LiesBeside extent) (extents_of contents.versions entries)) extents
  extents_beside [] entries some none = tt
  extents_beside (extent ∷ extents) entries some none = (
    all_extents (LiesBeside extent) contents.versions entries
        (λ i version listed begun.
        runs_apart extent.first_line extent.lines version.first_line version.lines some.0 (placed i version begun).some
        (λ line from before from' before'.
        none line (or_left (is_line_of extent line) (has_line extents line) (line_within extent line from before)) (record { i = i; version = version; begun = begun; from = from'; before = before' }))),
    extents_beside extents entries some.1 (λ line has. none line (or_right (is_line_of extent line) (has_line extents line) has)),
  )

  module _ (room : Room) (entries : List EntryNo) (extents : List Extent) (ended : List EntryNo)
      (none : (i : ℕ) → IsTrue (is_free_entry room i) → contents.versions i ≡ None)
      (lines : (i : ℕ) (version : Version) → contents.versions i ≡ Some version → HasNoFreeLine room version.first_line version.lines)
      (are_ended : AreEnded contents ended)
      (back : ComesBack contents room entries extents) where
    left_begun : (gone : Bool) (held : Option Version) (version : Version) → cond gone None held ≡ Some version → (gone ≡ false) × (held ≡ Some version)
    left_begun true held version is = cc
    left_begun false held version is = (refl, is)

    -- what is a version's line afterwards was one of it, and it is not freed
    line_left : (line : ℕ) → IsLineOfVersion (after_free ended contents).versions line → (is : IsLineOfVersion contents.versions line) × (is_listed is.i ended ≡ false)
    line_left line is =
        let was = left_begun (is_listed is.i ended) (contents.versions is.i) is.version is.begun in
        (record { i = is.i; version = is.version; begun = was.1; from = is.from; before = is.before }, was.0)

    line_freed : (line : ℕ) → IsLineOfListed contents.versions ended line → IsLineBack (after_free ended contents) room line
    line_freed line of =
        let lies = placed of.i of.version of.begun in
        let low = lies.above in
        let high = lies.within in
        let from = of.from in
        let before = of.before in
        record {
          above = omega (arith, low, from);
          within = omega (arith, high, before);
          none = λ is.
              let was = line_left line is in
              let here = was.0 in
              not_both of.version.first_line of.version.lines here.version.first_line here.version.lines line
              (apart of.i here.i of.version here.version (λ same. false≢true (sym was.1 ∙ subst (λ k. IsTrue (is_listed k ended)) same of.listed)) of.begun here.begun) of.from of.before here.from here.before;
          out = (lines of.i of.version of.begun).none line of.from of.before;
        }

    -- the entries and the extents come back to the heap once the versions are freed
    pub comes-back-freed : ComesBack (after_free ended contents) room (entries ++ ended) (extents ++ extents_of contents.versions ended)
    comes-back-freed =
        let freed = extents_of contents.versions ended in
        let sum = length-append extents freed in
        let many = extents_of-length contents ended are_ended in
        let fewer = freed_counted contents ended are_ended in
        let held = back.out.held in
        record {
          once = once-append entries ended back.once (ended_once contents ended are_ended)
              (λ i listed listed'. ended_not_none (contents.versions i) (ended_listed contents ended are_ended i listed').1 (back.entries_back i listed).none);
          entries_back = λ i listed.
              listed_either i entries ended listed
              (λ first.
              let was = back.entries_back i first in
              record {
                within = was.within;
                is_free = or_left (contents.is_free i) (is_listed i ended) was.is_free;
                none = none_of_none (is_listed i ended) (contents.versions i) was.none;
                out = was.out;
              })
              (λ last.
              let was = ended_listed contents ended are_ended i last in
              record {
                within = was.0;
                is_free = or_right (contents.is_free i) (is_listed i ended) last;
                none = ap (λ gone. cond gone None (contents.versions i)) last;
                out = false_from_ne_true (is_free_entry room i) (λ is. ended_not_none (contents.versions i) was.1 (none i is));
              });
          apart = apart_both extents freed back.apart (extents_apart ended are_ended) (extents_beside extents ended back.some (λ line has. (back.lines_back line has).none));
          some = All-append (λ (extent : Extent). 0 < extent.lines) extents freed back.some
              (all_extents (λ (extent : Extent). 0 < extent.lines) contents.versions ended (λ i version listed begun. (placed i version begun).some));
          lines_back = λ line has.
              line_either line extents freed has
              (λ first.
              let was = back.lines_back line first in
              record { above = was.above; within = was.within; none = λ is. was.none (line_left line is).0; out = was.out })
              (λ last. line_freed line (line_of_extents contents.versions ended line last));
          out = record { end_line = back.out.end_line; end_entry = back.out.end_entry; held = omega (arith, held, sum, many, fewer) };
        }
      where
        none_of_none : (gone : Bool) (held : Option Version) → held ≡ None → cond gone None held ≡ None
        none_of_none true held is = refl
        none_of_none false held is = is

-- ---- entries that stay ended

ended_change_ended : (change : Change) (held : Option Version) → IsTrue (is_ended_version held) → IsTrue (is_ended_version (ended_where_begun change held))
ended_change_ended change None ended = ended
ended_change_ended change (Some version) ended = or_left version.is_ended (ends_record change version.id) ended

still_ended_change : (position : ℕ) (versions : Versions) (change : PlacedChange) (i : ℕ) → is_put_at i (put_of change) ≡ false → IsTrue (is_ended_version (versions i))
    → IsTrue (is_ended_version (change_versions position versions change i))
still_ended_change position versions change i beside ended =
    ap is_ended_version (with_puts-other position (put_of change) (λ j. ended_where_begun (change_of change) (versions j)) i beside) ∙ ended_change_ended (change_of change) (versions i) ended

still_ended_changes : (position : ℕ) (versions : Versions) (changes : List PlacedChange) (i : ℕ) → is_put_at i (flat_map put_of changes) ≡ false → IsTrue (is_ended_version (versions i))
    → IsTrue (is_ended_version (changes_versions position versions changes i))
still_ended_changes position versions [] i beside ended = ended
still_ended_changes position versions (change ∷ changes) i beside ended =
    let apart = or_parts (is_put_at i (put_of change)) (is_put_at i (flat_map put_of changes)) (sym (is_put_at-append i (put_of change) (flat_map put_of changes)) ∙ beside) in
    still_ended_changes position (change_versions position versions change) changes i apart.1 (still_ended_change position versions change i apart.0 ended)

-- a version that has ended stays so where no put takes its entry
pub still-ended : (versions : Versions) (parts : List Part) (i : ℕ) → is_put_at i (flat_map puts_of_part parts) ≡ false → IsTrue (is_ended_version (versions i)) → IsTrue (is_ended_version (parts_versions versions parts i))
still-ended versions [] i beside ended = ended
still-ended versions (part ∷ parts) i beside ended =
    let apart = or_parts (is_put_at i (puts_of_part part)) (is_put_at i (flat_map puts_of_part parts)) (sym (is_put_at-append i (puts_of_part part) (flat_map puts_of_part parts)) ∙ beside) in
    still-ended (part_versions versions part) parts i apart.1 (still_ended_changes part.position versions part.changes.items i apart.0 ended)

-- so entries that have ended have so in contents of the same layout and as many lines whose versions are those after parts
pub AreEnded-after_parts : (contents other : Contents) (parts : List Part) (entries : List EntryNo) → other.current.layout ≡ contents.current.layout → other.lines ≡ contents.lines
    → ((i : ℕ) → IsTrue (is_listed i entries) → other.versions i ≡ parts_versions contents.versions parts i)
    → ((i : ℕ) → IsTrue (is_listed i entries) → is_put_at i (flat_map puts_of_part parts) ≡ false) → AreEnded contents entries → AreEnded other entries
AreEnded-after_parts contents other parts [] layout lines after beside ended = tt
AreEnded-after_parts contents other parts (entry ∷ entries) layout lines after beside ended =
    let listed = first_listed entry entries in (
      subst (λ n. entry.0 < n) (sym (entries_same contents other layout lines)) ended.0,
      ap is_ended_version (after entry.0 listed) ∙ still-ended contents.versions parts entry.0 (beside entry.0 listed) ended.1,
      ended.2,
      AreEnded-after_parts contents other parts entries layout lines (λ i more. after i (later_listed i entry entries more)) (λ i more. beside i (later_listed i entry entries more)) ended.3,
    )
