-- What the tables follow once versions are made again one after another, and what the engine may be asked for.
use Rattle.std.proofs.Common.{◌≡◌, ℕ, ◌+◌, ◌<◌, ◌≤◌, ◌||◌, ◌&&◌, ◌⊎◌, inl, inr, Bool, true, false, cond, not, IsTrue, List, [], ◌∷◌, ◌++◌, length, map, Contains, nat_eq, Option, Some, None, refl, sym, ap, subst, ◌∙◌, arith, append-nil, append_assoc}
use Rattle.std.proofs.lemmas.Bool.{and_parts, both_ways, cases_Bool, false_from_ne_true, not-true, or_cases, or_left, or_right, true≢false}
use Rattle.std.proofs.lemmas.Option.{none-some}
use Rattle.std.specs.List.{AllByRecursion, IsDistinct}
use Rattle.kv_types.specs.declared.place.EntryNo.{EntryNo}
use Rattle.kv_types.specs.declared.record_id.RecordId.{RecordId}
use Rattle.model.specs.declared.group.Part.{Part}
use Rattle.model.specs.declared.group.PlacedChange.{PlacedChange}
use Rattle.model.specs.declared.group.PlacedChange.TheVariants as placed
use Rattle.model.specs.declared.group.Put.{Put}
use Rattle.model.specs.declared.group.TheConstants.{MAX_PARTS}
use Rattle.model.specs.declared.record.Record.{Record}
use Rattle.model.specs.Group.{AreEnded as AreEndedIn, Contents, IsConsistent, IsPlaced, IsUnused, NamesEnded, Versions, change_of, changes_versions, ended_by, ended_where_begun, entries_of, is_ended_version, is_listed, is_live_version, is_put_at, part_versions, parts_versions, puts_of_part, version_of_put}
use Rattle.model.specs.Image.{Image, IsMapOf, Version}
use Rattle.model.proofs.DirectoryLemmas.{ended-directory}
use Rattle.model.proofs.GroupsLemmas.{changes_versions-none, is_put_at-append, parts_versions-none}
use Rattle.model.proofs.MapLemmas.{IsMapOf-unique}
use Rattle.extent_heap.specs.Room.{Room}
use Rattle.mv_keyspace.specs.Row.{numbers_of}
use Rattle.mv_keyspace.specs.Table.{IsCellOf, IsTable, Table, records}
use Rattle.mv_keyspace.proofs.DistinctLemmas.{distinct-append, distinct-none}
use Rattle.mv_keyspace.proofs.PartTables.{AreDistinct, IsTable-changes, map-from_table, names-ended}
use Rattle.mv_keyspace.proofs.VersionTables.{AreEmpty}
use Rattle.placing.specs.Back.{HasOut}
use Rattle.placing.specs.Left.{IsLeftOf}
use Rattle.placing.proofs.CountLemmas.{AreBelow as AreEntriesBelow, changes_counted}
use Rattle.placing.proofs.EndedLemmas.{AreEnded-from_members}
use Rattle.placing.proofs.LeftLemmas.{left-after, left_within, placed_of_free, unused_of_free}
use Rattle.placing.proofs.MemberLemmas.{listed-from_member, member-from_listed}
use Rattle.placing.proofs.TakenLemmas.{All-map, AreDistinct-from_apart, IsFree, not_put_at_free}
use Rattle.wbl_engine.specs.Contents.{Keeps, Same}
use Rattle.wbl_engine.specs.Relocating.{AreMadeAgain, ExhaustsRelocation, IsRelocation, MakesAgain, after_relocation}
use Rattle.wbl_engine.specs.Stage.{puts_of_parts}
use Rattle.wbl_engine.proofs.ApartLemmas.{IsFresh, part_apart}
use Rattle.wbl_engine.proofs.FreeingLemmas.{ended_within}
use Rattle.wbl_engine.proofs.PartEffects.{changes_kept, end_if_begun, is_put_at-among}
use Rattle.wbl_engine.proofs.PutPairs.{among-all}
use Rattle.wbl_engine.proofs.RelocatingLemmas.{relocated_lawful, relocated_map}
use Rattle.standby.specs.Following.{Follows, HasCountersFor, IsRearranged, Stood}
use Rattle.standby.specs.Moving.{AreMadeInTurn, IsMadeAgain, ended_of}
use Rattle.standby.proofs.EndedLemmas.{Same-is}
use Rattle.standby.proofs.MadeAgain.{AreTaken-again, AreTaken-turn}
use Rattle.standby.proofs.MovedLemmas.{position_below}
use Rattle.standby.proofs.PlacesTaken.{AreTaken}
use Rattle.standby.proofs.RearrangedLemmas.{Stood-self, Stood-then}

-- ---- lists of entries

listed_left : (i : ℕ) (xs ys : List EntryNo) → IsTrue (is_listed i xs) → IsTrue (is_listed i (xs ++ ys))
listed_left i [] ys is = absurd (true≢false (sym is))
listed_left i (x ∷ xs) ys is = elim (or_cases (nat_eq i x.0) (is_listed i xs) is) [
  | inl at ↦ or_left (nat_eq i x.0) (is_listed i (xs ++ ys)) at
  | inr more ↦ or_right (nat_eq i x.0) (is_listed i (xs ++ ys)) (listed_left i xs ys more)
]

listed_right : (i : ℕ) (xs ys : List EntryNo) → IsTrue (is_listed i ys) → IsTrue (is_listed i (xs ++ ys))
listed_right i [] ys is = is
listed_right i (x ∷ xs) ys is = or_right (nat_eq i x.0) (is_listed i (xs ++ ys)) (listed_right i xs ys is)

listed_either : (i : ℕ) (xs ys : List EntryNo) → IsTrue (is_listed i (xs ++ ys)) → IsTrue (is_listed i xs) ⊎ IsTrue (is_listed i ys)
listed_either i [] ys is = inr is
listed_either i (x ∷ xs) ys is = elim (or_cases (nat_eq i x.0) (is_listed i (xs ++ ys)) is) [
  | inl at ↦ inl (or_left (nat_eq i x.0) (is_listed i xs) at)
  | inr more ↦ elim (listed_either i xs ys more) [
    | inl first ↦ inl (or_right (nat_eq i x.0) (is_listed i xs) first)
    | inr second ↦ inr second
  ]
]

numbers-append : (xs ys : List EntryNo) → numbers_of (xs ++ ys) ≡ numbers_of xs ++ numbers_of ys
numbers-append [] ys = refl
numbers-append (x ∷ xs) ys = ap (λ (numbers : List ℕ). x.0 ∷ numbers) (numbers-append xs ys)

-- ---- one version

not_both : (old : Option Version) → IsTrue (is_live_version old) → IsTrue (is_ended_version old) → ⊥
not_both None live ended = true≢false (sym live)
not_both (Some version) live ended = true≢false (sym live ∙ ap not ended)

ended_still : (b : Bool) (old : Option Version) → IsTrue (is_ended_version old) → IsTrue (is_ended_version (end_if_begun b old))
ended_still b None ended = ended
ended_still b (Some version) ended = or_left version.is_ended b ended

live_or_none : (old : Option Version) → is_ended_version old ≡ false → IsTrue (is_live_version old) ⊎ (old ≡ None)
live_or_none None not_ended = inr refl
live_or_none (Some version) not_ended = inl (ap not not_ended)

module _ (contents : Contents) (table : Table) (room : Room) (ended : List EntryNo) (once : IsDistinct nat_eq (numbers_of ended)) (follows : Follows contents table room ended)
    (id : RecordId) (part : Part) (after : Table) (left : Room) (again : IsMadeAgain table room id part after left) where
  abbrev puts : List Put
  puts = puts_of_part part

  abbrev made : Versions
  made = part_versions contents.versions part

  abbrev pub moved : Contents
  moved = after_relocation contents (part ∷ [])

  cell_is : IsCellOf contents.versions id again.cell
  cell_is = follows.table_is.live id again.cell again.found

  pub makes : MakesAgain contents.versions part
  makes = record {
    put = again.put;
    changes = again.changes;
    entry = again.cell.entry;
    version = cell_is.live.version;
    held = cell_is.live.begun;
    live = cell_is.live.not_ended;
    id_is = cell_is.live.id_is ∙ sym again.id_is;
    value_is = cell_is.live.value_is ∙ sym again.value_is;
    position_is = sym cell_is.position_is ∙ sym again.position_is;
  }

  takes : AreTaken room puts left
  takes = AreTaken-again table room id part after left again

  empty : AreEmpty contents.versions puts
  empty = All-map (IsFree room) (λ (put : Put). contents.versions put.entry.0 ≡ None) (λ put is. (follows.left.entries put.entry.0 is.entry).2) puts takes.free

  distinct : AreDistinct puts
  distinct = AreDistinct-from_apart puts takes.apart

  pub names : NamesEnded contents.versions part
  names = names-ended contents.versions table part empty distinct follows.table_is again.ended

  -- ---- what has ended

  put_none : (i : ℕ) → IsTrue (is_put_at i puts) → contents.versions i ≡ None
  put_none i there =
      let at = is_put_at-among i puts there in
      ap contents.versions at.2 ∙ among-all (λ (put : Put). contents.versions put.entry.0 ≡ None) puts at.0 at.1 empty

  had_not : (i : ℕ) → IsTrue (is_ended_version (contents.versions i)) → is_put_at i puts ≡ false
  had_not i was = false_from_ne_true (is_put_at i puts) (λ there. true≢false (sym was ∙ ap is_ended_version (put_none i there)))

  still : (i : ℕ) → IsTrue (is_ended_version (contents.versions i)) → IsTrue (is_ended_version (made i))
  still i was =
      let kept = changes_kept part.position contents.versions part.changes.items i (had_not i was) in
      ap is_ended_version kept.is ∙ ended_still kept.test (contents.versions i) was

  was_live : (i : ℕ) → is_ended_version (contents.versions i) ≡ false → IsTrue (is_ended_version (made i)) → IsTrue (is_live_version (contents.versions i) || is_put_at i puts)
  was_live i not_ended is =
      elim (cases_Bool (is_put_at i puts)) [
        | inl put ↦ or_right (is_live_version (contents.versions i)) (is_put_at i puts) put
        | inr not_put ↦ elim (live_or_none (contents.versions i) not_ended) [
          | inl live ↦ or_left (is_live_version (contents.versions i)) (is_put_at i puts) live
          | inr none ↦ absurd (true≢false (sym is ∙ ap is_ended_version (changes_versions-none part.position contents.versions part.changes.items i none not_put)))
        ]
      ]

  listed_after : (i : ℕ) → IsTrue (is_ended_version (made i)) → IsTrue (is_listed i (ended ++ part.ended.items))
  listed_after i is = elim (cases_Bool (is_ended_version (contents.versions i))) [
    | inl was ↦ listed_left i ended part.ended.items (follows.all i was)
    | inr not_ended ↦ listed_right i ended part.ended.items (listed-from_member i part.ended.items ((names i).1 (was_live i not_ended is, is)))
  ]

  ended_listed : (i : ℕ) → IsTrue (is_listed i (ended ++ part.ended.items)) → IsTrue (is_ended_version (made i))
  ended_listed i is = elim (listed_either i ended part.ended.items is) [
    | inl first ↦ still i (ended_within contents ended i follows.listed first).1
    | inr second ↦ ((names i).0 (member-from_listed i part.ended.items second)).1
  ]

  -- none is named twice
  pub once-one : IsDistinct nat_eq (numbers_of (ended ++ part.ended.items))
  once-one =
      subst (IsDistinct nat_eq) (sym (numbers-append ended part.ended.items))
      (distinct-append (numbers_of ended) (numbers_of part.ended.items) once again.ended.once
      (λ i before now.
      let was = (ended_within contents ended i follows.listed (listed-from_member i ended before)).1 in
      elim (or_cases (is_live_version (contents.versions i)) (is_put_at i puts) ((names i).0 now).0) [
        | inl live ↦ not_both (contents.versions i) live was
        | inr put ↦ both_ways (is_put_at i puts) (had_not i was) put
      ]))

  -- ---- the tables

  consistent : IsConsistent moved
  consistent = record {
    free = λ i is.
        let both = and_parts (contents.is_free i) (not (is_put_at i (puts_of_parts (part ∷ [])))) is in
        parts_versions-none contents.versions (part ∷ []) i (follows.consistent.free i both.0) (not-true (is_put_at i (puts_of_parts (part ∷ []))) both.1);
    beyond = λ i over.
        parts_versions-none contents.versions (part ∷ []) i (follows.consistent.beyond i over) (ap (is_put_at i) (append-nil puts) ∙ none_over i over);
  }
    where
      none_over : (i : ℕ) → entries_of contents ≤ i → is_put_at i puts ≡ false
      none_over i over =
          false_from_ne_true (is_put_at i puts)
          (λ there.
          let at = is_put_at-among i puts there in
          let low = (follows.left.entries at.0.entry.0 (among-all (IsFree room) puts at.0 at.1 takes.free).entry).0 in
          let is = at.2 in
          omega (arith, over, low, is))

  left_now : IsLeftOf moved left
  left_now =
      let was = left-after contents.current.epoch contents left part (left_within contents left room takes.within follows.left) takes.taken in
      record { entries = was.entries; lines = was.lines; apart = was.apart }

  out_now : HasOut moved left 0
  out_now =
      let n = entries_of contents in
      let below = subst (λ (m : ℕ). AreEntriesBelow m puts) follows.out.end_entry takes.below in
      let more = changes_counted part.position contents.versions part.changes.items n below empty distinct in
      let held = takes.held in
      record {
        end_line = held.end_line ∙ follows.out.end_line;
        end_entry = held.end_entry ∙ follows.out.end_entry;
        held = omega (arith, more, held.held, follows.out.held);
      }

  fresh : AllByRecursion (IsFresh contents.versions) puts
  fresh = All-map (IsFree room) (IsFresh contents.versions) (λ put is. (unused_of_free contents room put follows.left is).lines) puts takes.free

  pub Follows-one : Follows moved after left (ended ++ part.ended.items)
  Follows-one = record {
    consistent = consistent;
    left = left_now;
    table_is = subst (IsTable made) (sym again.after_is) (IsTable-changes part.position contents.versions table part.changes.items empty distinct follows.table_is);
    apart = part_apart contents.versions part follows.apart fresh takes.apart;
    out = out_now;
    listed = AreEnded-from_members moved (ended ++ part.ended.items) once-one
        (λ i named.
        let is = ended_listed i (listed-from_member i (ended ++ part.ended.items) named) in
        (ended-directory moved consistent i is, is));
    all = listed_after;
  }

  -- ---- what stood before

  stood_where : (was : Option Version) → ((v : Version) → was ≡ Some v → Stood contents.versions v) → (change : PlacedChange) (version : Version)
      → ended_where_begun (change_of change) was ≡ Some version → Stood contents.versions version
  stood_where None stood change version is = cc
  stood_where (Some old) stood change version is =
      let from = stood old refl in
      let same : ended_by (change_of change) old ≡ version = cc in
      subst (Stood contents.versions) same
      (record {
        i = from.i;
        was = from.was;
        begun = from.begun;
        id_is = from.id_is;
        value_is = from.value_is;
        position_is = from.position_is;
        live = λ live. from.live (not_either old.is_ended _ live);
      })
    where
      not_either : (a b : Bool) → (a || b) ≡ false → a ≡ false
      not_either true b is = is
      not_either false b is = refl

  stood_put : (here : Bool) (rest : Option Version) → ((v : Version) → rest ≡ Some v → Stood contents.versions v) → (version : Version)
      → cond here (Some (version_of_put part.position again.put)) rest ≡ Some version → Stood contents.versions version
  unfolding makes
  stood_put true rest stood version is =
      let same : version_of_put part.position again.put ≡ version = cc in
      subst (Stood contents.versions) same
      (record {
        i = makes.entry;
        was = makes.version;
        begun = makes.held;
        id_is = makes.id_is;
        value_is = makes.value_is;
        position_is = makes.position_is;
        live = λ _. makes.live;
      })
  stood_put false rest stood version is = stood version is

  pub stood-one : (i : ℕ) (version : Version) → part_versions contents.versions part i ≡ Some version → Stood contents.versions version
  stood-one i version is =
      let now : changes_versions part.position contents.versions (placed.Put again.put ∷ []) i ≡ Some version =
      ap (λ (changes : List PlacedChange). changes_versions part.position contents.versions changes i) (sym again.changes) ∙ is in
      stood_put (nat_eq i again.put.entry.0) (ended_where_begun (change_of (placed.Put again.put)) (contents.versions i))
      (λ v held. stood_where (contents.versions i) (λ w begun. record { i = i; was = w; begun = begun; id_is = refl; value_is = refl; position_is = refl; live = λ live. live }) (placed.Put again.put) v held)
      version now

-- ---- contents that say the same under another record

AreEnded-under : (a b : Contents) (entries : List EntryNo) → entries_of b ≡ entries_of a → ((i : ℕ) → b.versions i ≡ a.versions i) → AreEndedIn a entries → AreEndedIn b entries
AreEnded-under a b [] same versions are = tt
AreEnded-under a b (entry ∷ entries) same versions are = (
  subst (λ (n : ℕ). entry.0 < n) (sym same) are.0,
  ap is_ended_version (versions entry.0) ∙ are.1,
  are.2,
  AreEnded-under a b entries same versions are.3,
)

abbrev numbered : Contents → ℕ → ℕ → ℕ → Contents
numbered a number cp cd = record a { current = record a.current { number = number; cp = cp; cd = cd } }

Follows-numbered : (a : Contents) (number cp cd : ℕ) (table : Table) (room : Room) (ended : List EntryNo) → Follows a table room ended → Follows (numbered a number cp cd) table room ended
Follows-numbered a number cp cd table room ended follows = record {
  consistent = record { free = follows.consistent.free; beyond = follows.consistent.beyond };
  left = record { entries = follows.left.entries; lines = follows.left.lines; apart = follows.left.apart };
  table_is = follows.table_is;
  apart = follows.apart;
  out = record { end_line = follows.out.end_line; end_entry = follows.out.end_entry; held = follows.out.held };
  listed = AreEnded-under a (numbered a number cp cd) ended refl (λ i. refl) follows.listed;
  all = follows.all;
}

Follows-as : (a b : Contents) (number cp cd : ℕ) (table : Table) (room : Room) (ended : List EntryNo) → Same (numbered a number cp cd) b → Follows a table room ended → Follows b table room ended
Follows-as a b number cp cd table room ended same follows = rw (Same-is (numbered a number cp cd) b same) (Follows-numbered a number cp cd table room ended follows)

-- ---- one after another

-- every version has this position or a lower one
abbrev pub AreBelow : ℕ → Versions → Type 0
AreBelow top versions = (i : ℕ) (version : Version) → versions i ≡ Some version → version.position ≤ top

-- what comes of the contents of a node once the parts are made in turn, of which these entries had ended before
pub record AreTurned (top : ℕ) (contents : Contents) (ended : List EntryNo) (parts : List Part) (after : Table) (left : Room) : Type 0 where
  pub each : AreMadeAgain top contents.versions parts
  pub follows : Follows (after_relocation contents parts) after left (ended ++ ended_of parts)
  pub stood : (i : ℕ) (version : Version) → parts_versions contents.versions parts i ≡ Some version → Stood contents.versions version

and_true : (b : Bool) → (b && true) ≡ b
and_true true = refl
and_true false = refl

and_not_or : (f a b : Bool) → (f && not (a || b)) ≡ ((f && not a) && not b)
and_not_or true true b = refl
and_not_or true false b = refl
and_not_or false a b = refl

pub turned : (top : ℕ) (parts : List Part) (contents : Contents) (table : Table) (room : Room) (ended : List EntryNo) → IsDistinct nat_eq (numbers_of ended)
    → Follows contents table room ended → AreBelow top contents.versions → (after : Table) (left : Room) → AreMadeInTurn table room parts after left
    → AreTurned top contents ended parts after left
turned top [] contents table room ended once follows below after left same = record {
  each = tt;
  follows =
      rw (same.0, same.1, append-nil ended)
      (Follows-as contents (after_relocation contents []) (after_relocation contents []).current.number (after_relocation contents []).current.cp (after_relocation contents []).current.cd table room ended
      (record { current = refl; lines = refl; versions = λ i. refl; is_free = λ i. and_true (contents.is_free i) }) follows);
  stood = λ i version is. Stood-self contents.versions i version is;
}
turned top (part ∷ parts) contents table room ended once follows below after left made =
    let id : RecordId = made.0 in
    let between : Table = made.1 in
    let mid : Room = made.2 in
    let next : Contents = after_relocation contents (part ∷ []) in
    let last : Contents = after_relocation contents (part ∷ parts) in
    let one = Follows-one contents table room ended once follows id part between mid made.3 in
    let again = makes contents table room ended once follows id part between mid made.3 in
    let before = stood-one contents table room ended once follows id part between mid made.3 in
    let rest =
    turned top parts next between mid (ended ++ part.ended.items) (once-one contents table room ended once follows id part between mid made.3) one
    (λ i version is. let was = before i version is in subst (λ (n : ℕ). n ≤ top) was.position_is (below was.i was.was was.begun)) after left made.4 in
    record {
      each = (
        subst (λ (n : ℕ). n ≤ top) again.position_is (below again.entry again.version again.held),
        again,
        names contents table room ended once follows id part between mid made.3,
        rest.each,
      );
      follows =
          subst (Follows (after_relocation contents (part ∷ parts)) after left) (append_assoc ended part.ended.items (ended_of parts))
          (Follows-as (after_relocation next parts) last last.current.number last.current.cp last.current.cd after left ((ended ++ part.ended.items) ++ ended_of parts)
          (record { current = refl; lines = refl; versions = λ i. refl; is_free = free contents.is_free }) rest.follows);
      stood = λ i version is. Stood-then contents.versions (parts_versions contents.versions (part ∷ [])) version before (rest.stood i version is);
    }
  where
    free : (is_free : ℕ → Bool) (i : ℕ)
        → (is_free i && not (is_put_at i (puts_of_parts (part ∷ parts))))
        ≡ ((is_free i && not (is_put_at i (puts_of_parts (part ∷ [])))) && not (is_put_at i (puts_of_parts parts)))
    free is_free i =
        ap (λ (b : Bool). is_free i && not b) (is_put_at-append i (puts_of_part part) (puts_of_parts parts))
        ∙ and_not_or (is_free i) (is_put_at i (puts_of_part part)) (is_put_at i (puts_of_parts parts))
        ∙ ap (λ (all : List Put). (is_free i && not (is_put_at i all)) && not (is_put_at i (puts_of_parts parts))) (sym (append-nil (puts_of_part part)))

-- ---- what is asked of the engine

module _ (contents : Contents) (table : Table) (room : Room) (follows : Follows contents table room []) (image : Image) (keeps : Keeps contents image)
    (parts : List Part) (after : Table) (left : Room) (made : AreMadeInTurn table room parts after left) where
  takes-all : AreTaken room (puts_of_parts parts) left
  takes-all = AreTaken-turn parts table room after left made

  now : AreTurned contents.current.position contents [] parts after left
  now =
      turned contents.current.position parts contents table room [] distinct-none follows
      (λ i version begun. position_below contents image follows.consistent keeps i version begun) after left made

  -- the tables follow what it makes of the contents
  pub Follows-turned : (new : Contents) → Same (after_relocation contents parts) new → Follows new after left (ended_of parts)
  Follows-turned new same = rw (Same-is (after_relocation contents parts) new same) now.follows

  module _ (some : 0 < length parts) (few : length parts ≤ MAX_PARTS) where
    pub relocates : IsRelocation contents parts
    relocates = record {
      some = some;
      few = few;
      each = now.each;
      placed = All-map (IsFree room) (IsPlaced (entries_of contents) contents.lines) (λ put. placed_of_free contents room put follows.left) (puts_of_parts parts) takes-all.free;
      fitting = takes-all.fitting;
      unused = All-map (IsFree room) (IsUnused contents.versions contents.is_free) (λ put. unused_of_free contents room put follows.left) (puts_of_parts parts) takes-all.free;
      apart = takes-all.apart;
    }

    pub rearranged-turned : ¬ ExhaustsRelocation (length parts) contents.current → IsRearranged contents (after_relocation contents parts)
    rearranged-turned room_left = record {
      position = refl;
      epoch = refl;
      role = refl;
      line_count = refl;
      map = relocated_map follows.consistent relocates;
      lawful = λ are. relocated_lawful contents parts are relocates room_left;
      stood = now.stood;
    }

    -- the same records stand in the table
    pub records-turned : records after ≡ records table
    records-turned =
        let n = entries_of contents in
        let was : IsMapOf contents.versions n (records table) = map-from_table contents.versions n table follows.consistent.beyond follows.table_is in
        IsMapOf-unique (map-from_table (parts_versions contents.versions parts) n after now.follows.consistent.beyond now.follows.table_is)
        (relocated_map follows.consistent relocates (records table) follows.table_is.keyspace was) now.follows.table_is.keyspace follows.table_is.keyspace

-- counters that are enough are not brought to their limit
pub not_exhausted-turned : (count : ℕ) (current : Record) → HasCountersFor count current → ¬ ExhaustsRelocation count current
not_exhausted-turned count current counters (inl stamps) = let is = counters.stamps in omega (arith, stamps, is)
not_exhausted-turned count current counters (inr number) = let is = counters.number in omega (arith, number, is)
