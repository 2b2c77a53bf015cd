-- The requests of a call, run one after another.
use Rattle.std.proofs.Common.{◌≡◌, ◌≢◌, ℕ, suc, ◌+◌, ◌-◌, ◌<◌, ◌≤◌, ◌||◌, false, map, length, take, drop, List, [], ◌∷◌, ◌++◌, Option, Some, None, refl, sym, ap, ap₂, subst, subst₂, ◌∙◌, arith, append-nil, append_assoc, take_all}
use Rattle.std.specs.Option.{option_map}
use Rattle.kv_types.specs.declared.change.Change.{Change}
use Rattle.kv_types.specs.declared.reply.Reply.{Reply}
use Rattle.kv_types.specs.Change.{changes_size}
use Rattle.kv_types.specs.Keyspace.{Keyspace, play_all}
use Rattle.multi_watch.specs.Session.{Session, modified_where}
use Rattle.multi_watch.specs.Modified.{modifies}
use Rattle.multi_watch.specs.Sessions.{Sessions, slot}
use Rattle.multi_watch.proofs.ModifiedLemmas.{modifies-none, modifies-append, modified_where-none, modified_where-same, modified_where-twice}
use Rattle.model.specs.declared.call.TheConstants.{MAX_CHANGE_TEXT_BYTES}
use Rattle.model.specs.declared.image.TheConstants.{COUNTER_LIMIT}
use Rattle.model.specs.declared.group.Part.{Part}
use Rattle.model.specs.declared.group.PlacedChange.{PlacedChange}
use Rattle.model.specs.Call.{MayStandAll, all_made, made}
use Rattle.model.specs.Group.{change_of, changes_of_part}
use Rattle.extent_heap.specs.Room.{Room}
use Rattle.mv_keyspace.specs.Table.{Table, records}
use Rattle.mv_keyspace.proofs.TableLemmas.{records-place_all}
use Rattle.mv_keyspace.proofs.EndedLemmas.{none-ended}
use Rattle.placing.specs.Left.{IsBeside}
use Rattle.placing.specs.Performs.{Performs, AddsTo, IsSamePart}
use Rattle.placing.proofs.AddingLemmas.{performs-none, changes-added, performs-more}
use Rattle.redis_core.specs.declared.running.Running.{Running}
use Rattle.redis_core.specs.Copying.{IsBefore}
use Rattle.redis_core.specs.Marking.{Marks}
use Rattle.redis_core.specs.Turn.{AreFullOnly, TakesRoom}
use Rattle.redis_core.specs.Stored.{Stored, AreUnderWay, IsSame, Makes, RunsRequest, last_after}

-- ---- marks

nothing_marked : (s : Keyspace) (o : Option Session) → o ≡ option_map (modified_where (modifies s [])) o
nothing_marked s None = refl
nothing_marked s (Some session) = ap Some (sym (modified_where-same (modifies s []) (λ own. false) (modifies-none s) session ∙ modified_where-none session))

pub marks-none : (s : Keyspace) (sessions : Sessions) → Marks s [] sessions sessions
marks-none s sessions = λ seat. nothing_marked s (slot sessions seat)

marked_twice : (s : Keyspace) (first more : List Change) (o : Option Session)
    → option_map (modified_where (modifies (play_all s first) more)) (option_map (modified_where (modifies s first)) o) ≡ option_map (modified_where (modifies s (first ++ more))) o
marked_twice s first more None = refl
marked_twice s first more (Some session) =
    ap Some (modified_where-twice (modifies s first) (modifies (play_all s first) more) session
    ∙ modified_where-same (λ own. modifies s first own || modifies (play_all s first) more own) (modifies s (first ++ more)) (λ own. sym (modifies-append s first more own)) session)

pub marks-append : (s : Keyspace) (first more : List Change) (a b c : Sessions) → Marks s first a b → Marks (play_all s first) more b c → Marks s (first ++ more) a c
marks-append s first more a b c marks marks' = λ seat.
    marks' seat ∙ ap (option_map (modified_where (modifies (play_all s first) more))) (marks seat) ∙ marked_twice s first more (slot a seat)

-- ---- keyspaces

pub keyspace_performed : (table : Table) (room : Room) (position : ℕ) (changes : List Change) (part : Part) (new : Table) (left : Room) → Performs table room position changes part new left
    → records new ≡ play_all (records table) changes
keyspace_performed table room position changes part new left performs =
    ap records performs.table_is ∙ records-place_all part.position table part.changes.items ∙ ap (play_all (records table)) performs.changes_are

-- what was added to a part is at its end
pub changes_after : (old : Part) (table : Table) (room : Room) (changes : List Change) (new : Part) (after : Table) (left : Room) → AddsTo old table room changes new after left
    → map change_of (take (length new.changes.items - length old.changes.items) (drop (length old.changes.items) new.changes.items)) ≡ changes
changes_after old table room changes new after left adds =
    ap (λ items. map change_of (take (length items - length old.changes.items) (drop (length old.changes.items) items))) adds.places.after_is
    ∙ ap (map change_of) (rest_of old.changes.items adds.places.placed) ∙ adds.places.changes_are
  where
    rest_of : (xs ys : List PlacedChange) → take (length (xs ++ ys) - length xs) (drop (length xs) (xs ++ ys)) ≡ ys
    rest_of [] ys = let all : length ys ≤ length ys - 0 = omega arith in take_all (length ys - 0) ys all
    rest_of (x ∷ xs) ys =
        let fewer : suc (length (xs ++ ys)) - suc (length xs) ≡ length (xs ++ ys) - length xs = omega arith in
        ap (λ n. take n (drop (length xs) (xs ++ ys))) fewer ∙ rest_of xs ys

keyspace_added : (old : Part) (table : Table) (room : Room) (changes : List Change) (new : Part) (after : Table) (left : Room) → AddsTo old table room changes new after left
    → records after ≡ play_all (records table) changes
keyspace_added old table room changes new after left adds =
    ap records adds.table_is ∙ records-place_all old.position table adds.places.placed ∙ ap (play_all (records table)) adds.places.changes_are

-- ---- a request that changed nothing

pub adds-none : (old new : Part) (table : Table) (room : Room) → IsSamePart old new → AddsTo old table room [] new table room
adds-none old new table room same = record {
  position = same.position;
  places = record { placed = []; after_is = same.changes ∙ sym (append-nil old.changes.items); changes_are = refl; places = refl };
  table_is = refl;
  more = [];
  ended_are = same.ended ∙ sym (append-nil old.ended.items);
  ended = none-ended old.position table;
}

pub makes-none : (s : Stored) (old new : Part) → IsSamePart old new → Makes s [] old new s
makes-none s old new same = record {
  adds = adds-none old new s.table s.room same;
  marks = marks-none (records s.table) s.sessions;
  counted = λ some. absurd (some refl);
  copy = λ before. refl;
  last = refl;
}

pub makes-empty : (s : Stored) (changes : List Change) (part : Part) → length changes ≡ 0 → Makes s changes part part s
makes-empty s [] part none = makes-none s part part (record { position = refl; changes = refl; ended = refl })
makes-empty s (change ∷ changes) part none = absurd (omega (arith, none))

pub same-running : (running : Running) → IsSame running running
same-running running = record { part = record { position = refl; changes = refl; ended = refl }; left = refl }

-- ---- before the first request

pub underway-begin : (start : Stored) (position : ℕ) (requests : List (List (List ℕ))) (running : Running) → IsBeside start.table start.room
    → running.part.position ≡ position → running.part.changes.items ≡ [] → running.part.ended.items ≡ [] → running.left ≡ MAX_CHANGE_TEXT_BYTES
    → AreUnderWay start position requests [] requests running start
underway-begin start position requests running beside at changes ended all =
    let s = records start.table in
    let none : changes_of_part running.part ≡ [] = ap (map change_of) changes in
    record {
      stand = λ used later e all_stand.
          let zero : used ≡ 0 = omega (arith, e, all) in
          subst (λ n. MayStandAll s n requests later) zero all_stand;
      made = λ later. sym (ap (λ (cs : List Change). cs ++ all_made s requests later) none);
      full = λ later left all. all;
      most = omega (arith, all);
      beside = beside;
      performs = subst (λ (cs : List Change). Performs start.table start.room position cs running.part start.table start.room) (sym none)
          (performs-none running.part position start.table start.room at changes ended);
      marks = subst (λ (cs : List Change). Marks s cs start.sessions start.sessions) (sym none) (marks-none s start.sessions);
      counted = λ some. absurd (some none);
      copy = λ before. refl;
      last = sym (ap (last_after start.last position) none);
    }

-- ---- one more request

module _ (start : Stored) (position : ℕ) (requests : List (List (List ℕ))) (replies : List Reply) (words : List (List ℕ)) (rest : List (List (List ℕ))) (running : Running) (now : Stored)
    (reply : Reply) (after : Running) (new : Stored) (under : AreUnderWay start position requests replies (words ∷ rest) running now) (runs : RunsRequest now words running reply after new) where
  abbrev s0 : Keyspace
  s0 = records start.table

  abbrev s1 : Keyspace
  s1 = records now.table

  abbrev these : List Change
  these = made s1 words reply

  abbrev before : List Change
  before = changes_of_part running.part

  keyspace_new : records new.table ≡ play_all s1 these
  keyspace_new = keyspace_added running.part now.table now.room these after.part new.table new.room runs.makes.adds

  keyspace_now : s1 ≡ play_all s0 before
  keyspace_now = keyspace_performed start.table start.room position before running.part now.table now.room under.performs

  part_now : changes_of_part after.part ≡ before ++ these
  part_now = changes-added running.part now.table now.room these after.part new.table new.room runs.makes.adds

  stands_more : (used : ℕ) (later : List Reply) → used + after.left ≡ MAX_CHANGE_TEXT_BYTES → MayStandAll (records new.table) used rest later
      → MayStandAll s0 0 requests ((replies ++ reply ∷ []) ++ later)
  stands_more used later e all =
      let earlier = MAX_CHANGE_TEXT_BYTES - running.left in
      let whole : earlier + running.left ≡ MAX_CHANGE_TEXT_BYTES = omega (arith, under.most) in
      let used_is : used ≡ earlier + changes_size these = omega (arith, whole, runs.left, e) in
      let others : MayStandAll (play_all s1 these) (earlier + changes_size these) rest later = subst₂ (λ (s : Keyspace) n. MayStandAll s n rest later) keyspace_new used_is all in
      subst (MayStandAll s0 0 requests) (sym (append_assoc replies (reply ∷ []) later)) (under.stand earlier (reply ∷ later) whole (runs.stands earlier whole, others))

  made_more : (later : List Reply) → all_made s0 requests ((replies ++ reply ∷ []) ++ later) ≡ changes_of_part after.part ++ all_made (records new.table) rest later
  made_more later =
      ap (all_made s0 requests) (append_assoc replies (reply ∷ []) later) ∙ under.made (reply ∷ later)
      ∙ ap (λ (s : Keyspace). before ++ (these ++ all_made s rest later)) (sym keyspace_new)
      ∙ sym (append_assoc before these (all_made (records new.table) rest later))
      ∙ ap (λ (cs : List Change). cs ++ all_made (records new.table) rest later) (sym part_now)

  full_more : (later : List Reply) (left : Room) → AreFullOnly (records new.table) new.room rest later left → AreFullOnly s0 start.room requests ((replies ++ reply ∷ []) ++ later) left
  full_more later left all =
      let places = runs.makes.adds.places in
      let takes : TakesRoom now.room these new.room = record { placed = places.placed; changes_are = places.changes_are; places = places.places } in
      subst (λ (rs : List Reply). AreFullOnly s0 start.room requests rs left) (sym (append_assoc replies (reply ∷ []) later))
      (under.full (reply ∷ later) left (runs.full_only, new.room, takes, subst (λ (s : Keyspace). AreFullOnly s new.room rest later left) keyspace_new all))

  performs_more : Performs start.table start.room position (changes_of_part after.part) after.part new.table new.room
  performs_more =
      let at = under.performs.position_is in
      let had = subst (λ p. Performs start.table start.room p before running.part now.table now.room) (sym at) under.performs in
      subst₂ (λ p (cs : List Change). Performs start.table start.room p cs after.part new.table new.room) at (sym part_now)
      (performs-more start.table start.room before running.part now.table now.room these after.part new.table new.room under.beside had runs.makes.adds)

  counted_by : (cs : List Change) → these ≡ cs → changes_of_part after.part ≢ [] → position < COUNTER_LIMIT
  counted_by [] e some = under.counted (λ none. some (part_now ∙ ap₂ (λ (xs ys : List Change). xs ++ ys) none e))
  counted_by (change ∷ changes) e some =
      let below : running.part.position < COUNTER_LIMIT = runs.makes.counted (λ none. not_none change changes (sym e ∙ none)) in
      omega (arith, below, under.performs.position_is)
    where
      not_none : (change : Change) (changes : List Change) → change ∷ changes ≡ [] → ⊥
      not_none change changes h = cc

  copy_more : IsBefore start.copy position → new.copy ≡ start.copy
  copy_more earlier =
      let same = under.copy earlier in
      runs.makes.copy (subst₂ IsBefore (sym same) (sym under.performs.position_is) earlier) ∙ same

  last_twice : (last at : ℕ) (first more : List Change) → last_after (last_after last at first) at more ≡ last_after last at (first ++ more)
  last_twice last at [] more = refl
  last_twice last at (change ∷ first) [] = refl
  last_twice last at (change ∷ first) (other ∷ more) = omega arith

  last_more : new.last ≡ last_after start.last position (changes_of_part after.part)
  last_more =
      runs.makes.last ∙ ap₂ (λ (last at : ℕ). last_after last at these) under.last under.performs.position_is
      ∙ last_twice start.last position before these ∙ ap (last_after start.last position) (sym part_now)

  pub underway-more : AreUnderWay start position requests (replies ++ reply ∷ []) rest after new
  underway-more = record {
    stand = stands_more;
    made = made_more;
    full = full_more;
    most = omega (arith, runs.left, under.most);
    beside = under.beside;
    performs = performs_more;
    marks = subst (λ (cs : List Change). Marks s0 cs start.sessions new.sessions) (sym part_now)
        (marks-append s0 before these start.sessions now.sessions new.sessions under.marks (subst (λ (s : Keyspace). Marks s these now.sessions new.sessions) keyspace_now runs.makes.marks));
    counted = counted_by these refl;
    copy = copy_more;
    last = last_more;
  }

-- ---- after the last

module _ (start : Stored) (position : ℕ) (requests : List (List (List ℕ))) (replies : List Reply) (running : Running) (now : Stored) (under : AreUnderWay start position requests replies [] running now) where
  pub ran-stand : MayStandAll (records start.table) 0 requests replies
  ran-stand =
      let whole : (MAX_CHANGE_TEXT_BYTES - running.left) + running.left ≡ MAX_CHANGE_TEXT_BYTES = omega (arith, under.most) in
      subst (MayStandAll (records start.table) 0 requests) (append-nil replies) (under.stand (MAX_CHANGE_TEXT_BYTES - running.left) [] whole tt)

  pub ran-made : all_made (records start.table) requests replies ≡ changes_of_part running.part
  ran-made = ap (all_made (records start.table) requests) (sym (append-nil replies)) ∙ under.made [] ∙ append-nil (changes_of_part running.part)

  pub ran-full : AreFullOnly (records start.table) start.room requests replies now.room
  ran-full = subst (λ (rs : List Reply). AreFullOnly (records start.table) start.room requests rs now.room) (append-nil replies) (under.full [] now.room refl)
