-- A call is over: its requests were run, and what they changed waits.
use Rattle.std.proofs.Common.{◌≡◌, ◌≢◌, ℕ, ◌+◌, ◌<◌, ◌≤◌, map, List, [], ◌∷◌, ◌++◌, length, Option, Some, None, refl, sym, ap, subst, subst₂, ◌∙◌, arith}
use Rattle.kv_types.specs.declared.change.Change.{Change}
use Rattle.kv_types.specs.declared.reply.Reply.{Reply}
use Rattle.multi_watch.specs.Sessions.{Sessions}
use Rattle.model.specs.declared.group.Part.{Part}
use Rattle.model.specs.declared.group.PlacedChange.{PlacedChange}
use Rattle.model.specs.declared.group.TheConstants.{MAX_PARTS}
use Rattle.model.specs.declared.image.TheConstants.{COUNTER_LIMIT}
use Rattle.model.specs.Group.{change_of, changes_of_part}
use Rattle.mv_keyspace.specs.Table.{place_all, puts_of, records}
use Rattle.placing.specs.Performs.{Performs}
use Rattle.placing.specs.Place.{TakesPlaces}
use Rattle.redis_core.specs.declared.running.Running.{Running}
use Rattle.redis_core.specs.Copying.{CopyOf, IsBefore}
use Rattle.redis_core.specs.Keeping.{IsReady}
use Rattle.redis_core.specs.Marking.{Marks}
use Rattle.redis_core.specs.Sequencing.{Sequencing}
use Rattle.redis_core.specs.Serving.{Finishes, Runs}
use Rattle.redis_core.specs.Stored.{AreUnderWay, Stored, last_after}
use Rattle.redis_core.specs.Turn.{AddsPart, AreFullOnly, Moves}
use Rattle.redis_core.proofs.RunningLemmas.{ran-full, ran-made, ran-stand}

pub moves_part : (changes : List Change) (old : Sequencing) (part : _) (new : Sequencing) → length changes ≢ 0 → AddsPart old part changes new → Moves changes old new
moves_part [] old part new some adds = absurd (some refl)
moves_part (change ∷ changes) old part new some adds = (part, adds)

abbrev pub stored : Sequencing → ℕ → Stored
stored s last = record { table = s.table; room = s.room; sessions = s.sessions; copy = s.copy; last = last }

-- where a part has changes, they are some
some_changes : (part : Part) → part.changes.items ≢ [] → changes_of_part part ≢ []
some_changes part some = λ none. some (no_items part.changes.items none)
  where
    no_items : (items : List PlacedChange) → map change_of items ≡ [] → items ≡ []
    no_items [] none = refl
    no_items (item ∷ items) none = cc

not_none : (item : PlacedChange) (items : List PlacedChange) → item ∷ items ≡ [] → ⊥
not_none item items h = cc

module _ (old new : Sequencing) (now : Stored) (requests : List (List (List ℕ))) (replies : List Reply) (running : Running) (last : ℕ)
    (under : AreUnderWay (stored old last) (old.position + 1) requests replies [] running now) (copied : IsBefore old.copy (old.position + 1))
    (over : Finishes old.position old.waiting running.part new.position new.waiting) (table : new.table ≡ now.table) (room : new.room ≡ now.room)
    (sessions : new.sessions ≡ now.sessions) (copy : new.copy ≡ now.copy) (epoch : new.epoch ≡ old.epoch) (before : new.before ≡ old.before) (ended : new.ended ≡ old.ended) (newest : new.newest ≡ old.newest) where
  moved_by : (items : List PlacedChange) → running.part.changes.items ≡ items → Moves (changes_of_part running.part) old new
  moved_by [] e =
      let over_none = over.none e in
      let same_table : new.table ≡ old.table = table ∙ under.performs.table_is ∙ ap (place_all running.part.position old.table) e in
      let same_room : new.room ≡ old.room = room ∙ subst (λ items. TakesPlaces old.room (puts_of items) now.room) e under.performs.places in
      subst (λ (cs : List Change). Moves cs old new) (sym (ap (map change_of) e)) (record { table = same_table; room = same_room; position = over_none.0; waiting = over_none.1 })
  moved_by (item ∷ items) e =
      let over_some = over.some (λ none. not_none item items (sym e ∙ none)) in
      moves_part (changes_of_part running.part) old running.part new (λ none. no_length item items (sym (ap (λ xs. length (map change_of xs)) e) ∙ none)) (record {
        performs = subst₂ (λ table room. Performs old.table old.room (old.position + 1) (changes_of_part running.part) running.part table room) (sym table) (sym room) under.performs;
        position = over_some.0;
        waiting = over_some.1;
      })
    where
      no_length : (item : PlacedChange) (items : List PlacedChange) → length (map change_of (item ∷ items)) ≡ 0 → ⊥
      no_length item items h = omega (arith, h)

  -- its requests were run, and what they changed waits
  pub runs-finished : Runs old requests replies new
  runs-finished =
      let same = ran-made (stored old last) (old.position + 1) requests replies running now under in
      record {
        stand = ran-stand (stored old last) (old.position + 1) requests replies running now under;
        full = subst (AreFullOnly (records old.table) old.room requests replies) (sym room) (ran-full (stored old last) (old.position + 1) requests replies running now under);
        moves = subst (λ (cs : List Change). Moves cs old new) (sym same) (moved_by running.part.changes.items refl);
        marks = subst₂ (λ (cs : List Change) (sessions : Sessions). Marks (records old.table) cs old.sessions sessions) (sym same) (sym sessions) under.marks;
        epoch = epoch;
        before = before;
        ended = ended;
        newest = newest;
        copy = copy ∙ under.copy copied;
      }

-- ---- what is kept true

before-later : (copy : Option CopyOf) (position later : ℕ) → position ≤ later → IsBefore copy position → IsBefore copy later
before-later None position later up before = tt
before-later (Some copy) position later up before = omega (arith, up, before)

pub ready-finished : (start now : Stored) (position : ℕ) (waiting : List Part) (capacity : ℕ) (requests : List (List (List ℕ))) (replies : List Reply) (rest : List (List (List ℕ))) (running : Running)
    (position' : ℕ) (waiting' : List Part) → AreUnderWay start (position + 1) requests replies rest running now → Finishes position waiting running.part position' waiting'
    → IsReady position waiting capacity start.copy start.last → length waiting < MAX_PARTS → IsReady position' waiting' capacity now.copy now.last
ready-finished start now position waiting capacity requests replies rest running position' waiting' under over ready few = by running.part.changes.items refl
  where
    copied : (later : ℕ) → position + 1 ≤ later → IsBefore now.copy later
    copied later up = subst (λ (copy : Option CopyOf). IsBefore copy later) (sym (under.copy ready.copied)) (before-later start.copy (position + 1) later up ready.copied)

    changed_by : (cs : List Change) → changes_of_part running.part ≡ cs → now.last ≡ last_after start.last (position + 1) cs
    changed_by cs e = under.last ∙ ap (last_after start.last (position + 1)) e

    by : (items : List PlacedChange) → running.part.changes.items ≡ items → IsReady position' waiting' capacity now.copy now.last
    by [] e =
        let none = over.none e in
        let last = changed_by [] (ap (map change_of) e) in
        record {
          counted = subst (λ p. p < COUNTER_LIMIT) (sym none.0) ready.counted;
          few = subst (λ (parts : List Part). length parts ≤ MAX_PARTS) (sym none.1) ready.few;
          has_room = ready.has_room;
          copied = copied (position' + 1) (omega (arith, none.0));
          changed = omega (arith, last, none.0, ready.changed);
        }
    by (item ∷ items) e =
        let some : running.part.changes.items ≢ [] = λ none. not_none item items (sym e ∙ none) in
        let after = over.some some in
        let at = under.performs.position_is in
        let last : now.last ≡ last_after start.last (position + 1) (map change_of (item ∷ items)) = changed_by (map change_of (item ∷ items)) (ap (map change_of) e) in
        let counted = under.counted (some_changes running.part some) in
        record {
          counted = omega (arith, counted, at, after.0);
          few = subst (λ (parts : List Part). length parts ≤ MAX_PARTS) (sym after.1) (omega (arith, few, added waiting running.part));
          has_room = ready.has_room;
          copied = copied (position' + 1) (omega (arith, after.0, at));
          changed = omega (arith, last, after.0, at, ready.changed);
        }
      where
        added : (parts : List Part) (part : Part) → length (parts ++ part ∷ []) ≡ length parts + 1
        added [] part = refl
        added (p ∷ parts) part = omega (arith, added parts part)
