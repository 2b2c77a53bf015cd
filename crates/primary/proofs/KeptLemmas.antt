-- What of its past a primary keeps while the standby goes on, while calls are made, and where a group or a list is closed.
use Rattle.std.proofs.Common.{◌≡◌, ℕ, ◌+◌, ◌≤◌, ◌++◌, Bool, true, false, List, [], ◌∷◌, suc, length, Result, Ok, Err, IfOk, OnOk, OnErr, Option, refl, sym, ap, subst, ◌∙◌, inl, inr, arith, add-zero, append-nil, le_refl}
use Rattle.kv_types.specs.declared.change.Change.{Change}
use Rattle.kv_types.specs.declared.item.Item.{Item}
use Rattle.kv_types.specs.declared.refusal.Refusal.{Refusal}
use Rattle.kv_types.specs.declared.reply.Reply.{Reply}
use Rattle.kv_types.specs.Keyspace.{Keyspace, play_all}
use Rattle.model.specs.declared.group.Group.{Group}
use Rattle.model.specs.declared.group.Part.{Part}
use Rattle.model.specs.declared.work.FreeList.{FreeList}
use Rattle.model.specs.declared.work.Work.{Work}
use Rattle.model.specs.declared.work.Work.TheVariants as work
use Rattle.model.specs.Call.{changes_of}
use Rattle.model.specs.Group.{AreEnded, Contents, IsConsistent, changes_of_part, entries_of}
use Rattle.model.specs.Image.{IsMapOf}
use Rattle.multi_watch.specs.Session.{Session}
use Rattle.mv_keyspace.specs.Table.{records}
use Rattle.wbl_engine.specs.declared.freeing.Freed.{Freed}
use Rattle.redis_core.specs.declared.turn.Turn.{Turn}
use Rattle.redis_core.specs.declared.turn.Turn.TheVariants as turn
use Rattle.redis_core.specs.Copying.{CopyOf}
use Rattle.redis_core.specs.Sequencing.{HandsOut, LeadsOn, MovesCopy, MovesSeat, Sequencing, state_of}
use Rattle.redis_core.specs.Turn.{Answers, Moves, OnServed, OnUnserved, call_of}
use Rattle.wbl_engine.specs.CommittingAll.{AreGroups}
use Rattle.group_commit.specs.Group.{after_work, groups_of, lists_of}
use Rattle.group_commit.specs.Working.{entries_of_lists}
use Rattle.group_commit.proofs.WorkLemmas.{AreGroups-of-work, lists_of-append}
use Rattle.pipes.specs.Waiting.{Waiting}
use Rattle.primary.specs.Closing.{ClosesGroup, ClosesList, ClosesOne, MayClose}
use Rattle.primary.specs.Leading.{Leads}
use Rattle.primary.specs.Recalling.{AgreeUpTo, Follows, KeepsPast, LeadAlong, Past, Recollects, Remembers}
use Rattle.primary.proofs.LeadsLemmas.{Leads-grouped}
use Rattle.primary.proofs.RecallGroups.{along-more, last-along, remembers-grouped, rises-groups}
use Rattle.primary.proofs.RecallLemmas.{remembers-later, remembers-listed, remembers-on}
use Rattle.primary.proofs.CommittedLemmas.{rises_within}

-- ---- the standby goes on

pub keeps-raised : (low low' : ℕ) (past : Past) (contents : Contents) (items : List Work) (aside : List FreeList) (s : Sequencing) → low ≤ low' → KeepsPast low past contents items aside s
    → KeepsPast low' past contents items aside s
keeps-raised low low' past contents items aside s rises keeps = record {
  now = keeps.now;
  follows = keeps.follows;
  remembers = remembers-on low low' contents.current.position past contents items aside s s rises refl refl keeps.remembers;
}

-- ---- the past grows

-- one part more
along-push : (past : Past) (from : ℕ) (parts : List Part) (part : Part) → LeadAlong past from parts → part.position ≡ from + length parts + 1
    → play_all (past (from + length parts)) (changes_of_part part) ≡ past (from + length parts + 1) → LeadAlong past from (parts ++ part ∷ [])
along-push past from [] part leads at played = (omega (arith, at), subst (λ n. play_all (past n) (changes_of_part part) ≡ past (n + 1)) (add-zero from) played, tt)
along-push past from (first ∷ parts) part leads at played =
    let same : from + suc (length parts) ≡ from + 1 + length parts = omega arith in (
      leads.0,
      leads.1,
      along-push past (from + 1) parts part leads.2 (omega (arith, at, same)) (subst (λ n. play_all (past n) (changes_of_part part) ≡ past (n + 1)) same played),
    )

-- what the sequencer was ahead of, and what it holds
module _ (past later : Past) (contents : Contents) (items : List Work) (aside : List FreeList) (notices : List Freed) (old new : Sequencing) (leads : Leads contents items aside old notices)
    (agree : AgreeUpTo old.position past later) where
  rises : old.before ≤ old.position
  rises =
      subst (λ n. old.before ≤ n) leads.stands.last (rises_within old.before (after_work contents items).versions old.waiting leads.stands.parts)

  behind : AreGroups contents (groups_of items)
  behind = AreGroups-of-work contents items leads.work_is

  reaches : contents.current.position ≤ old.position
  reaches = omega (arith, rises-groups contents (groups_of items) behind, leads.stands.before, rises)

  -- it listed what it had listed, and follows the past as it is now
  keeps-later : (low : ℕ) → new.ended ≡ old.ended → new.newest ≡ old.newest → Follows later new → KeepsPast low past contents items aside old → KeepsPast low later contents items aside new
  keeps-later low ended newest follows keeps = record {
    now = subst (IsMapOf contents.versions (entries_of contents)) (sym (agree contents.current.position reaches)) keeps.now;
    follows = follows;
    remembers = remembers-on low low contents.current.position later contents items aside old new (le_refl low) ended newest
        (remembers-later low contents.current.position old.position past later contents items aside old refl behind (omega (arith, leads.stands.before, rises)) agree keeps.remembers);
  }

  counts : Follows past old → old.before + length old.waiting ≡ old.position
  counts follows = sym (last-along past old.before old.waiting follows.waiting) ∙ leads.stands.last

  along : Follows past old → LeadAlong later old.before old.waiting
  along follows =
      along-more (λ p i. Unit {0}) (λ p i. Unit {0}) past later old.position (λ p i lt held. held) agree old.before old.waiting (omega (arith, counts follows)) follows.waiting

  -- what waits, with what a call adds
  along-moved : (changes : List Change) → Moves changes old new → records new.table ≡ play_all (records old.table) changes → later new.position ≡ records new.table → Follows past old
      → LeadAlong later old.before new.waiting
  along-moved [] moves played served follows = subst (LeadAlong later old.before) (sym moves.waiting) (along follows)
  along-moved (change ∷ changes) moves played served follows =
      let part = moves.0 in
      let adds = moves.1 in
      let count = counts follows in
      let here : later (old.before + length old.waiting) ≡ records old.table = ap later count ∙ agree old.position (le_refl old.position) ∙ sym follows.served in
      let next : new.position ≡ old.before + length old.waiting + 1 = omega (arith, adds.position, adds.performs.position_is, count) in
      let leads_on : play_all (later (old.before + length old.waiting)) (changes_of_part part) ≡ later (old.before + length old.waiting + 1) =
      ap (λ (s : Keyspace). play_all s (changes_of_part part)) here ∙ ap (play_all (records old.table)) adds.performs.changes_are ∙ sym played ∙ sym served ∙ ap later next in
      subst (LeadAlong later old.before) (sym adds.waiting)
      (along-push later old.before old.waiting part (along follows) (omega (arith, adds.performs.position_is, count)) leads_on)

-- ---- what a call of the sequencer does

-- it holds what it held, but its heap and its seats
record HoldsStill (old new : Sequencing) : Type 0 where
  table : new.table ≡ old.table
  position : new.position ≡ old.position
  before : new.before ≡ old.before
  waiting : new.waiting ≡ old.waiting
  ended : new.ended ≡ old.ended
  newest : new.newest ≡ old.newest

recollects-still : (old new : Sequencing) → HoldsStill old new → Recollects old new
recollects-still old new still low past later contents items aside notices leads agree served keeps =
    keeps-later past later contents items aside notices old new leads agree low still.ended still.newest
    (record {
      served = sym served;
      waiting = subst (λ n. LeadAlong later n new.waiting) (sym still.before)
          (subst (LeadAlong later old.before) (sym still.waiting) (along past later contents items aside notices old new leads agree keeps.follows));
    }) keeps

pub recollects-moved : (old new : Sequencing) (seat : ℕ) (now : Option Session) → MovesSeat old seat now new → Recollects old new
recollects-moved old new seat now moves =
    recollects-still old new
    (record { table = moves.table; position = moves.position; before = moves.before; waiting = moves.waiting; ended = moves.ended; newest = moves.newest })

pub recollects-same : (old new : Sequencing) → new ≡ old → Recollects old new
recollects-same old new same = subst (Recollects old) (sym same) (recollects-still old old (record { table = refl; position = refl; before = refl; waiting = refl; ended = refl; newest = refl }))

pub recollects-copied : (old : Sequencing) (copy : Option CopyOf) (new : Sequencing) → MovesCopy old copy new → Recollects old new
recollects-copied old copy new moves =
    subst (Recollects old) (sym moves)
    (recollects-still old (record old { copy = copy }) (record { table = refl; position = refl; before = refl; waiting = refl; ended = refl; newest = refl }))

pub recollects-answered : (old new : Sequencing) (seat : ℕ) (item : Item) (reply : Reply) → Answers old seat item reply new → Recollects old new
recollects-answered old new seat item reply answers low past later contents items aside notices leads agree served keeps =
    keeps-later past later contents items aside notices old new leads agree low answers.ended answers.newest
    (record {
      served = sym served;
      waiting = subst (λ n. LeadAlong later n new.waiting) (sym answers.before)
          (along-moved past later contents items aside notices old new leads agree (changes_of (state_of old) (call_of seat item reply)) answers.moves answers.keyspace served keeps.follows);
    }) keeps

-- a seat was opened, or nothing changed
pub recollects-seated : {X : Type 0} (result : Result X Refusal) (old new : Sequencing) (seat : ℕ) (now : Option Session) → OnOk result (MovesSeat old seat now new) → OnErr result (new ≡ old) → Recollects old new
recollects-seated (Ok x) old new seat now moves same = recollects-moved old new seat now moves
recollects-seated (Err refusal) old new seat now moves same = recollects-same old new same

-- a turn answered an item, or nothing changed
pub recollects-turned : (t : Turn) (old new : Sequencing) (A B : Type 0) → OnServed t A → OnUnserved t B → (A → Recollects old new) → (B → Recollects old new) → Recollects old new
recollects-turned turn.Served old new A B served unserved a b = a served
recollects-turned turn.Idle old new A B served unserved a b = b unserved
recollects-turned turn.Blocked old new A B served unserved a b = b unserved
recollects-turned turn.GroupFull old new A B served unserved a b = b unserved
recollects-turned turn.Ended old new A B served unserved a b = b unserved

-- ---- what was freed comes back

pub keeps-told : (low : ℕ) (past : Past) (contents : Contents) (items : List Work) (aside : List FreeList) (old new : Sequencing) → new ≡ record old { room = new.room }
    → KeepsPast low past contents items aside old → KeepsPast low past contents items aside new
keeps-told low past contents items aside old new after keeps =
    subst (KeepsPast low past contents items aside) (sym after)
    (record { now = keeps.now; follows = record { served = keeps.follows.served; waiting = keeps.follows.waiting }; remembers = record { earlier = keeps.remembers.earlier; groups = keeps.remembers.groups } })

-- ---- a group or a list is closed

-- behind one group more
module _ (low : ℕ) (past : Past) (contents : Contents) (items : List Work) (aside : List FreeList) (group : Group) (old new : Sequencing) (notices : List Freed)
    (consistent : IsConsistent contents) (hands : HandsOut old group new) (on : LeadsOn old group new) (leads : Leads contents items aside old notices) where
  abbrev grouped : List Work
  grouped = items ++ work.Commit group ∷ []

  remembers-behind : (position : ℕ) → contents.current.position ≡ position → LeadAlong past old.before old.waiting → Remembers low position past contents items aside old
      → Remembers low position past contents grouped aside new
  remembers-behind position at waiting remembers =
      let lists : lists_of grouped ≡ lists_of items = lists_of-append items (work.Commit group ∷ []) ∙ append-nil (lists_of items) in
      let led = Leads-grouped contents items aside group old new notices consistent hands on leads in
      remembers-grouped low position past contents (after_work contents grouped) items aside group old new at hands waiting
      (AreGroups-of-work contents items leads.work_is) leads.stands.before
      (subst (λ (xs : List FreeList). AreEnded (after_work contents grouped) (entries_of_lists (aside ++ xs) ++ new.ended)) lists led.listed) remembers

  pub keeps-grouped : KeepsPast low past contents items aside old → KeepsPast low past contents grouped aside new
  keeps-grouped keeps = record {
    now = keeps.now;
    follows = subst (Follows past) (sym hands.after) (record { served = keeps.follows.served; waiting = tt });
    remembers = remembers-behind contents.current.position refl keeps.follows.waiting keeps.remembers;
  }

module _ (low position : ℕ) (past : Past) (contents : Contents) (before after : Waiting Work) (aside : List FreeList) (old new : Sequencing) (notices : List Freed) (at : contents.current.position ≡ position)
    (consistent : IsConsistent contents) (leads : Leads contents before.items aside old notices) where
  -- behind one group more
  pub remembers-group : ClosesGroup old before new after → LeadAlong past old.before old.waiting → Remembers low position past contents before.items aside old
      → Remembers low position past contents after.items aside new
  remembers-group closes waiting remembers =
      subst (λ (xs : List Work). Remembers low position past contents xs aside new) (sym closes.last)
      (remembers-behind low past contents before.items aside closes.group old new notices consistent closes.hands closes.leads leads position at waiting remembers)

  -- behind one free list more
  pub remembers-list : ClosesList old before new after → Remembers low position past contents before.items aside old → Remembers low position past contents after.items aside new
  remembers-list closes remembers =
      subst (λ (xs : List Work). Remembers low position past contents xs aside new) (sym closes.last)
      (remembers-listed low position past contents before.items aside old new closes.list closes.hands remembers)

module _ (low : ℕ) (past : Past) (contents : Contents) (before after : Waiting Work) (aside : List FreeList) (old new : Sequencing) (notices : List Freed)
    (consistent : IsConsistent contents) (leads : Leads contents before.items aside old notices) (keeps : KeepsPast low past contents before.items aside old) where
  keeps-closed : ClosesOne old before new after → KeepsPast low past contents after.items aside new
  keeps-closed (inl group) =
      subst (λ (xs : List Work). KeepsPast low past contents xs aside new) (sym group.last)
      (keeps-grouped low past contents before.items aside group.group old new notices consistent group.hands group.leads leads keeps)
  keeps-closed (inr list) = record {
    now = keeps.now;
    follows = subst (Follows past) (sym list.hands.after) (record { served = keeps.follows.served; waiting = keeps.follows.waiting });
    remembers = remembers-list low contents.current.position past contents before after aside old new notices refl consistent leads list keeps.remembers;
  }

  pub close-keeps : (result : Result Bool Refusal) → IfOk result (λ did. did ≡ true → MayClose old before × ClosesOne old before new after)
      → IfOk result (λ did. did ≡ false → (¬ MayClose old before) × (new ≡ old) × (after ≡ before))
      → OnErr result (MayClose old before × (new ≡ old) × (after.items ≡ before.items)) → KeepsPast low past contents after.items aside new
  close-keeps (Ok true) closed none refused = keeps-closed (closed refl).1
  close-keeps (Ok false) closed none refused = let same = none refl in rw (same.2, same.1) keeps
  close-keeps (Err refusal) closed none refused = rw (refused.2, refused.1) keeps

-- the position stays
closed-at : (old : Sequencing) (before : Waiting Work) (new : Sequencing) (after : Waiting Work) → ClosesOne old before new after → new.position ≡ old.position
closed-at old before new after (inl group) = ap (λ (s : Sequencing). s.position) group.hands.after
closed-at old before new after (inr list) = ap (λ (s : Sequencing). s.position) list.hands.after

pub close-at : (before after : Waiting Work) (old new : Sequencing) (result : Result Bool Refusal) → IfOk result (λ did. did ≡ true → MayClose old before × ClosesOne old before new after)
    → IfOk result (λ did. did ≡ false → (¬ MayClose old before) × (new ≡ old) × (after ≡ before))
    → OnErr result (MayClose old before × (new ≡ old) × (after.items ≡ before.items)) → new.position ≡ old.position
close-at before after old new (Ok true) closed none refused = closed-at old before new after (closed refl).1
close-at before after old new (Ok false) closed none refused = ap (λ (s : Sequencing). s.position) (none refl).1
close-at before after old new (Err refusal) closed none refused = ap (λ (s : Sequencing). s.position) refused.1
