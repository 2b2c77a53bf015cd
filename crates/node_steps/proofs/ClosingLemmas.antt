-- Closing a group or a free list: what it takes from the sequencer, and what it adds to the queue.
use Rattle.std.proofs.Common.{rules, ◌≡◌, ◌≢◌, ◌⊎◌, ℕ, ◌+◌, ◌-◌, ◌<◌, ◌≤◌, ◌++◌, ◌||◌, Bool, true, false, cond, nat_lt, List, ◌∷◌, length, Option, suc, refl, sym, ap, ap₂, subst, ◌∙◌, arith, add-zero, inl, inr, le_refl, []}
use Rattle.std.proofs.lemmas.Bool.{and_from, false_from_ne_true, le-ltb, lt-ltb, ltb-true, or_cases, or_left, or_right}
use Rattle.std.specs.List.{flat_map}
use Rattle.kv_types.specs.declared.change.Change.{Change}
use Rattle.kv_types.specs.declared.place.EntryNo.{EntryNo}
use Rattle.model.specs.declared.call.Call.{Call}
use Rattle.model.specs.declared.group.Group.{Group}
use Rattle.model.specs.declared.group.Part.{Part}
use Rattle.model.specs.declared.work.FreeList.{FreeList}
use Rattle.model.specs.declared.work.Work.{Work}
use Rattle.model.specs.Call.{is_nonempty, position_of}
use Rattle.model.specs.Group.{changes_of_part, last_position}
use Rattle.model.specs.Position.{changes_since}
use Rattle.multi_watch.specs.Sessions.{slot}
use Rattle.redis_core.specs.Sequencing.{HandsList, HandsOut, Sequencing, ended_by_parts, newest_end}
use Rattle.machine.specs.declared.event.Event.TheVariants.{CloseGroup}
use Rattle.machine.specs.declared.event.TheConstants.{PIPE_ITEMS}
use Rattle.machine.specs.Event.{Closes, Work as MachineWork, World, closed_group, has_room, listed, may_happen, open_changes, with_committer, with_ended}
use Rattle.machine.proofs.SoundConnection.{both}
use Rattle.pipes.specs.Waiting.{Waiting}
use Rattle.primary.specs.Closing.{MayClose}
use Rattle.node_steps.specs.GroupSpan.{AreWorkOf, IsGroupOf, IsWorkOf}
use Rattle.connections.specs.Session.{AreOpen, SeatsFollow, SequencerRefines}
use Rattle.connections.proofs.SequencerLemmas.{follow-same}

-- ---- the parts that wait

-- their changes are those of the list from where they begin
changes-open : (calls : List Call) (from : ℕ) (parts : List Part) → AreOpen calls from parts → flat_map changes_of_part parts ≡ changes_since calls from (length parts)
changes-open calls from [] are = refl
changes-open calls from (part ∷ parts) are = ap₂ (λ (xs ys : List Change). xs ++ ys) are.1 (changes-open calls (from + 1) parts are.2)

-- and they end where the last of them ends
pub last-open : (calls : List Call) (from : ℕ) (parts : List Part) → AreOpen calls from parts → last_position from parts ≡ from + length parts
last-open calls from [] are = sym (add-zero from)
last-open calls from (part ∷ parts) are =
    let rest = last-open calls (from + 1) parts are.2 in
    ap (λ n. last_position n parts) are.0 ∙ rest ∙ omega arith

-- ---- the newest end

newest-same_first : (newest position : ℕ) (entries : List EntryNo) (parts : List Part) → (length (ended_by_parts parts) ≡ 0 → newest_end newest parts ≡ newest)
    → length (entries ++ ended_by_parts parts) ≡ 0 → newest_end (cond (is_nonempty entries) position newest) parts ≡ newest
newest-same_first newest position [] parts later none = later none
newest-same_first newest position (entry ∷ entries) parts later none = absurd (omega (arith, none))

-- it stays where the parts ended nothing
pub newest-same : (newest : ℕ) (parts : List Part) → length (ended_by_parts parts) ≡ 0 → newest_end newest parts ≡ newest
newest-same newest [] none = refl
newest-same newest (part ∷ parts) none = newest-same_first newest part.position part.ended.items parts (newest-same newest parts) none

-- once it is above a position it stays above it, and it is no further than the parts
pub newest-rises : (calls : List Call) (low from newest : ℕ) (parts : List Part) → AreOpen calls from parts → low < newest → newest ≤ from
    → (low < newest_end newest parts) × (newest_end newest parts ≤ from + length parts)
newest-rises calls low from newest [] are above below = (above, omega (arith, below))
newest-rises calls low from newest (part ∷ parts) are above below =
    let next = step (is_nonempty part.ended.items) in
    let rest = newest-rises calls low (from + 1) (cond (is_nonempty part.ended.items) part.position newest) parts are.2 next.0 next.1 in
    (rest.0, omega (arith, rest.1))
  where
    step : (ends : Bool) → (low < cond ends part.position newest) × (cond ends part.position newest ≤ from + 1)
    step true = (omega (arith, are.0, above, below), omega (arith, are.0))
    step false = (above, omega (arith, below))

newest-within_first : (calls : List Call) (from newest position : ℕ) (entries : List EntryNo) (parts : List Part) → AreOpen calls (from + 1) parts → position ≡ from + 1
    → (0 < length (ended_by_parts parts) → (from + 1 < newest_end newest parts) × (newest_end newest parts ≤ from + 1 + length parts)) → 0 < length (entries ++ ended_by_parts parts)
    → (from < newest_end (cond (is_nonempty entries) position newest) parts) × (newest_end (cond (is_nonempty entries) position newest) parts ≤ from + suc (length parts))
newest-within_first calls from newest position [] parts are at later some =
    let rest = later some in
    (omega (arith, rest.0), omega (arith, rest.1))
newest-within_first calls from newest position (entry ∷ entries) parts are at later some =
    let rest = newest-rises calls from (from + 1) position parts are (omega (arith, at)) (omega (arith, at)) in
    (rest.0, omega (arith, rest.1))

-- where they ended something, it is the position of one of them
pub newest-within : (calls : List Call) (from newest : ℕ) (parts : List Part) → AreOpen calls from parts → 0 < length (ended_by_parts parts)
    → (from < newest_end newest parts) × (newest_end newest parts ≤ from + length parts)
newest-within calls from newest [] are some = absurd (omega (arith, some))
newest-within calls from newest (part ∷ parts) are some =
    newest-within_first calls from newest part.position part.ended.items parts are.2 are.0 (newest-within calls (from + 1) newest parts are.2) some

-- ---- what the sequencer keeps

-- all parts leave
pub sequencer-handed : (calls : List Call) (closed : ℕ) (old new : Sequencing) (group : Group) → SequencerRefines calls closed old → HandsOut old group new → SequencerRefines calls (position_of calls) new
sequencer-handed calls closed old new group stands hands =
    subst (SequencerRefines calls (position_of calls)) (sym hands.after) (search (rules, stands.table, stands.position, add-zero (position_of calls)))

pub follow-handed : (calls : List Call) (seats : List (Option ℕ)) (old new : Sequencing) (group : Group) → HandsOut old group new → SeatsFollow calls seats old → SeatsFollow calls seats new
follow-handed calls seats old new group hands follow =
    follow-same calls seats seats old new (λ c seat has. (has, ap (λ (s : Sequencing). slot s.sessions seat) hands.after)) follow

-- all that is listed leaves
pub sequencer-listed : (calls : List Call) (closed : ℕ) (old new : Sequencing) (list : FreeList) → SequencerRefines calls closed old → HandsList old list new → SequencerRefines calls closed new
sequencer-listed calls closed old new list stands hands =
    subst (SequencerRefines calls closed) (sym hands.after) (search (rules, stands))

pub follow-listed : (calls : List Call) (seats : List (Option ℕ)) (old new : Sequencing) (list : FreeList) → HandsList old list new → SeatsFollow calls seats old → SeatsFollow calls seats new
follow-listed calls seats old new list hands follow =
    follow-same calls seats seats old new (λ c seat has. (has, ap (λ (s : Sequencing). slot s.sessions seat) hands.after)) follow

-- ---- the queue

-- the parts that left are the group of all positions after those that were closed
pub IsGroupOf-handed : (calls : List Call) (closed : ℕ) (old new : Sequencing) (group : Group) → SequencerRefines calls closed old → HandsOut old group new
    → IsGroupOf calls group (record { before = closed; after = position_of calls })
IsGroupOf-handed calls closed old new group stands hands =
    let count : position_of calls - closed ≡ length old.waiting = omega (arith, stands.count) in
    record {
      span_within = record { rising = omega (arith, stands.count, hands.some); within = le_refl (position_of calls); few = omega (arith, stands.count, hands.few) };
      before = hands.before ∙ stands.before;
      after = ap₂ last_position (hands.before ∙ stands.before) hands.all ∙ last-open calls closed old.waiting stands.waiting ∙ stands.count;
      changes = ap (flat_map changes_of_part) hands.all ∙ changes-open calls closed old.waiting stands.waiting ∙ sym (ap (changes_since calls closed) count);
    }

pub AreWorkOf-push : (calls : List Call) (items : List Work) (works : List MachineWork) (item : Work) (last : MachineWork) → AreWorkOf calls items works → IsWorkOf calls item last
    → AreWorkOf calls (items ++ item ∷ []) (works ++ last ∷ [])
AreWorkOf-push calls [] [] item last are is = (is, tt)
AreWorkOf-push calls (first ∷ items) (w ∷ works) item last are is = (are.0, AreWorkOf-push calls items works item last are.1 is)
AreWorkOf-push calls items works item last are is = absurd are

length-queue : (calls : List Call) (items : List Work) (works : List MachineWork) → AreWorkOf calls items works → length items ≡ length works
length-queue calls [] [] are = refl
length-queue calls (item ∷ items) (w ∷ works) are = ap suc (length-queue calls items works are.1)
length-queue calls items works are = absurd are

-- ---- where one of the two may be closed

some-of : {X : Type 0} (xs : List X) → xs ≢ [] → 0 < length xs
some-of [] some = absurd (some refl)
some-of (x ∷ xs) some = omega arith

-- where changes wait, or versions have ended, and there is room
pub may-close : (w : World) (waiting : Waiting Work) (s : Sequencing) → AreWorkOf w.primary.calls waiting.items w.primary.committer.waiting
    → SequencerRefines w.primary.calls w.primary.committer.closed s → length s.ended ≡ w.primary.ended → MayClose s waiting → may_happen w CloseGroup ≡ true
may-close w waiting s are stands ended may =
    and_from (nat_lt 0 (open_changes w) || nat_lt 0 w.primary.ended) (has_room w.primary.committer.waiting) (some may.0)
    (lt-ltb (length w.primary.committer.waiting) PIPE_ITEMS (omega (arith, may.1, length-queue w.primary.calls waiting.items w.primary.committer.waiting are)))
  where
    some : (s.waiting ≢ []) ⊎ (s.ended ≢ []) → (nat_lt 0 (open_changes w) || nat_lt 0 w.primary.ended) ≡ true
    some (inl parts) = or_left (nat_lt 0 (open_changes w)) (nat_lt 0 w.primary.ended) (lt-ltb 0 (open_changes w) (omega (arith, some-of s.waiting parts, stands.count)))
    some (inr listed_ones) = or_right (nat_lt 0 (open_changes w)) (nat_lt 0 w.primary.ended) (lt-ltb 0 w.primary.ended (omega (arith, some-of s.ended listed_ones, ended)))

-- and nowhere else
pub may-not-close : (w : World) (waiting : Waiting Work) (s : Sequencing) → AreWorkOf w.primary.calls waiting.items w.primary.committer.waiting
    → SequencerRefines w.primary.calls w.primary.committer.closed s → length s.ended ≡ w.primary.ended → ¬ MayClose s waiting → may_happen w CloseGroup ≡ false
may-not-close w waiting s are stands ended never =
    false_from_ne_true (may_happen w CloseGroup) (λ may.
    let parts = both (nat_lt 0 (open_changes w) || nat_lt 0 w.primary.ended) (has_room w.primary.committer.waiting) may in
    let room : length w.primary.committer.waiting < PIPE_ITEMS = ltb-true (length w.primary.committer.waiting) PIPE_ITEMS parts.1 in
    never (some (or_cases (nat_lt 0 (open_changes w)) (nat_lt 0 w.primary.ended) parts.0), omega (arith, room, length-queue w.primary.calls waiting.items w.primary.committer.waiting are)))
  where
    some : (nat_lt 0 (open_changes w) ≡ true) ⊎ (nat_lt 0 w.primary.ended ≡ true) → (s.waiting ≢ []) ⊎ (s.ended ≢ [])
    some (inl opens) = inl (λ none. absurd (omega (arith, ltb-true 0 (open_changes w) opens, stands.count, ap length none)))
    some (inr ends) = inr (λ none. absurd (omega (arith, ltb-true 0 w.primary.ended ends, ended, ap length none)))

-- ---- what the machine does

-- the machine's world after all changes that wait at this sequencer became a group
abbrev pub grouped : Sequencing → World → World
grouped s w =
    with_ended (w.primary.ended + length (ended_by_parts s.waiting)) (newest_end s.newest s.waiting)
    (with_committer (closed_group (position_of w.primary.calls) w.primary.committer) w)

pub closes-group : (w : World) (s : Sequencing) → SequencerRefines w.primary.calls w.primary.committer.closed s → s.newest ≡ w.primary.newest → s.waiting ≢ [] → Closes w (grouped s w)
closes-group w s stands newest some =
    inl (
      lt-ltb 0 (open_changes w) (omega (arith, some-of s.waiting some, stands.count)),
      record {
        ends = length (ended_by_parts s.waiting);
        newest = newest_end s.newest s.waiting;
        none = λ none. newest-same s.newest s.waiting none ∙ newest;
        some = λ ends.
            let within = newest-within w.primary.calls w.primary.committer.closed s.newest s.waiting stands.waiting ends in
            (within.0, omega (arith, within.1, stands.count));
        now = refl;
      },
    )

pub closes-list : (w : World) (s : Sequencing) → SequencerRefines w.primary.calls w.primary.committer.closed s → s.waiting ≡ [] → Closes w (listed w)
closes-list w s stands none = inr (le-ltb 0 (open_changes w) (omega (arith, ap length none, stands.count)), refl)
