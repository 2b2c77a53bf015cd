-- An answer is a legal entry of the list, whether its request was run, queued, answered or refused.
use Rattle.std.proofs.Common.{rules, ◌≡◌, ℕ, ◌+◌, ◌⊎◌, inl, inr, Bool, true, false, cond, if◌then◌else◌, nat_eq, not, is_some, List, [], ◌∷◌, ◌++◌, codes, Option, Some, None, refl, sym, ap, subst, subst₂, ◌∙◌, arith, eq-eqb, ne_eqb}
use Rattle.std.proofs.lemmas.Bool.{cases_eq}
use Rattle.std.specs.Option.{option_map}
use Rattle.kv_types.specs.declared.change.Change.{Change}
use Rattle.kv_types.specs.declared.item.Item.{Item}
use Rattle.kv_types.specs.declared.item.Item.TheVariants.{Request, Fault}
use Rattle.kv_types.specs.declared.item.ProtocolFault.{ProtocolFault}
use Rattle.kv_types.specs.declared.item.ProtocolFault.TheVariants.{ExpectedArray, InvalidMultibulkLength, ExpectedBulk, InvalidBulkLength, ExpectedLineEnd}
use Rattle.kv_types.specs.declared.reply.Reply.{Reply, Error, Array}
use Rattle.kv_types.specs.Fault.{fault_message}
use Rattle.kv_types.specs.Keyspace.{Keyspace, play_all}
use Rattle.multi_watch.specs.Session.{Session, idle_session, modified_where}
use Rattle.multi_watch.specs.Admission.{Admission, Answer, Run, RunAll, admit, session_after_request, session_after_refusal}
use Rattle.multi_watch.specs.Modified.{modifies}
use Rattle.multi_watch.specs.Sessions.{Sessions, Moves as MovesSession, slot, session_of, session_at}
use Rattle.model.specs.Call.{admission_at, MayAnswer, all_made, changes_for, changes_of, full_reply, memory_reply, replies_in, is_memory, is_nonempty, session_after_item}
use Rattle.model.specs.Command.{closes, outcome_of}
use Rattle.model.proofs.CallsLemmas.{changes_for-error}
use Rattle.model.proofs.SessionLemmas.{item-closed, replies_in-Array}
use Rattle.mv_keyspace.specs.Table.{records}
use Rattle.mv_keyspace.proofs.TableLemmas.{records-place_all}
use Rattle.placing.specs.Performs.{Performs}
use Rattle.placing.specs.Place.{HasRoomFor}
use Rattle.redis_core.specs.Marking.{Marks}
use Rattle.redis_core.specs.Sequencing.{Sequencing, MovesSeat, is_closed, state_of}
use Rattle.redis_core.specs.Serving.{Runs, Acts, AnswersRequest, RefusesMemory}
use Rattle.redis_core.specs.Turn.{Answers, AreFullOnly, MayTell, Moves, call_of}
use Rattle.redis_core.proofs.AdmissionLemmas.{answers-known, run-unmoved}
use Rattle.redis_core.proofs.RefusalLemmas.{memory_not_full}
use Rattle.redis_core.proofs.RunningLemmas.{marks-none}

-- ---- what moves

keyspace_moved : (changes : List Change) (old new : Sequencing) → Moves changes old new → records new.table ≡ play_all (records old.table) changes
keyspace_moved [] old new moves = ap records moves.table
keyspace_moved (change ∷ changes) old new moves =
    let part = moves.0 in
    let performs = moves.1.performs in
    ap records performs.table_is ∙ records-place_all part.position old.table part.changes.items ∙ ap (play_all (records old.table)) performs.changes_are

position_moved : (changes : List Change) (old new : Sequencing) → Moves changes old new → new.position ≡ old.position + (if is_nonempty changes then 1 else 0)
position_moved [] old new moves = omega (arith, moves.position)
position_moved (change ∷ changes) old new moves = moves.1.position ∙ moves.1.performs.position_is

-- ---- what was to be done was done

pub acts-answer : (old : Sequencing) (reply : Reply) → Acts old (Answer reply) reply old
acts-answer old reply = search (rules, marks-none (records old.table) old.sessions)

run_all-requests : (requests other : List (List (List ℕ))) → RunAll requests ≡ RunAll other → requests ≡ other
run_all-requests requests other e = cc

pub acts-run_all : (old : Sequencing) (requests : List (List (List ℕ))) (replies : List Reply) (reply : Reply) (new : Sequencing) → reply ≡ Array replies → Runs old requests replies new
    → Acts old (RunAll requests) reply new
acts-run_all old requests replies reply new is runs =
    let same : all_made (records old.table) requests replies ≡ all_made (records old.table) requests (replies_in reply) =
    ap (all_made (records old.table) requests) (sym (ap replies_in is ∙ replies_in-Array replies)) in
    let full : (others : List (List (List ℕ))) (texts : List Reply) → RunAll requests ≡ RunAll others → reply ≡ Array texts → AreFullOnly (records old.table) old.room others texts new.room =
    λ others texts e is_array. subst₂ (λ now rs. AreFullOnly (records old.table) old.room now rs new.room) (run_all-requests requests others e)
    (sym (replies_in-Array replies) ∙ ap replies_in (sym is ∙ is_array) ∙ replies_in-Array texts) runs.full in
    search (
      rules,
      full,
      subst (λ (cs : List Change). Moves cs old new) same runs.moves,
      subst (λ (cs : List Change). Marks (records old.table) cs old.sessions new.sessions) same runs.marks,
      runs.stand,
    )

-- ---- a request was answered

abbrev left_by : Session → List (List ℕ) → Reply → Session
left_by session words reply = if is_memory reply then session_after_refusal session words else session_after_request session words

-- memory was refused for the session's step
may_refuse : (s : Keyspace) (admission : Admission) → MayAnswer s admission memory_reply
may_refuse s (Answer proper) = inl refl
may_refuse s (Run words) = inl refl
may_refuse s (RunAll requests) = inl refl

pub acts-refused : (old : Sequencing) (admission : Admission) → Acts old admission memory_reply old
acts-refused old admission =
    let none = changes_for-error (records old.table) admission (codes "ERR out of memory") in
    search (
      rules,
      may_refuse (records old.table) admission,
      memory_not_full,
      subst (λ (cs : List Change). Moves cs old old) (sym none) (record { table = refl; room = refl; position = refl; waiting = refl }),
      subst (λ (cs : List Change). Marks (records old.table) cs old.sessions old.sessions) (sym none) (marks-none (records old.table) old.sessions),
    )

pub request-refused : (old : Sequencing) (seat : ℕ) (words : List (List ℕ)) (new : Sequencing) → MovesSeat old seat (Some (session_after_refusal (session_at old.sessions seat) words)) new
    → AnswersRequest old seat words memory_reply new
request-refused old seat words new moves = record { between = new; session = moves; acts = acts-refused new (admit (session_at old.sessions seat) words) }

-- the session is what the request leaves, which is what its refusal leaves where memory was refused to what it had done
pub request-acted : (old : Sequencing) (seat : ℕ) (words : List (List ℕ)) (act : Admission) (reply : Reply) (mid new : Sequencing) → act ≡ admit (session_at old.sessions seat) words
    → MovesSeat old seat (Some (session_after_request (session_at old.sessions seat) words)) mid → Acts mid act reply new → RefusesMemory act reply → AnswersRequest old seat words reply new
request-acted old seat words act reply mid new is moves acts memory =
    record {
      between = mid;
      session = subst (λ (left : Session). MovesSeat old seat (Some left) mid) (by_test (is_memory reply) refl) moves;
      acts = subst (λ (admission : Admission). Acts mid admission reply new) is acts;
    }
  where
    session : Session
    session = session_at old.sessions seat

    by_test : (b : Bool) → is_memory reply ≡ b → session_after_request session words ≡ (if b then session_after_refusal session words else session_after_request session words)
    by_test false e = refl
    by_test true e =
        elim (memory e) [
          | inl answer ↦ absurd (cc (e, answers-known session words reply (sym is ∙ answer)))
          | inr run ↦ sym (run-unmoved session words run.0 (sym is ∙ run.1))
        ]

-- ---- an item was answered

-- what was answered, before its seat is closed, where the connection's own session is this afterwards
pub record Answered (old : Sequencing) (seat : ℕ) (item : Item) (reply : Reply) (left : Session) (mid : Sequencing) : Type 0 where
  pub legal : MayAnswer (records old.table) (admission_at (state_of old) seat item) reply
  pub told : (fault : ProtocolFault) → item ≡ Fault fault → MayTell fault reply
  pub full_only : (words : List (List ℕ)) → admission_at (state_of old) seat item ≡ Run words → reply ≡ full_reply → ¬ HasRoomFor old.room (outcome_of (records old.table) words).changes
  pub each_full_only : (requests : List (List (List ℕ))) (replies : List Reply) → admission_at (state_of old) seat item ≡ RunAll requests → reply ≡ Array replies
      → AreFullOnly (records old.table) old.room requests replies mid.room
  pub moves : Moves (changes_of (state_of old) (call_of seat item reply)) old mid
  pub epoch : mid.epoch ≡ old.epoch
  pub before : mid.before ≡ old.before
  pub ended : mid.ended ≡ old.ended
  pub newest : mid.newest ≡ old.newest
  pub copy : mid.copy ≡ old.copy
  pub slots : (other : ℕ) → slot mid.sessions other
      ≡ option_map (modified_where (modifies (records old.table) (changes_of (state_of old) (call_of seat item reply)))) (cond (nat_eq seat other) (Some left) (slot old.sessions other))

-- the parts that calls move are the same
record LikeParts (a b : Sequencing) : Type 0 where
  table : a.table ≡ b.table
  room : a.room ≡ b.room
  position : a.position ≡ b.position
  waiting : a.waiting ≡ b.waiting

like : (a : Sequencing) → LikeParts a a
like a = search rules

seat-like : (old : Sequencing) (seat : ℕ) (now : Option Session) (new : Sequencing) → MovesSeat old seat now new → LikeParts new old
seat-like old seat now new moves = search rules

moves_like : (changes : List Change) (old old' new new' : Sequencing) → LikeParts old' old → LikeParts new' new → Moves changes old' new → Moves changes old new'
moves_like [] old old' new new' from to moves = search rules
moves_like (change ∷ changes) old old' new new' from to moves =
    let part = moves.0 in
    let cs = change ∷ changes in (
      part,
      record {
        performs = subst₂ (λ table room. Performs old.table old.room (old.position + 1) cs part table room) (sym to.table) (sym to.room)
            (subst (λ p. Performs old.table old.room (p + 1) cs part new.table new.room) from.position
            (subst₂ (λ table room. Performs table room (old'.position + 1) cs part new.table new.room) from.table from.room moves.1.performs));
        position = to.position ∙ moves.1.position;
        waiting = to.waiting ∙ moves.1.waiting ∙ ap (λ parts. parts ++ part ∷ []) from.waiting;
      },
    )

-- ---- sessions by seat

marked_session : (p : List ℕ → Bool) (o : Option Session) → session_of (option_map (modified_where p) o) ≡ modified_where p (session_of o)
marked_session p None = refl
marked_session p (Some session) = refl

marked_there : (p : List ℕ → Bool) (o : Option Session) → not (is_some (option_map (modified_where p) o)) ≡ not (is_some o)
marked_there p None = refl
marked_there p (Some session) = refl

cond_of : {A B : Type 0} (f : A → B) (b : Bool) (x y : A) → f (cond b x y) ≡ cond b (f x) (f y)
cond_of f true x y = refl
cond_of f false x y = refl

abbrev is_none : Option Session → Bool
is_none o = not (is_some o)

closed_session : (p : List ℕ → Bool) (b : Bool) (left own : Session) → cond b idle_session (modified_where p (cond b left own)) ≡ modified_where p (cond b idle_session own)
closed_session p true left own = refl
closed_session p false left own = refl

closed_again : (b closed : Bool) → cond b true (cond b false closed) ≡ cond b true closed
closed_again true closed = refl
closed_again false closed = refl

slot_moved : (old new : Sessions) (seat other : ℕ) (now : Option Session) → MovesSession old seat now new → slot new other ≡ cond (nat_eq seat other) now (slot old other)
slot_moved old new seat other now moves = elim (cases_eq other seat) [
  | inl same ↦ rw (eq-eqb seat other (sym same)) (ap (slot new) same ∙ moves.moved)
  | inr differ ↦ rw (ne_eqb seat other (λ e. differ (sym e))) (moves.others other differ)
]

module _ (old : Sequencing) (seat : ℕ) (item : Item) (reply : Reply) (left : Session) (mid : Sequencing) (answered : Answered old seat item reply left mid) (new : Sequencing) where
  abbrev changes : List Change
  changes = changes_of (state_of old) (call_of seat item reply)

  abbrev marks : List ℕ → Bool
  marks = modifies (records old.table) changes

  abbrev item_left : Session
  item_left = session_after_item (session_at old.sessions seat) item reply

  session_mid : (other : ℕ) → session_at mid.sessions other ≡ modified_where marks (cond (nat_eq seat other) left (session_at old.sessions other))
  session_mid other =
      ap session_of (answered.slots other) ∙ marked_session marks (cond (nat_eq seat other) (Some left) (slot old.sessions other))
      ∙ ap (modified_where marks) (cond_of session_of (nat_eq seat other) (Some left) (slot old.sessions other))

  closed_mid : (other : ℕ) → is_closed mid other ≡ cond (nat_eq seat other) false (is_closed old other)
  closed_mid other =
      ap is_none (answered.slots other) ∙ marked_there marks (cond (nat_eq seat other) (Some left) (slot old.sessions other))
      ∙ cond_of is_none (nat_eq seat other) (Some left) (slot old.sessions other)

  -- the item does not close its connection
  pub answers-open : closes item ≡ false → item_left ≡ left → new ≡ mid → Answers old seat item reply new
  answers-open stays same is =
      let sessions : (other : ℕ) → session_at mid.sessions other ≡ modified_where marks (cond (nat_eq seat other) item_left (session_at old.sessions other)) = λ other. rw same (session_mid other) in
      let closed : (other : ℕ) → is_closed mid other ≡ cond (nat_eq seat other) (closes item) (is_closed old other) = λ other. rw stays (closed_mid other) in
      subst (Answers old seat item reply) (sym is) (search (rules, answered, keyspace_moved changes old mid answered.moves, position_moved changes old mid answered.moves, sessions, closed))

  own_closed : closes item ≡ true → item_left ≡ idle_session
  own_closed shut = item-closed (session_at old.sessions seat) item reply shut

  -- it does, and the seat is closed
  pub answers-closed : closes item ≡ true → MovesSeat mid seat None new → Answers old seat item reply new
  answers-closed shut over =
      let moves = moves_like changes old old mid new (like old) (seat-like mid seat None new over) answered.moves in
      let moved = λ (other : ℕ). slot_moved mid.sessions new.sessions seat other None over.sessions in
      record {
        legal = answered.legal;
        told = answered.told;
        full_only = answered.full_only;
        each_full_only = λ requests replies e is. rw over.room (answered.each_full_only requests replies e is);
        keyspace = keyspace_moved changes old new moves;
        position = position_moved changes old new moves;
        moves = moves;
        epoch = over.epoch ∙ answered.epoch;
        before = over.before ∙ answered.before;
        ended = over.ended ∙ answered.ended;
        newest = over.newest ∙ answered.newest;
        copy = over.copy ∙ answered.copy;
        sessions = λ other.
            ap session_of (moved other) ∙ cond_of session_of (nat_eq seat other) None (slot mid.sessions other) ∙ ap (cond (nat_eq seat other) idle_session) (session_mid other)
            ∙ closed_session marks (nat_eq seat other) left (session_at old.sessions other) ∙ ap (λ own. modified_where marks (cond (nat_eq seat other) own (session_at old.sessions other))) (sym (own_closed shut));
        closed = λ other.
            ap is_none (moved other) ∙ cond_of is_none (nat_eq seat other) None (slot mid.sessions other) ∙ ap (cond (nat_eq seat other) true) (closed_mid other)
            ∙ closed_again (nat_eq seat other) (is_closed old other) ∙ ap (λ b. cond (nat_eq seat other) b (is_closed old other)) (sym shut);
      }

-- ---- requests and faults

pub answered-request : (old : Sequencing) (seat : ℕ) (words : List (List ℕ)) (reply : Reply) (mid : Sequencing) → AnswersRequest old seat words reply mid
    → Answered old seat (Request words) reply (left_by (session_at old.sessions seat) words reply) mid
answered-request old seat words reply mid answers =
    let between = answers.between in
    let seated = answers.session in
    let admission = admit (session_at old.sessions seat) words in
    let keyspace = ap records seated.table in
    record {
      legal = rw (sym keyspace) answers.acts.legal;
      told = λ fault e. cc;
      full_only = λ run e full. subst₂ (λ (s : Keyspace) room. ¬ HasRoomFor room (outcome_of s run).changes) keyspace seated.room (answers.acts.full_only run e full);
      each_full_only = λ requests replies e is.
          subst₂ (λ (s : Keyspace) room. AreFullOnly s room requests replies mid.room) keyspace seated.room (answers.acts.each_full_only requests replies e is);
      moves = moves_like (changes_for (records old.table) admission reply) old between mid mid (seat-like old seat _ between seated) (like mid)
          (subst (λ (s : Keyspace). Moves (changes_for s admission reply) between mid) keyspace answers.acts.moves);
      epoch = answers.acts.epoch ∙ seated.epoch;
      before = answers.acts.before ∙ seated.before;
      ended = answers.acts.ended ∙ seated.ended;
      newest = answers.acts.newest ∙ seated.newest;
      copy = answers.acts.copy ∙ seated.copy;
      slots = λ other.
          subst (λ (s : Keyspace). slot mid.sessions other ≡ option_map (modified_where (modifies s (changes_for s admission reply))) (slot between.sessions other)) keyspace (answers.acts.marks other)
          ∙ ap (option_map (modified_where (modifies (records old.table) (changes_for (records old.table) admission reply)))) (slot_moved old.sessions between.sessions seat other _ seated.sessions);
    }

there : (o : Option Session) → not (is_some o) ≡ false → o ≡ Some (session_of o)
there None e = cc
there (Some session) e = refl

-- what a fault may be answered is what its connection may be told
may-tell : (fault : ProtocolFault) (reply : Reply) → MayTell fault reply → (reply ≡ memory_reply) ⊎ (reply ≡ Error (fault_message fault))
may-tell (ExpectedBulk byte) reply may = may
may-tell ExpectedArray reply may = inr may
may-tell InvalidMultibulkLength reply may = inr may
may-tell InvalidBulkLength reply may = inr may
may-tell ExpectedLineEnd reply may = inr may

-- its text is one
pub tells-text : (fault : ProtocolFault) (reply : Reply) → reply ≡ Error (fault_message fault) → MayTell fault reply
tells-text (ExpectedBulk byte) reply text = inr text
tells-text ExpectedArray reply text = text
tells-text InvalidMultibulkLength reply text = text
tells-text InvalidBulkLength reply text = text
tells-text ExpectedLineEnd reply text = text

abbrev TellsItem : Item → Reply → Type 0
TellsItem (Fault fault) reply = MayTell fault reply
TellsItem (Request words) reply = Unit {0}

-- a fault is answered by itself
pub answered-fault : (old : Sequencing) (seat : ℕ) (fault : ProtocolFault) (reply : Reply) → is_closed old seat ≡ false → MayTell fault reply
    → Answered old seat (Fault fault) reply (session_at old.sessions seat) old
answered-fault old seat fault reply seated may = record {
  legal = may-tell fault reply may;
  told = λ other same. subst (λ (item : Item). TellsItem item reply) same may;
  full_only = λ words e. cc;
  each_full_only = λ requests replies e. cc;
  moves = record { table = refl; room = refl; position = refl; waiting = refl };
  epoch = refl;
  before = refl;
  ended = refl;
  newest = refl;
  copy = refl;
  slots = λ other.
      marks-none (records old.table) old.sessions other ∙ ap (option_map (modified_where (modifies (records old.table) []))) (elim (cases_eq other seat) [
        | inl same ↦ rw (eq-eqb seat other (sym same)) (ap (slot old.sessions) same ∙ there (slot old.sessions seat) seated)
        | inr differ ↦ rw (ne_eqb seat other (λ e. differ (sym e))) refl
      ]);
}

-- an item got its reply, before its seat is closed
pub record Replied (old : Sequencing) (seat : ℕ) (item : Item) (reply : Reply) (mid : Sequencing) : Type 0 where
  pub left : Session
  pub answered : Answered old seat item reply left mid
  pub same : closes item ≡ false → session_after_item (session_at old.sessions seat) item reply ≡ left

pub replied-request : (old : Sequencing) (seat : ℕ) (words : List (List ℕ)) (reply : Reply) (mid : Sequencing) → AnswersRequest old seat words reply mid → Replied old seat (Request words) reply mid
replied-request old seat words reply mid answers = record {
  left = left_by (session_at old.sessions seat) words reply;
  answered = answered-request old seat words reply mid answers;
  same = λ stays. ap (λ b. cond b idle_session (left_by (session_at old.sessions seat) words reply)) stays;
}

pub replied-fault : (old : Sequencing) (seat : ℕ) (fault : ProtocolFault) (reply : Reply) → is_closed old seat ≡ false → MayTell fault reply
    → Replied old seat (Fault fault) reply old
replied-fault old seat fault reply seated may = record {
  left = session_at old.sessions seat;
  answered = answered-fault old seat fault reply seated may;
  same = λ stays. cc;
}

pub replied-open : (old : Sequencing) (seat : ℕ) (item : Item) (reply : Reply) (mid : Sequencing) → Replied old seat item reply mid → closes item ≡ false → Answers old seat item reply mid
replied-open old seat item reply mid replied stays = answers-open old seat item reply replied.left mid replied.answered mid stays (replied.same stays) refl

pub replied-closed : (old : Sequencing) (seat : ℕ) (item : Item) (reply : Reply) (mid new : Sequencing) → Replied old seat item reply mid → closes item ≡ true → MovesSeat mid seat None new → Answers old seat item reply new
replied-closed old seat item reply mid new replied shut over = answers-closed old seat item reply replied.left mid replied.answered new shut over
