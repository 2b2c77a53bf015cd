-- The past goes on as calls are made.
use Rattle.std.proofs.Common.{◌≡◌, ◌⊎◌, ℕ, ◌<◌, ◌≤◌, List, [], ◌∷◌, Option, cond, nat_lt, inl, inr, refl, sym, ap, subst, ◌∙◌, arith}
use Rattle.std.proofs.lemmas.Bool.{cases_lt, cond-true, cond-false, le-ltb, lt-ltb}
use Rattle.kv_types.specs.declared.change.Change.{Change}
use Rattle.kv_types.specs.declared.item.Item.{Item}
use Rattle.kv_types.specs.declared.reply.Reply.{Reply}
use Rattle.kv_types.specs.Keyspace.{IsKeyspace, Keyspace}
use Rattle.model.specs.Call.{changes_of}
use Rattle.multi_watch.specs.Session.{Session}
use Rattle.mv_keyspace.specs.Table.{records}
use Rattle.redis_core.specs.Sequencing.{MovesSeat, Sequencing, state_of}
use Rattle.redis_core.specs.Turn.{Answers, Moves, call_of}
use Rattle.group_commit.specs.declared.stage.Done.{Done}
use Rattle.group_commit.specs.declared.stage.Done.TheVariants as done
use Rattle.primary.specs.Leading.{KeepsLead}
use Rattle.primary.specs.Recalling.{AgreeUpTo, AreKeyspaces, Past, Recollects}
use Rattle.primary.specs.Standing.{IsTold}
use Rattle.serving.specs.Serving.{GoesOn}

-- ---- what a call moves

-- the position rose, or it stayed with what is served
abbrev pub MovesOn : Sequencing → Sequencing → Type 0
MovesOn old new = (old.position < new.position) ⊎ ((new.position ≡ old.position) × (records new.table ≡ records old.table))

moved : (changes : List Change) (old new : Sequencing) → Moves changes old new → MovesOn old new
moved [] old new moves = inr (moves.position, ap records moves.table)
moved (change ∷ changes) old new moves = inl (omega (arith, moves.1.position, moves.1.performs.position_is))

pub moves-answered : (old new : Sequencing) (seat : ℕ) (item : Item) (reply : Reply) → Answers old seat item reply new → MovesOn old new
moves-answered old new seat item reply answers = moved (changes_of (state_of old) (call_of seat item reply)) old new answers.moves

pub moves-seated : (old new : Sequencing) (seat : ℕ) (now : Option Session) → MovesSeat old seat now new → MovesOn old new
moves-seated old new seat now moves = inr (moves.position, ap records moves.table)

pub moves-same : (old new : Sequencing) → new ≡ old → MovesOn old new
moves-same old new same = inr (ap (λ (s : Sequencing). s.position) same, ap (λ (s : Sequencing). records s.table) same)

pub moves-rise : (old new : Sequencing) → MovesOn old new → old.position ≤ new.position
moves-rise old new (inl rises) = omega (arith, rises)
moves-rise old new (inr same) = omega (arith, same.0)

-- ---- the past, and above a position what is served

abbrev then : ℕ → Past → Keyspace → Past
then position past s = λ p. cond (nat_lt position p) s (past p)

then-agrees : (position : ℕ) (past : Past) (s : Keyspace) → AgreeUpTo position past (then position past s)
then-agrees position past s p within = cond-false _ _ _ (le-ltb position p within)

then-keyspaces : (position : ℕ) (past : Past) (s : Keyspace) → AreKeyspaces past → IsKeyspace s → AreKeyspaces (then position past s)
then-keyspaces position past s all is p = elim (cases_lt position p) [
  | inl beyond ↦ subst IsKeyspace (sym (cond-true _ _ _ (lt-ltb position p beyond))) is
  | inr within ↦ subst IsKeyspace (sym (cond-false _ _ _ (le-ltb position p within))) (all p)
]

then-served : (old new : Sequencing) (past : Past) → MovesOn old new → records old.table ≡ past old.position → then old.position past (records new.table) new.position ≡ records new.table
then-served old new past (inl rises) served = cond-true _ _ _ (lt-ltb old.position new.position rises)
then-served old new past (inr same) served =
    cond-false _ _ _ (le-ltb old.position new.position (omega (arith, same.0))) ∙ ap past same.0 ∙ sym served ∙ sym same.1

-- ---- it goes on

pub goes-on : (old new : Sequencing) → KeepsLead old new → Recollects old new → MovesOn old new → GoesOn old new
goes-on old new keeps recollects moves low past contents items aside leads keyspaces kept =
    let s = records new.table in
    let later : Past = then old.position past s in
    let agrees = then-agrees old.position past s in (
      later,
      then-keyspaces old.position past s keyspaces (keeps contents items aside leads).stands.table.keyspace,
      agrees,
      recollects low past later contents items aside [] leads agrees (then-served old new past moves kept.follows.served) kept,
    )

pub goes-on-still : (s : Sequencing) → GoesOn s s
goes-on-still s low past contents items aside leads keyspaces kept = (past, keyspaces, (λ p within. refl), kept)

pub goes-on-then : (old between new : Sequencing) → old.position ≤ between.position → KeepsLead old between → GoesOn old between → GoesOn between new → GoesOn old new
goes-on-then old between new rises keeps one other low past contents items aside leads keyspaces kept =
    let first = one low past contents items aside leads keyspaces kept in
    let last = other low first.0 contents items aside (keeps contents items aside leads) first.1 first.3 in
    (last.0, last.1, (λ p within. last.2 p (omega (arith, within, rises)) ∙ first.2 p within), last.3)

-- ---- what a step gave back

pub told-at : (came : Done) (old new : Sequencing) → IsTold came old new → new.position ≡ old.position
told-at (done.Freed places) old new told = ap (λ (s : Sequencing). s.position) told.after
told-at (done.Cleared places) old new told = ap (λ (s : Sequencing). s.position) told.after
told-at (done.Committed position) old new told = ap (λ (s : Sequencing). s.position) told
told-at done.Raised old new told = ap (λ (s : Sequencing). s.position) told
told-at done.Handed old new told = ap (λ (s : Sequencing). s.position) told
told-at done.Idle old new told = ap (λ (s : Sequencing). s.position) told
