-- Acts of the front and of the back are acts, in any order.
use Rattle.std.proofs.Common.{◌≡◌, ℕ, Bool, true, false, List, [], ◌∷◌, ◌++◌, Option, Ok, Result, inl, inr, refl, sym, subst, ◌∙◌}
use Rattle.pmem.specs.Device.{State}
use Rattle.kv_types.specs.declared.refusal.Refusal.{Refusal}
use Rattle.model.specs.declared.group.Group.{Group}
use Rattle.model.specs.declared.work.Work.{Work}
use Rattle.model.specs.Group.{Contents}
use Rattle.wbl_engine.specs.declared.freeing.Freed.{Freed as Places}
use Rattle.pipes.specs.Waiting.{Waiting}
use Rattle.redis_core.specs.Sequencing.{Sequencing}
use Rattle.group_commit.specs.Committing.{in_hand}
use Rattle.group_commit.specs.Due.{due_now}
use Rattle.group_commit.specs.Working.{Takes}
use Rattle.group_commit.specs.declared.committer.Committer.{Committer}
use Rattle.group_commit.specs.declared.due.Due.{Due}
use Rattle.group_commit.specs.declared.due.Due.TheVariants as due
use Rattle.group_commit.specs.declared.stage.Done.{Done}
use Rattle.group_commit.specs.declared.stage.Done.TheVariants as done
use Rattle.group_commit.proofs.TurnLemmas.{hands-beside}
use Rattle.primary.specs.Standing.{notices_of}
use Rattle.primary.proofs.TurnedLemmas.{ok_not_err}
use Rattle.node_steps.specs.Acts.{Act, AreActs, IsAct}
use Rattle.node_steps.specs.Clauses.{acts_of, node_of}
use Rattle.node_steps.specs.Law.{with_seats}
use Rattle.node_steps.specs.Node.{Node}
use Rattle.node_steps.specs.Orders.{AnyOrder, AreBacks, AreFronts, TurnsAreBacks, merged}
use Rattle.node_steps.proofs.CommitterTurns.{commits-back, ok-is, turns-come}
use Rattle.node_steps.proofs.GroupActs.{backs-go}

-- first the front's
fronts-first : (seats : List (Option ℕ)) (s : Sequencing) (firsts : List Act) (seats' : List (Option ℕ)) (s' : Sequencing) (old : Node) (seconds : List Act) (new : Node) → AreFronts seats s firsts seats' s' → AreBacks old seconds new
    → AreActs (with_seats seats s old) (merged [] firsts seconds) (with_seats seats' s' new)
fronts-first seats s [] seats' s' old seconds new same backs = rw (same.0, same.1) (backs-go seats s old seconds new backs)
fronts-first seats s (act ∷ firsts) seats' s' old seconds new (at, between, is, are) backs =
    (with_seats at between old, is old, fronts-first at between firsts seats' s' old seconds new are backs)

pub any-order : AnyOrder
any-order [] seats s firsts seats' s' old seconds new fronts backs = fronts-first seats s firsts seats' s' old seconds new fronts backs
any-order (true ∷ order) seats s [] seats' s' old seconds new fronts backs = any-order order seats s [] seats' s' old seconds new fronts backs
any-order (true ∷ order) seats s (act ∷ firsts) seats' s' old seconds new (at, between, is, are) backs =
    (with_seats at between old, is old, any-order order at between firsts seats' s' old seconds new are backs)
any-order (false ∷ order) seats s firsts seats' s' old [] new fronts backs = any-order order seats s firsts seats' s' old [] new fronts backs
any-order (false ∷ order) seats s firsts seats' s' old (act ∷ seconds) new fronts (between, is, are) =
    (with_seats seats s between, is seats s, any-order order seats s firsts seats' s' between seconds new fronts are)

-- ---- the committer

-- one act that is the same whatever the front has
alone : (acts : List Act) (from to : List (Option ℕ) → Sequencing → Node) → ((act other : Act) (rest : List Act) → acts ≡ act ∷ (other ∷ rest) → ⊥)
    → ((seats : List (Option ℕ)) (s : Sequencing) → AreActs (from seats s) acts (to seats s)) → ((seats at : List (Option ℕ)) (s between : Sequencing) → with_seats at between (from seats s) ≡ from at between)
    → ((seats at : List (Option ℕ)) (s between : Sequencing) → with_seats at between (to seats s) ≡ to at between) → (seats : List (Option ℕ)) (s : Sequencing) → AreBacks (from seats s) acts (to seats s)
alone [] from to few are froms tos seats s = are seats s
alone (act ∷ []) from to few are froms tos seats s = (to seats s, one, refl)
  where
    one : (at : List (Option ℕ)) (between : Sequencing) → IsAct act (with_seats at between (from seats s)) (with_seats at between (to seats s))
    one at between = rw (froms seats at s between, tos seats at s between) (by (are at between))
      where
        by : AreActs (from at between) (act ∷ []) (to at between) → IsAct act (from at between) (to at between)
        by (middle, is, same) = subst (λ (node : Node). IsAct act (from at between) node) (sym same) is
alone (act ∷ (other ∷ rest)) from to few are froms tos seats s = absurd (few act other rest refl)

-- an answer
abbrev the_ok : Done → Result Done Refusal
the_ok came = Ok came

few-acts : (groups : List Group) (room : Bool) (remote : ℕ) (came : Done) → ((position : ℕ) → came ≡ done.Committed position → ⊥)
    → (act other : Act) (rest : List Act) → acts_of groups room remote (Ok came) ≡ act ∷ (other ∷ rest) → ⊥
few-acts groups room remote (done.Committed position) none act other rest is = absurd (none position refl)
few-acts groups room remote done.Raised none act other rest is = cc
few-acts groups room remote done.Handed none act other rest is = cc
few-acts groups room remote (done.Freed places) none act other rest is = cc
few-acts groups room remote (done.Cleared places) none act other rest is = cc
few-acts groups room remote done.Idle none act other rest is = cc

module _ {E O : Type 0} (device : E → State) (contents : E → Contents) (is_faulted : E → Bool) (offered : O → List Group) (known_room : O → ℕ) (seats : List (Option ℕ)) (s : Sequencing) (notices : List Places)
    (room : Bool) (remote : ℕ) (old : Committer E) (before : Waiting Work) (link : O) (came : Done) (new : Committer E) (after : Waiting Work) (link' : O) where
  abbrev now : Due
  now = due_now contents old before room remote

  abbrev Took : Due → Type 0
  Took step = Takes device contents is_faulted offered known_room step room remote old before link (Ok came) new after link'

  abbrev Backs : Type 0
  Backs = AreBacks (node_of device contents is_faulted seats s notices old before) (acts_of (in_hand new.stage) room remote (Ok came))
      (node_of device contents is_faulted seats s (notices ++ notices_of came) new after)

  -- where it was no commit
  one-back : Took now → ((position : ℕ) → came ≡ done.Committed position → ⊥) → Backs
  one-back took none =
      alone (acts_of (in_hand new.stage) room remote (Ok came)) (λ at between. node_of device contents is_faulted at between notices old before)
      (λ at between. node_of device contents is_faulted at between (notices ++ notices_of came) new after) (few-acts (in_hand new.stage) room remote came none)
      (λ at between. (turns-come device contents is_faulted offered known_room at between notices old new before after link link' room remote came took).0)
      (λ seats at s between. refl) (λ seats at s between. refl) seats s

  other : (answer : Done) → ((position : ℕ) → answer ≡ done.Committed position → ⊥) → the_ok came ≡ Ok answer → (position : ℕ) → came ≡ done.Committed position → ⊥
  other answer none is position at = none position (sym (ok-is came answer is) ∙ at)

  backs-by : (step : Due) → now ≡ step → Took step → Backs
  backs-by due.Commit is (none, inl took) =
      subst (λ (d : Done). AreBacks (node_of device contents is_faulted seats s notices old before) (acts_of (in_hand new.stage) room remote (Ok d)) (node_of device contents is_faulted seats s (notices ++ notices_of d) new after))
      (sym took.commits.answer)
      (commits-back device contents is_faulted offered known_room seats s notices old new before after link link' room remote is came took)
  backs-by due.Commit is (none, inr lacks) = absurd (ok_not_err came lacks.answer)
  backs-by due.Free is took = one-back (subst Took (sym is) took) (λ position at. freed-not took position at)
    where
      freed-not : Took due.Free → (position : ℕ) → came ≡ done.Committed position → ⊥
      freed-not (none, inl frees) position at = let answer = frees.frees.answer.1 in cc
      freed-not (none, inr lacks) position at = ok_not_err came lacks.answer
  backs-by due.Clear is took = one-back (subst Took (sym is) took) (λ position at. let answer = took.2.answer.1 in cc)
  backs-by due.Raise is took = one-back (subst Took (sym is) took) (other done.Raised (λ position e. cc) took.2.answer)
  backs-by due.Hand is took =
      one-back (subst Took (sym is) took)
      (elim (hands-beside device contents is_faulted offered known_room old new link link' (Ok came) took.1).answer [
        | inl handed ↦ other done.Handed (λ position e. cc) handed
        | inr idle ↦ other done.Idle (λ position e. cc) idle
      ])
  backs-by due.Nothing is took = one-back (subst Took (sym is) took) (other done.Idle (λ position e. cc) took.2)

pub turns-back : {E O : Type 0} (device : E → State) (contents : E → Contents) (is_faulted : E → Bool) (offered : O → List Group) (known_room : O → ℕ) → TurnsAreBacks device contents is_faulted offered known_room
turns-back device contents is_faulted offered known_room seats s notices room remote old before link came new after link' took =
    backs-by device contents is_faulted offered known_room seats s notices room remote old before link came new after link' (due_now contents old before room remote) refl took
