-- Acts of the front and of the back, in any order.
use Rattle.std.specs.Prelude.{◌≡◌, ℕ, Bool, true, false, List, [], ◌∷◌, ◌++◌, Option, Ok}
use Rattle.pmem.specs.Device.{State}
use Rattle.model.specs.declared.group.Group.{Group}
use Rattle.model.specs.declared.work.Work.{Work}
use Rattle.model.specs.Group.{Contents}
use Rattle.wbl_engine.specs.declared.freeing.Freed.{Freed as Places}
use Rattle.pipes.specs.Waiting.{Waiting}
use Rattle.redis_core.specs.Sequencing.{Sequencing}
use Rattle.group_commit.specs.Committing.{in_hand}
use Rattle.group_commit.specs.Due.{due_now}
use Rattle.group_commit.specs.Working.{Takes}
use Rattle.group_commit.specs.declared.committer.Committer.{Committer}
use Rattle.group_commit.specs.declared.stage.Done.{Done}
use Rattle.primary.specs.Standing.{notices_of}
use Rattle.node_steps.specs.Acts.{Act, AreActs, IsAct}
use Rattle.node_steps.specs.Clauses.{acts_of, node_of}
use Rattle.node_steps.specs.Law.{with_seats}
use Rattle.node_steps.specs.Node.{Node}

-- Acts of the front alone, whatever the back has meanwhile.
abbrev pub AreFronts : List (Option ℕ) → Sequencing → List Act → List (Option ℕ) → Sequencing → Type 0
AreFronts seats s [] seats' s' = (seats' ≡ seats) × (s' ≡ s)
AreFronts seats s (act ∷ acts) seats' s' =
    (at : List (Option ℕ)) × (between : Sequencing) × ((node : Node) → IsAct act (with_seats seats s node) (with_seats at between node)) × AreFronts at between acts seats' s'

-- Acts of the back alone, whatever the front has meanwhile.
abbrev pub AreBacks : Node → List Act → Node → Type 0
AreBacks old [] new = new ≡ old
AreBacks old (act ∷ acts) new =
    (between : Node) × ((seats : List (Option ℕ)) (s : Sequencing) → IsAct act (with_seats seats s old) (with_seats seats s between)) × AreBacks between acts new

-- two lists in one: `true` takes the next of the first, `false` the next of the second; what is left of both comes last
abbrev pub merged : List Bool → List Act → List Act → List Act
merged [] firsts seconds = firsts ++ seconds
merged (true ∷ order) (act ∷ firsts) seconds = act ∷ merged order firsts seconds
merged (true ∷ order) [] seconds = merged order [] seconds
merged (false ∷ order) firsts (act ∷ seconds) = act ∷ merged order firsts seconds
merged (false ∷ order) firsts [] = merged order firsts []

-- While each of the two is in a thread of its own, their acts may come in any order.
abbrev pub AnyOrder : Type 0
AnyOrder =
    (order : List Bool) (seats : List (Option ℕ)) (s : Sequencing) (firsts : List Act) (seats' : List (Option ℕ)) (s' : Sequencing) (old : Node) (seconds : List Act) (new : Node)
    → AreFronts seats s firsts seats' s' → AreBacks old seconds new → AreActs (with_seats seats s old) (merged order firsts seconds) (with_seats seats' s' new)

-- And a turn of the committer is acts of the back alone.
module _ {E O : Type 0} (device : E → State) (contents : E → Contents) (is_faulted : E → Bool) (offered : O → List Group) (known_room : O → ℕ) where
  abbrev pub TurnsAreBacks : Type 0
  TurnsAreBacks =
      (seats : List (Option ℕ)) (s : Sequencing) (notices : List Places) (room : Bool) (remote : ℕ) (old : Committer E) (before : Waiting Work) (link : O) (came : Done) (new : Committer E) (after : Waiting Work) (link' : O)
      → Takes device contents is_faulted offered known_room (due_now contents old before room remote) room remote old before link (Ok came) new after link'
      → AreBacks (node_of device contents is_faulted seats s notices old before) (acts_of (in_hand new.stage) room remote (Ok came)) (node_of device contents is_faulted seats s (notices ++ notices_of came) new after)
