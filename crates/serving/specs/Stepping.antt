-- How long the committer's steps go on, and what they come to.
use Rattle.std.specs.Prelude.{◌≡◌, ◌⊎◌, ◌<◌, ◌++◌, Bool, true, false, ◌||◌, List, [], ◌∷◌, length, Ok, Err, Result}
use Rattle.std.specs.List.{AllByRecursion}
use Rattle.kv_types.specs.declared.refusal.Refusal.{Refusal}
use Rattle.kv_types.specs.declared.refusal.Refusal.TheVariants as refusal
use Rattle.model.specs.Call.{is_nonempty}
use Rattle.group_commit.specs.declared.stage.Done.{Done}
use Rattle.group_commit.specs.declared.stage.Done.TheVariants as done
use Rattle.serving.specs.declared.committing.Stepped.{Stepped}
use Rattle.serving.specs.declared.committing.TheConstants.{MOST_STEPS}

-- a step for which memory was refused is as none: it is taken again later
abbrev pub passed_on : Result Done Refusal → Result Done Refusal
passed_on (Ok came) = Ok came
passed_on (Err refusal.Memory) = Ok done.Idle
passed_on (Err other) = Err other

abbrev pub does_something : Done → Bool
does_something done.Idle = false
does_something _ = true

-- it did something of which the front needs not be told: another step is taken at once
abbrev pub is_passed : Done → Bool
is_passed (done.Committed position) = true
is_passed done.Raised = true
is_passed done.Handed = true
is_passed _ = false

abbrev pub goes_on : Result Done Refusal → Bool
goes_on (Ok came) = is_passed came
goes_on (Err refusal) = false

-- what is answered of the last step, and of whether those before it did anything
abbrev pub answer_of : Bool → Result Done Refusal → Result Stepped Refusal
answer_of any (Ok came) = Ok (record { last = came; any = any || does_something came })
answer_of any (Err refusal) = Err refusal

-- As many steps were taken as are taken at once, or, for commits alone, as many until nothing was in hand; and each went on.
pub record AreMost (is_for_commits : Bool) (all : List (Result Done Refusal)) (answer : Result Stepped Refusal) : Type 0 where
  pub each : AllByRecursion (λ came. goes_on came ≡ true) all
  pub most : is_for_commits ≡ false → length all ≡ MOST_STEPS
  pub answer_is : answer ≡ Ok (record { last = done.Idle; any = true })

-- Fewer were taken, and each but the last went on. (There is a last: some step was taken.)
pub record EndWith (all : List (Result Done Refusal)) (answer : Result Stepped Refusal) : Type 0 where
  pub before : List (Result Done Refusal)
  pub last : Result Done Refusal
  pub in_order : all ≡ before ++ last ∷ []
  pub each : AllByRecursion (λ came. goes_on came ≡ true) before
  pub few : length before < MOST_STEPS
  pub ends : goes_on last ≡ false
  pub answer_is : answer ≡ answer_of (is_nonempty before) (passed_on last)

-- Steps are taken until one does nothing, gives something back or is refused, or most were taken; for commits alone, until nothing is in hand.
abbrev pub EndAs : Bool → List (Result Done Refusal) → Result Stepped Refusal → Type 0
EndAs is_for_commits all answer = AreMost is_for_commits all answer ⊎ EndWith all answer
