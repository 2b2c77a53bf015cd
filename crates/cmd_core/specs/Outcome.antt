-- What a command answers and what it changes. An error changes nothing, by the form of an outcome.
use Rattle.std.specs.Prelude.{ℕ, ℤ, List, [], Option, None, Some, Result, Ok, Err}
use Rattle.kv_types.specs.declared.change.Change.{Change}
use Rattle.cmd_core.specs.declared.error.CommandError.{CommandError}
use Rattle.cmd_core.specs.declared.error.CommandError.TheVariants.{Syntax}
use Rattle.cmd_core.specs.declared.outcome.Status.{Status}
use Rattle.cmd_core.specs.declared.outcome.Answer.{Answer as CodeAnswer}
use Rattle.cmd_core.specs.declared.outcome.Answer.TheVariants as code_answer
use Rattle.cmd_core.specs.declared.outcome.Outcome.{Outcome as CodeOutcome}
use Rattle.cmd_core.specs.declared.outcome.Outcome.TheVariants as code

pub data Answer : Type 0 where
  Simple : (status : Status) → Answer
  Integer : (n : ℤ) → Answer
  -- a value, or none
  Bulk : (value : Option (List ℕ)) → Answer
  Bulks : (values : List (Option (List ℕ))) → Answer

pub data Outcome : Type 0 where
  Answers : (answer : Answer) (changes : List Change) → Outcome
  Fails : (error : CommandError) → Outcome

abbrev pub changes_of : Outcome → List Change
changes_of (Answers answer changes) = changes
changes_of (Fails error) = []

-- answers, and changes nothing
abbrev pub reads : Answer → Outcome
reads answer = Answers answer []

-- what stands for words that the shape of a command excludes
abbrev pub excluded : Outcome
excluded = Fails Syntax

-- goes on where there was no error
abbrev pub on_ok : {A : Type 0} → Result A CommandError → (A → Outcome) → Outcome
on_ok (Ok x) rest = rest x
on_ok (Err error) rest = Fails error

-- goes on where there is something, and else fails
abbrev pub on_some : {A : Type 0} → CommandError → Option A → (A → Outcome) → Outcome
on_some error None rest = Fails error
on_some error (Some x) rest = rest x

-- ---- as the code has them

abbrev pub answer_now : CodeAnswer → Answer
answer_now (code_answer.Simple status) = Simple status
answer_now (code_answer.Integer n) = Integer n
answer_now (code_answer.Bulk value) = Bulk value
answer_now (code_answer.Bulks values) = Bulks values.items

abbrev pub outcome_now : CodeOutcome → Outcome
outcome_now (code.Answers answer changes) = Answers (answer_now answer) changes.items
outcome_now (code.Fails error) = Fails error
