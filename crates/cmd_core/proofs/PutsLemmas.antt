-- What is put stays within what was told, for the forms in which commands are defined.
use Rattle.std.proofs.Common.{arith, ◌≡◌, ℕ, ◌+◌, ◌*◌, ◌<◌, ◌≤◌, ◌^◌, Bool, true, false, if◌then◌else◌, List, [], ◌∷◌, length, Option, Some, None, Result, Ok, Err, refl}
use Rattle.std.specs.List.{AllByRecursion}
use Rattle.std.specs.Prelude.{ℤ, ◌+ℤ◌}
use Rattle.std.specs.Fmt.{signed_decimal}
use Rattle.std.specs.Int.Signed.{mag}
use Rattle.std.proofs.lemmas.Bool.Decides.{nat_tests}
use Rattle.std.proofs.lemmas.Fmt.{length_signed_le}
use Rattle.kv_types.specs.declared.record_id.RecordId.{RecordId}
use Rattle.kv_types.specs.declared.change.Change.{Change}
use Rattle.kv_types.specs.declared.change.Change.TheVariants.{Put}
use Rattle.cmd_core.specs.declared.error.CommandError.{CommandError}
use Rattle.cmd_core.specs.declared.error.CommandError.TheVariants.{Overflow}
use Rattle.cmd_core.specs.declared.puts.TheConstants.{MAX_INTEGER_BYTES}
use Rattle.cmd_core.specs.declared.puts.PutBound.{PutBound}
use Rattle.cmd_core.specs.Counter.{number_of, counted, increased}
use Rattle.cmd_core.specs.Integer.{is_in_range}
use Rattle.cmd_core.specs.Outcome.{Outcome, Answers, Fails, Integer, changes_of, on_ok, on_some}
use Rattle.cmd_core.specs.Puts.{bytes_of_words, bytes_of_id, one, put_sizes, PutsWithin}

pub bytes_of_words-le : (most : ℕ) (words : List (List ℕ)) → AllByRecursion (λ word. length word ≤ most) words → bytes_of_words words ≤ length words * most
bytes_of_words-le most [] short = omega arith
bytes_of_words-le most (word ∷ words) short =
    let rest : bytes_of_words words ≤ length words * most = bytes_of_words-le most words short.1 in
    let first : length word ≤ most = short.0 in
    omega arith

-- ---- no put, and one

pub nothing_put : (bound : PutBound) (changes : List Change) → put_sizes changes ≡ [] → PutsWithin bound changes
nothing_put bound changes none = record { few = rw none (omega arith); short = rw none tt }

pub one_put : (bytes : ℕ) (id : RecordId) (value : List ℕ) → bytes_of_id id + length value ≤ bytes → PutsWithin (one bytes) (Put id value ∷ [])
one_put bytes id value short = record { few = omega arith; short = (short, tt) }

abbrev pub PutsNothing : Outcome → Type 0
PutsNothing outcome = put_sizes (changes_of outcome) ≡ []

-- ---- outcomes that go on only where something is so

pub on_ok-nothing : {A : Type 0} (read : Result A CommandError) (rest : A → Outcome) → ((x : A) → PutsNothing (rest x)) → PutsNothing (on_ok read rest)
on_ok-nothing (Ok x) rest nothing = nothing x
on_ok-nothing (Err error) rest nothing = refl

pub if-within : (bound : PutBound) (test : Bool) (then_does else_does : Outcome) → PutsWithin bound (changes_of then_does) → PutsWithin bound (changes_of else_does)
    → PutsWithin bound (changes_of (if test then then_does else else_does))
if-within bound true then_does else_does of_then of_else = of_then
if-within bound false then_does else_does of_then of_else = of_else

pub on_ok-within : {A : Type 0} (bound : PutBound) (read : Result A CommandError) (rest : A → Outcome)
    → ((x : A) → PutsWithin bound (changes_of (rest x))) → PutsWithin bound (changes_of (on_ok read rest))
on_ok-within bound (Ok x) rest within = within x
on_ok-within bound (Err error) rest within = nothing_put bound [] refl

pub on_some-within : {A : Type 0} (bound : PutBound) (error : CommandError) (found : Option A) (rest : A → Outcome)
    → ((x : A) → PutsWithin bound (changes_of (rest x))) → PutsWithin bound (changes_of (on_some error found rest))
on_some-within bound error None rest within = nothing_put bound [] refl
on_some-within bound error (Some x) rest within = within x

-- ---- the number of a record

text-short : (sum : ℤ) → mag sum < 2 ^ 63 → length (signed_decimal sum) ≤ MAX_INTEGER_BYTES
text-short sum small = length_signed_le 19 sum (omega (arith, small)) small

counted_if-within : (bytes : ℕ) (id : RecordId) (sum : ℤ) (test : Bool) → (test ≡ true → mag sum < 2 ^ 63) → bytes_of_id id + MAX_INTEGER_BYTES ≤ bytes
    → PutsWithin (one bytes) (changes_of (if test then Answers (Integer sum) (Put id (signed_decimal sum) ∷ []) else Fails Overflow))
counted_if-within bytes id sum true small room =
    let text : length (signed_decimal sum) ≤ MAX_INTEGER_BYTES = text-short sum (small refl) in
    one_put bytes id (signed_decimal sum) (omega arith)
counted_if-within bytes id sum false small room = nothing_put (one bytes) [] refl

counted-within : (bytes : ℕ) (id : RecordId) (sum : ℤ) → bytes_of_id id + MAX_INTEGER_BYTES ≤ bytes → PutsWithin (one bytes) (changes_of (counted id sum))
counted-within bytes id sum room = counted_if-within bytes id sum (is_in_range sum) (λ is. grind (arith, nat_tests)) room

pub increased-within : (bytes : ℕ) (error : CommandError) (id : RecordId) (value : Option (List ℕ)) (amount : ℤ) → bytes_of_id id + MAX_INTEGER_BYTES ≤ bytes
    → PutsWithin (one bytes) (changes_of (increased error id value amount))
increased-within bytes error id value amount room =
    on_some-within (one bytes) error (number_of value) (λ old. counted id (old +ℤ amount)) (λ old. counted-within bytes id (old +ℤ amount) room)
