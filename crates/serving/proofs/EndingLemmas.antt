-- How long the committer's steps went on, and what they are answered as.
use Rattle.std.proofs.Common.{◌≡◌, ℕ, ◌<◌, ◌+◌, Bool, true, false, true≢false, ◌||◌, List, [], ◌∷◌, ◌++◌, length, Result, Ok, Err, refl, sym, ap, ◌∙◌, inl, inr, length-append, arith}
use Rattle.std.specs.List.{AllByRecursion}
use Rattle.kv_types.specs.declared.refusal.Refusal.{Refusal}
use Rattle.kv_types.specs.declared.refusal.Refusal.TheVariants as refusal
use Rattle.model.specs.Call.{is_nonempty}
use Rattle.group_commit.specs.declared.stage.Done.{Done}
use Rattle.group_commit.specs.declared.stage.Done.TheVariants as done
use Rattle.serving.specs.declared.committing.Stepped.{Stepped}
use Rattle.serving.specs.declared.committing.TheConstants.{MOST_STEPS}
use Rattle.serving.specs.Stepping.{EndAs, answer_of, does_something, goes_on, is_passed, passed_on}

abbrev EachGoesOn : List (Result Done Refusal) → Type 0
EachGoesOn = AllByRecursion (λ came. goes_on came ≡ true)

passed-same : (came : Result Done Refusal) → goes_on (passed_on came) ≡ goes_on came
passed-same (Ok done) = refl
passed-same (Err refusal.Memory) = refl
passed-same (Err other) = refl

-- a step goes on by what was passed on of it
pub goes-by : (came answer : Result Done Refusal) → answer ≡ passed_on came → goes_on answer ≡ goes_on came
goes-by came answer is = ap goes_on is ∙ passed-same came

all-more : (all : List (Result Done Refusal)) (came : Result Done Refusal) → EachGoesOn all → goes_on came ≡ true → EachGoesOn (all ++ came ∷ [])
all-more [] came each goes = (goes, tt)
all-more (first ∷ all) came each goes = (each.0, all-more all came each.1 goes)

nonempty-more : (all : List (Result Done Refusal)) (came : Result Done Refusal) → is_nonempty (all ++ came ∷ []) ≡ true
nonempty-more [] came = refl
nonempty-more (first ∷ all) came = refl

something : (came : Done) → is_passed came ≡ true → does_something came ≡ true
something (done.Committed position) goes = refl
something done.Raised goes = refl
something done.Handed goes = refl
something (done.Freed places) goes = refl
something (done.Cleared places) goes = refl
something done.Idle goes = absurd (true≢false (sym goes))

or-true : (any other : Bool) → other ≡ true → (any || other) ≡ true
or-true true other is = refl
or-true false other is = is

-- So many steps were taken, each of which went on, and `any` is whether there was one.
pub record GoOn (all : List (Result Done Refusal)) (count : ℕ) (any : Bool) : Type 0 where
  pub each : EachGoesOn all
  pub many : length all ≡ count
  pub some : any ≡ is_nonempty all

pub none-yet : GoOn [] 0 false
none-yet = record { each = tt; many = refl; some = refl }

pub one-more : (all : List (Result Done Refusal)) (count : ℕ) (any now : Bool) (last : Result Done Refusal) (came : Done) → GoOn all count any
    → Ok came ≡ passed_on last → is_passed came ≡ true → now ≡ (any || does_something came) → GoOn (all ++ last ∷ []) (count + 1) now
one-more all count any now last came on is goes now_is = record {
  each = all-more all last on.each (sym (goes-by last (Ok came) is) ∙ goes);
  many = length-append all (last ∷ []) ∙ ap (λ n. n + 1) on.many;
  some = now_is ∙ or-true any (does_something came) (something came goes) ∙ sym (nonempty-more all last);
}

pub ends-here : (is_for_commits : Bool) (all : List (Result Done Refusal)) (count : ℕ) (any now : Bool) (last : Result Done Refusal) (came : Done) → GoOn all count any → count < MOST_STEPS
    → Ok came ≡ passed_on last → is_passed came ≡ false → now ≡ (any || does_something came) → EndAs is_for_commits (all ++ last ∷ []) (Ok (record { last = came; any = now }))
ends-here is_for_commits all count any now last came on few is ends now_is = inr (record {
  before = all;
  last = last;
  in_order = refl;
  each = on.each;
  few = omega (arith, few, on.many);
  ends = sym (goes-by last (Ok came) is) ∙ ends;
  answer_is =
      ap (λ (b : Bool). Ok (record { last = came; any = b })) (now_is ∙ ap (λ (b : Bool). b || does_something came) on.some) ∙ ap (answer_of (is_nonempty all)) is;
})

pub ends-refused : (is_for_commits : Bool) (all : List (Result Done Refusal)) (count : ℕ) (any : Bool) (last : Result Done Refusal) (cause : Refusal) (answer : Result Stepped Refusal) → GoOn all count any
    → count < MOST_STEPS → Err cause ≡ passed_on last → answer ≡ Err cause → EndAs is_for_commits (all ++ last ∷ []) answer
ends-refused is_for_commits all count any last cause answer on few is answered = inr (record {
  before = all;
  last = last;
  in_order = refl;
  each = on.each;
  few = omega (arith, few, on.many);
  ends = sym (goes-by last (Err cause) is);
  answer_is = answered ∙ ap (answer_of (is_nonempty all)) is;
})

some-there : (all : List (Result Done Refusal)) → 0 < length all → is_nonempty all ≡ true
some-there [] many = absurd (omega (arith, many))
some-there (first ∷ all) many = refl

pub ends-most : (is_for_commits : Bool) (all : List (Result Done Refusal)) (count : ℕ) (any : Bool) → GoOn all count any → 0 < count → (is_for_commits ≡ false → count ≡ MOST_STEPS)
    → EndAs is_for_commits all (Ok (record { last = done.Idle; any = any }))
ends-most is_for_commits all count any on some most = inl (record {
  each = on.each;
  most = λ none. on.many ∙ most none;
  answer_is = ap (λ (b : Bool). Ok (record { last = done.Idle; any = b })) (on.some ∙ some-there all (omega (arith, some, on.many)));
})
