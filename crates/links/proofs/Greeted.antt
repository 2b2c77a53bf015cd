-- What a link's greetings say of what comes behind them.
use Rattle.std.proofs.Common.{◌≡◌, ◌≢◌, ℕ, ◌<◌, Option, None, Some, Result, Ok, Err, IfOk, subst}
use Rattle.std.specs.Option.{SomeIff}
use Rattle.greeting.specs.declared.greeting.Greeting.{Greeting}
use Rattle.links.specs.Greeting.{TakesOver}

pub IfOk-into : {T E : Type 0} {P Q : T → Type 0} (result : Result T E) → ((x : T) → P x → Q x) → IfOk result P → IfOk result Q
IfOk-into (Ok x) into told = into x told
IfOk-into (Err e) into told = tt

-- the cause for which a number is taken over
abbrev pub Cause : Greeting → Greeting → ℕ → ℕ → Type 0
Cause own theirs before after = (own.pair ≡ 0) × (theirs.pair ≢ 0) × (before < after)

-- of the positions as a node tells them
pub some_at : (found : Option ℕ) (own theirs : Greeting) (before after b a : ℕ) → b ≡ before → a ≡ after → SomeIff found (Cause own theirs b a) theirs.pair
    → SomeIff found (Cause own theirs before after) theirs.pair
some_at found own theirs before after b a first last told =
    subst (λ (n : ℕ). SomeIff found (Cause own theirs before n) theirs.pair) last (subst (λ (n : ℕ). SomeIff found (Cause own theirs n a) theirs.pair) first told)

-- a number that is taken over
pub TakesOver-some : (found : Option ℕ) (number : ℕ) (own theirs : Greeting) (before after : ℕ) → SomeIff found (Cause own theirs before after) theirs.pair → found ≡ Some number
    → TakesOver own number before after
TakesOver-some None number own theirs before after told is = absurd cc
TakesOver-some (Some n) number own theirs before after told is =
    let same : theirs.pair ≡ number = cc (told.1, is) in
    record { has_none = told.0.0; is_one = subst (λ (m : ℕ). m ≢ 0) same told.0.1; moved = told.0.2 }
