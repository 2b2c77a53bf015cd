use Rattle.std.proofs.Common.{◌≡◌, ◌^◌, ◌<◌, ◌++◌, ℕ, List, [], Result, Ok, Err, IfOk, ap, refl, sym, ◌∙◌}
use Rattle.std.specs.Prelude.{◌≢◌, ◌↔◌, IsErr, get_or}
use Rattle.kv_types.specs.declared.refusal.Refusal.{Refusal}
use Rattle.greeting.specs.Greeting.{greeting_text}
use Rattle.greeting.specs.declared.greeting.Greeting.{Greeting}
use Rattle.greeting.proofs.laws.written_is_read.Goals as goal

-- a number has one spelling
abbrev OneSpelling : Type 0
OneSpelling = (a b : Greeting) (x y : List ℕ) → a.version < 2 ^ 64 → a.pair < 2 ^ 64 → b.version < 2 ^ 64 → b.pair < 2 ^ 64
    → greeting_text a ++ x ≡ greeting_text b ++ y → (a ≡ b) × (x ≡ y)

read_back : OneSpelling → (own : Greeting) (read : Result Greeting Refusal) (bytes : List ℕ) → own.version < 2 ^ 64 → own.pair < 2 ^ 64 → bytes ≡ greeting_text own
    → IfOk read (λ greeting. bytes ≡ greeting_text greeting) → IfOk read (λ greeting. (greeting.version < 2 ^ 64) × (greeting.pair < 2 ^ 64))
    → (IsErr read ↔ (get_or bytes 0 0 ≢ 8)) → read ≡ Ok own
read_back one own (Ok greeting) bytes version pair is reads fits refused =
    ap Ok (sym (one own greeting [] [] version pair fits.0 fits.1 (ap (λ (text : List ℕ). text ++ []) (sym is ∙ reads))).0)
read_back one own (Err refusal) bytes version pair is reads fits refused = absurd (refused.0 refl (ap (λ (text : List ℕ). get_or text 0 0) is))

pub returns : goal.returns
returns c =
    read_back c.one_spelling.ensures c.args.greeting.now c.read.result c.to_bytes.result c.to_bytes.ensures.fits.0 c.to_bytes.ensures.fits.1 c.to_bytes.ensures.text c.read.ensures.read c.read.ensures.fits c.read.ensures.refused
