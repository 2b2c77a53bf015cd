-- Readers of bytes that may be only the beginning of what is read. A reader answers what it read, or why nothing whole is at the front; the
-- faults of type `F` are those that it tells.
use Rattle.std.specs.Prelude.{◌≡◌, ℕ, List, Result, Ok, Err}
use Rattle.kv_types.specs.declared.stop.Stop.{Stop}

-- what was read, and the bytes after it
abbrev pub Read : Type 0 → Type 0
Read A = A × List ℕ

-- the second reader goes on where the first one ended; the first stop is the answer
infixl 10 ◌>>=◌
abbrev pub ◌>>=◌ : {F A B : Type 0} → Result A (Stop F) → (A → Result B (Stop F)) → Result B (Stop F)
(Ok x) >>= f = f x
(Err stop) >>= f = Err stop

-- the bytes after what was read
abbrev pub skipped : {F A : Type 0} → Result (Read A) (Stop F) → Result (List ℕ) (Stop F)
skipped read = read >>= λ x. Ok x.1

-- the answer of the code, mapped by `view`, is what the definition reads
abbrev pub Gives : {F X Y : Type 0} → (X → Y) → Result X (Stop F) → Result Y (Stop F) → Type 0
Gives view (Ok x) read = read ≡ Ok (view x)
Gives view (Err stop) read = read ≡ Err stop

-- The answer is what the old bytes begin with, and the new bytes are those after it. A stop takes none.
abbrev pub Takes : {F X : Type 0} → Result X (Stop F) → (List ℕ → Result (Read X) (Stop F)) → List ℕ → List ℕ → Type 0
Takes (Ok x) read old new = read old ≡ Ok (x, new)
Takes (Err stop) read old new = (read old ≡ Err stop) × (new ≡ old)
