-- Lemmas on the replies that a gate holds.
use Rattle.std.proofs.Common.{◌≡◌, ℕ, ◌+◌, ◌≤◌, true, false, List, [], ◌∷◌, ◌++◌, length, take, drop, cond, refl, sym, ap, ◌∙◌, arith, length-append, length-drop}
use Rattle.std.proofs.lemmas.List.{take-take, take-append-le, take-append-drop}
use Rattle.kv_types.specs.declared.seen.Seen.{Seen}
use Rattle.reply_gate.specs.declared.held_text.HeldText.{HeldText}
use Rattle.reply_gate.specs.Gate.{held_bytes, covered_bytes, uncovered_rest, is_covered}

pub held_bytes-append : (xs ys : List HeldText) → held_bytes (xs ++ ys) ≡ held_bytes xs + held_bytes ys
held_bytes-append [] ys = omega arith
held_bytes-append (x ∷ xs) ys = omega (arith, held_bytes-append xs ys)

-- the bytes of the covered prefix and those of the rest together are all the bytes
pub held_bytes-split : (seen : Seen) (xs : List HeldText) → covered_bytes seen xs + held_bytes (uncovered_rest seen xs) ≡ held_bytes xs
held_bytes-split seen [] = refl
held_bytes-split seen (x ∷ xs) =
    elim (is_covered seen x) as (λ b. cond b (x.bytes + covered_bytes seen xs) 0 + held_bytes (cond b (uncovered_rest seen xs) (x ∷ xs)) ≡ x.bytes + held_bytes xs) [
      | true ↦ omega (arith, held_bytes-split seen xs)
      | false ↦ omega arith
    ]

-- the last reply's bytes are those that were written
pub held_more : (p : ℕ) (old text new : List ℕ) (held held' : List HeldText) (position bytes : ℕ)
    → new ≡ old ++ text → held' ≡ held ++ record { position = position; bytes = bytes } ∷ [] → bytes ≡ length text
    → p ≤ length old → length (drop p old) ≡ held_bytes held
    → (p ≤ length new) × (length (drop p new) ≡ held_bytes held')
held_more p old text new held held' position bytes is_new is_held is_bytes within all =
    rw (is_new, is_held) (
      omega (arith, length-append old text),
      omega (arith, length-append old text, length-drop p (old ++ text), length-drop p old, held_bytes-append held (record { position = position; bytes = bytes } ∷ [])),
    )

-- the first of the pending bytes are a front part of them
pub first_pending : (pending count : ℕ) (all first : List ℕ) → (rest : List ℕ) × (all ≡ first ++ rest) → count ≤ pending → count ≤ length first → (rest : List ℕ) × (take pending all ≡ take count first ++ rest)
first_pending pending count all first whole within short =
    let front = take-take count pending all within ∙ ap (take count) whole.1 ∙ take-append-le count first whole.0 short in
    (drop count (take pending all), sym (take-append-drop count (take pending all)) ∙ ap (λ bytes. bytes ++ drop count (take pending all)) front)
