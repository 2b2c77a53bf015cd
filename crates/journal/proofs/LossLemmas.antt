-- What a crash leaves of words that were written over zeros.
use Rattle.std.proofs.Common.{◌≡◌, ◌⊎◌, ℕ, zero, suc, ◌<◌, ◌≤◌, List, [], ◌∷◌, ◌++◌, length, take, drop, replicate, get_or, refl, inl, inr, ap, ◌∙◌, arith}
use Rattle.journal.specs.Record.{zeros}
use Rattle.journal.specs.Loss.{IsLossOf}

-- as many words
pub length-loss : (words left : List ℕ) → IsLossOf words left → length left ≡ length words
length-loss [] left loss = ap length loss
length-loss (x ∷ words) [] loss = absurd loss
length-loss (x ∷ words) (y ∷ left) loss = ap suc (length-loss words left loss.1)

-- and no fewer zeros
pub zeros-grow : (words left : List ℕ) → IsLossOf words left → zeros words ≤ zeros left
zeros-grow [] left loss = omega arith
zeros-grow (x ∷ words) [] loss = absurd loss
zeros-grow (zero ∷ words) (zero ∷ left) loss = omega (arith, zeros-grow words left loss.1)
zeros-grow (suc x ∷ words) (zero ∷ left) loss = omega (arith, zeros-grow words left loss.1)
zeros-grow (zero ∷ words) (suc y ∷ left) loss =
    elim loss.0 [
      | inl e ↦ absurd (omega (arith, e))
      | inr e ↦ absurd (omega (arith, e))
    ]
zeros-grow (suc x ∷ words) (suc y ∷ left) loss = zeros-grow words left loss.1

-- with as many zeros nothing is lost
pub none-lost : (words left : List ℕ) → IsLossOf words left → zeros left ≡ zeros words → left ≡ words
none-lost [] left loss e = loss
none-lost (x ∷ words) [] loss e = absurd loss
none-lost (zero ∷ words) (zero ∷ left) loss e = ap (λ (l : List ℕ). 0 ∷ l) (none-lost words left loss.1 (omega (arith, e)))
none-lost (suc x ∷ words) (zero ∷ left) loss e = absurd (omega (arith, e, zeros-grow words left loss.1))
none-lost (zero ∷ words) (suc y ∷ left) loss e =
    elim loss.0 [
      | inl z ↦ absurd (omega (arith, z))
      | inr z ↦ absurd (omega (arith, z))
    ]
none-lost (suc x ∷ words) (suc y ∷ left) loss e =
    elim loss.0 [
      | inl z ↦ absurd (omega (arith, z))
      | inr z ↦ ap (λ (l : List ℕ). suc y ∷ l) (none-lost words left loss.1 e) ∙ ap (λ (n : ℕ). n ∷ words) z
    ]

-- what is left of the first words, and of those behind them
pub loss-first : (words more left : List ℕ) → IsLossOf (words ++ more) left → IsLossOf words (take (length words) left)
loss-first [] more left loss = refl
loss-first (x ∷ words) more [] loss = absurd loss
loss-first (x ∷ words) more (y ∷ left) loss = (loss.0, loss-first words more left loss.1)

pub loss-rest : (words more left : List ℕ) → IsLossOf (words ++ more) left → IsLossOf more (drop (length words) left)
loss-rest [] more left loss = loss
loss-rest (x ∷ words) more [] loss = absurd loss
loss-rest (x ∷ words) more (y ∷ left) loss = loss-rest words more left loss.1

-- zeros stay
pub loss-zeros : (n : ℕ) (left : List ℕ) → IsLossOf (replicate n 0) left → left ≡ replicate n 0
loss-zeros zero left loss = loss
loss-zeros (suc n) [] loss = absurd loss
loss-zeros (suc n) (y ∷ left) loss =
    let first : y ≡ 0 = elim loss.0 [ inl e ↦ e | inr e ↦ e ] in
    ap (λ (k : ℕ). k ∷ left) first ∙ ap (λ (l : List ℕ). 0 ∷ l) (loss-zeros n left loss.1)

-- word by word
pub loss-from : (words left : List ℕ) → length left ≡ length words
    → ((k : ℕ) → k < length words → (get_or left k 0 ≡ 0) ⊎ (get_or left k 0 ≡ get_or words k 0)) → IsLossOf words left
loss-from [] [] same each = refl
loss-from [] (y ∷ left) same each = absurd (omega (arith, same))
loss-from (x ∷ words) [] same each = absurd (omega (arith, same))
loss-from (x ∷ words) (y ∷ left) same each =
    (each 0 (omega arith), loss-from words left (omega (arith, same)) (λ k below. each (suc k) (omega (arith, below))))
