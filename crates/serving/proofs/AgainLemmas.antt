-- Who is taken out of the list of those that wait.
use Rattle.std.proofs.Common.{◌≡◌, ℕ, zero, suc, ◌<◌, List, [], ◌∷◌, length, map, Option, Some, None, IfNone, OnSome, IsSome, ◌↔◌, true≢false, refl, sym, ap, subst, ◌∙◌, arith}
use Rattle.std.specs.List.{remove}
use Rattle.wakes.specs.declared.seat_number.SeatNumber.{SeatNumber}
use Rattle.serving.specs.Again.{number_of}

remove-map : (seats : List SeatNumber) (i : ℕ) → map number_of (remove seats i) ≡ remove (map number_of seats) i
remove-map [] zero = refl
remove-map [] (suc i) = refl
remove-map (seat ∷ seats) zero = refl
remove-map (seat ∷ seats) (suc i) = ap (λ (xs : List ℕ). number_of seat ∷ xs) (remove-map seats i)

-- where nobody stands there, nobody leaves
remove-none : (seats : List SeatNumber) (i : ℕ) → ¬ (i < length seats) → remove seats i ≡ seats
remove-none [] zero behind = refl
remove-none [] (suc i) behind = refl
remove-none (seat ∷ seats) zero behind = absurd (behind (omega arith))
remove-none (seat ∷ seats) (suc i) behind = ap (λ (xs : List SeatNumber). seat ∷ xs) (remove-none seats i (λ below. behind (omega (arith, below))))

pub takes-out : {P : Type 0} (taken : Option SeatNumber) (old new : List SeatNumber) (count i : ℕ) → OnSome taken (new ≡ remove old i) → IfNone taken P → (P → new ≡ old) → (IsSome taken ↔ (i < count))
    → length old ≡ count → map number_of new ≡ remove (map number_of old) i
takes-out (Some seat) old new count i some none same found many = ap (map number_of) some ∙ remove-map old i
takes-out None old new count i some none same found many =
    let behind : ¬ (i < length old) = λ below. true≢false (sym (found.1 (subst (λ n. i < n) many below))) in
    ap (map number_of) (same none ∙ sym (remove-none old i behind)) ∙ remove-map old i
