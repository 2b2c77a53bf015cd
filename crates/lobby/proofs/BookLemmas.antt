-- The calls of a lobby, in terms of its book.
use Rattle.std.proofs.Common.{◌≡◌, ◌≢◌, ℕ, zero, suc, ◌<◌, ◌↔◌, List, [], ◌∷◌, length, map, Option, Some, None, All, IfOk, IfErr, IsErrOf, slice_get, slice_set, set, get_or, refl, ap, sym, ◌∙◌, subst, arith}
use Rattle.std.specs.Option.{ok_or}
use Rattle.std.proofs.Props.{props}
use mathlib.Core.HLevel.{is_prop→PathP}
use Rattle.std.proofs.lemmas.List.{length-map, map-set}
use Rattle.std.proofs.lemmas.Option.{get_or_from_slice_get}
use Rattle.pipes.specs.declared.limits.TheConstants.{MAX_SEATS}
use Rattle.kv_types.specs.declared.refusal.Refusal.TheVariants.{SeatsFull}
use Rattle.lobby.specs.Book.{Book, Status, free, taken, IsEachOnce, Moves}
use Rattle.lobby.specs.Slot.{status_of, IsSound, TakesLowest}
use Rattle.lobby.proofs.SlotsLemmas.{All-taken, status-at, own-at}

-- books with the same statuses are equal
pub Book-same : (a b : Book) → a.statuses ≡ b.statuses → a ≡ b
Book-same a b e = λ i. record {
  statuses = e i;
  complete = is_prop→PathP (λ j. length (e j) ≡ MAX_SEATS) (λ j. hlevel props) a.complete b.complete i;
  each_once = is_prop→PathP (λ j. IsEachOnce (e j)) (λ j. hlevel props) a.each_once b.each_once i;
}

-- equal books have the same statuses
pub statuses-same : {a b : Book} → a ≡ b → b.statuses ≡ a.statuses
statuses-same e = ap (λ book. book.statuses) (sym e)

-- freeing a number that is not taken changes nothing
set-free : (statuses : List Status) (number : ℕ) → slice_get statuses number ≢ Some taken → set statuses number free ≡ statuses
set-free [] number not_taken = refl
set-free (free ∷ others) zero not_taken = refl
set-free (taken ∷ others) zero not_taken = absurd (not_taken refl)
set-free (status ∷ others) (suc number) not_taken = ap (λ rest. status ∷ rest) (set-free others number not_taken)

module _ (slots left : List (Option ℕ)) (sound : IsSound slots) (before : Book) (is : before.statuses ≡ map status_of slots) where
  pub enter-lowest : (seat : Option ℕ) → TakesLowest slots seat left
      → IfOk (ok_or seat SeatsFull) (λ seat. (lower : ℕ) → lower < seat → slice_get before.statuses lower ≡ Some taken)
  enter-lowest None takes = tt
  enter-lowest (Some seat) takes = λ lower low.
      let here = own-at slots takes.0 seat sound takes.1.0 takes.1.1 in
      let within = takes.1.0 in
      ap (λ statuses. slice_get statuses lower) is ∙ status-at slots lower None (omega arith) (takes.1.2 lower (omega arith))

  pub enter-full : (seat : Option ℕ) → TakesLowest slots seat left
      → IsErrOf (ok_or seat SeatsFull) SeatsFull ↔ All (λ status. status ≡ taken) before.statuses
  enter-full None takes = (λ _. subst (All (λ status. status ≡ taken)) (sym is) (All-taken slots takes.0), λ _. refl)
  enter-full (Some seat) takes = (
    λ e. cc,
    λ all.
        let within = takes.1.0 in
        let same : length before.statuses ≡ length slots = ap length is ∙ length-map slots status_of in
        let was = all takes.0 free (omega arith) in
        let now = ap (λ statuses. get_or statuses takes.0 free) is
        ∙ get_or_from_slice_get (map status_of slots) takes.0 free free (status-at slots takes.0 (Some seat) takes.1.0 takes.1.1) in
        let both : free ≡ taken = sym now ∙ was in
        cc,
  )

  module _ (after : Book) (becomes : after.statuses ≡ map status_of left) where
    pub enter-moves : (seat : Option ℕ) → TakesLowest slots seat left → IfOk (ok_or seat SeatsFull) (λ seat. Moves before seat free taken after)
    enter-moves None takes = tt
    enter-moves (Some seat) takes =
        let here = own-at slots takes.0 seat sound takes.1.0 takes.1.1 in
        subst (λ n. Moves before n free taken after) (sym here)
        record {
          was = ap (λ statuses. slice_get statuses takes.0) is ∙ status-at slots takes.0 (Some seat) takes.1.0 takes.1.1;
          becomes = becomes ∙ (ap (map status_of) takes.1.3 ∙ (map-set status_of slots takes.0 None ∙ ap (λ statuses. set statuses takes.0 taken) (sym is)));
        }

    pub enter-err : (seat : Option ℕ) → TakesLowest slots seat left → IfErr (ok_or seat SeatsFull) (λ refusal. (refusal ≡ SeatsFull) × (after ≡ before))
    enter-err None takes = (refl, Book-same after before (becomes ∙ (ap (map status_of) takes.1 ∙ sym is)))
    enter-err (Some seat) takes = tt

module _ (slots left : List (Option ℕ)) (seat : ℕ) (puts : left ≡ set slots seat (Some seat)) (before after : Book)
    (is : before.statuses ≡ map status_of slots) (becomes : after.statuses ≡ map status_of left) where
  -- the status of the number is free afterwards
  freed : after.statuses ≡ slice_set before.statuses seat free
  freed =
      becomes
      ∙ (ap (map status_of) puts ∙ (map-set status_of slots seat (Some seat) ∙ ap (λ statuses. set statuses seat free) (sym is)))

  pub leave-moves : slice_get before.statuses seat ≡ Some taken → Moves before seat taken free after
  leave-moves was = record { was = was; becomes = freed }

  pub leave-unchanged : slice_get before.statuses seat ≢ Some taken → after ≡ before
  leave-unchanged not_taken = Book-same after before (freed ∙ set-free before.statuses seat not_taken)
