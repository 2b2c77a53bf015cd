-- The calls of an entrance, in terms of its book and of the connections that wait.
use Rattle.std.proofs.Common.{◌≡◌, ℕ, ◌<◌, Bool, true, false, not, ◌||◌, eqb, IsTrue, List, [], ◌∷◌, ◌++◌, length, drop, Option, Some, None, Result, Ok, Err, IfOk, IfErr, IfSome, MatchOption, slice_get, refl, ap, sym, ◌∙◌, subst, arith}
use Rattle.std.specs.List.{list_any}
use Rattle.std.specs.Option.{option_to_list}
use Rattle.std.proofs.Props.{props}
use mathlib.Core.HLevel.{is_prop→PathP}
use Rattle.std.proofs.lemmas.List.{length-append, length-map}
use Rattle.pipes.specs.declared.limits.TheConstants.{MAX_SEATS}
use Rattle.kv_types.specs.declared.refusal.Refusal.{Refusal}
use Rattle.kv_types.specs.declared.refusal.Refusal.TheVariants.{SeatsFull}
use Rattle.lobby.specs.declared.arrival.Arrival.{Arrival}
use Rattle.lobby.specs.Book.{Book, free, taken, Moves}
use Rattle.lobby.specs.Attendance.{Attendance, AreEachOnce, IsHeld, numbers_of, waits}
use Rattle.lobby.proofs.Waiting.{WaitOnce, each_once_from_waits, waits_from_each_once, waiting-fit, waits-more, waits-fewer, held-then, waits-entered, waits-left}

module _ {I O : Type 0} where
  -- attendances with the same book and the same arrivals are equal
  pub Attendance-same : (a b : Attendance I O) → a.book ≡ b.book → a.arrivals ≡ b.arrivals → a ≡ b
  Attendance-same a b book arrivals = λ i. record {
    book = book i;
    arrivals = arrivals i;
    each_once = is_prop→PathP (λ j. AreEachOnce (book j).statuses (numbers_of (arrivals j))) (λ j. hlevel props) a.each_once b.each_once i;
  }

  pub enter-err : (result : Result ℕ Refusal) (old new : Book) (before after : Attendance I O) → IfErr result (λ refusal. (refusal ≡ SeatsFull) × (new ≡ old))
      → old ≡ before.book → after.book ≡ new → after.arrivals ≡ before.arrivals → IfErr result (λ refusal. (refusal ≡ SeatsFull) × (after ≡ before))
  enter-err (Ok seat) old new before after err is becomes arrivals = tt
  enter-err (Err refusal) old new before after err is becomes arrivals =
      (err.0, Attendance-same after before (becomes ∙ (err.1 ∙ is)) arrivals)

  numbers-more : (arrivals : List (Arrival I O)) (arrival : Arrival I O) → numbers_of (arrivals ++ arrival ∷ []) ≡ numbers_of arrivals ++ arrival.seat ∷ []
  numbers-more [] arrival = refl
  numbers-more (other ∷ arrivals) arrival = ap (λ rest. other.seat ∷ rest) (numbers-more arrivals arrival)

  module _ (book : Book) (arrivals : List (Arrival I O)) (each_once : AreEachOnce book.statuses (numbers_of arrivals)) where
    once : WaitOnce book.statuses (numbers_of arrivals)
    once = waits_from_each_once book.statuses (numbers_of arrivals) book.complete each_once

    module _ (arrival : Arrival I O) (held : (slice_get book.statuses arrival.seat ≡ Some taken) × (waits (numbers_of arrivals) arrival.seat ≡ false)) where
      more : WaitOnce book.statuses (numbers_of arrivals ++ arrival.seat ∷ [])
      more = waits-more book.statuses (numbers_of arrivals) arrival.seat held.0 held.1 once

      pub arrive-fits : length arrivals < MAX_SEATS
      arrive-fits =
          let most = waiting-fit book.statuses (numbers_of arrivals ++ arrival.seat ∷ []) book.complete more in
          omega (arith, length-append (numbers_of arrivals) (arrival.seat ∷ []), length-map arrivals (λ (a : Arrival I O). a.seat))

      pub arrive-waits : (after : List (Arrival I O)) → after ≡ arrivals ++ arrival ∷ [] → AreEachOnce book.statuses (numbers_of after)
      arrive-waits after is =
          subst (AreEachOnce book.statuses) (sym (ap numbers_of is ∙ numbers-more arrivals arrival))
          (each_once_from_waits book.statuses (numbers_of arrivals ++ arrival.seat ∷ []) book.complete more)

    pub waiting-waits : (oldest : Option (Arrival I O)) (after : List (Arrival I O)) → arrivals ≡ option_to_list oldest ++ after
        → AreEachOnce book.statuses (numbers_of after)
    waiting-waits None after is = subst (λ xs. AreEachOnce book.statuses (numbers_of xs)) is each_once
    waiting-waits (Some arrival) after is =
        each_once_from_waits book.statuses (numbers_of after) book.complete
        (waits-fewer book.statuses (numbers_of after) arrival.seat (subst (λ xs. WaitOnce book.statuses (numbers_of xs)) is once))

    pub waiting-held : (oldest : Option (Arrival I O)) (after : List (Arrival I O)) → arrivals ≡ option_to_list oldest ++ after
        → IfSome oldest (λ arrival. (slice_get book.statuses arrival.seat ≡ Some taken) × (waits (numbers_of after) arrival.seat ≡ false))
    waiting-held None after is = tt
    waiting-held (Some arrival) after is =
        held-then book.statuses (numbers_of after) arrival.seat book.complete (subst (λ xs. WaitOnce book.statuses (numbers_of xs)) is once)

    pub leave-waits : (after : Book) (seat : ℕ) → Moves book seat taken free after → waits (numbers_of arrivals) seat ≡ false
        → AreEachOnce after.statuses (numbers_of arrivals)
    leave-waits after seat moves apart =
        each_once_from_waits after.statuses (numbers_of arrivals) after.complete
        (subst (λ statuses. WaitOnce statuses (numbers_of arrivals)) (sym moves.becomes)
        (waits-left book.statuses (numbers_of arrivals) seat apart once))

    pub enter-waits : (result : Result ℕ Refusal) (after : Book) → IfOk result (λ seat. Moves book seat free taken after)
        → IfErr result (λ refusal. (refusal ≡ SeatsFull) × (after ≡ book)) → AreEachOnce after.statuses (numbers_of arrivals)
    enter-waits (Ok seat) after moves err =
        each_once_from_waits after.statuses (numbers_of arrivals) after.complete
        (subst (λ statuses. WaitOnce statuses (numbers_of arrivals)) (sym moves.becomes)
        (waits-entered book.statuses (numbers_of arrivals) seat book.complete moves.was once))
    enter-waits (Err refusal) after moves err = subst (λ (b : Book). AreEachOnce b.statuses (numbers_of arrivals)) (sym err.1) each_once

  not_rest : (xs : List (Arrival I O)) → xs ≡ drop 1 xs → xs ≡ []
  not_rest [] e = refl
  not_rest (x ∷ xs) e = let same = ap length e in absurd (omega arith)

  pub waiting-oldest : (oldest : Option (Arrival I O)) (old new : List (Arrival I O)) (before after : Attendance I O) → old ≡ option_to_list oldest ++ new
      → new ≡ drop 1 old → old ≡ before.arrivals → after.arrivals ≡ new → after.book ≡ before.book
      → MatchOption oldest ((before.arrivals ≡ []) × (after ≡ before)) (λ arrival. before.arrivals ≡ arrival ∷ new)
  waiting-oldest None old new before after is rest was becomes book =
      (sym was ∙ not_rest old (is ∙ rest), Attendance-same after before book (becomes ∙ (sym is ∙ was)))
  waiting-oldest (Some arrival) old new before after is rest was becomes book = sym was ∙ is

  waits-any : (arrivals : List (Arrival I O)) (number : ℕ) → waits (numbers_of arrivals) number ≡ list_any (λ arrival. eqb arrival.seat number) arrivals
  waits-any [] number = refl
  waits-any (arrival ∷ arrivals) number = ap (λ rest. eqb arrival.seat number || rest) (waits-any arrivals number)

  pub held-iff : (attendance : Attendance I O) (seat number : ℕ) (found : Bool) → found ≡ list_any (λ arrival. eqb arrival.seat number) attendance.arrivals
      → number ≡ seat → slice_get attendance.book.statuses seat ≡ Some taken
      → (IsTrue (not found) → IsHeld attendance seat) × (IsHeld attendance seat → IsTrue (not found))
  held-iff attendance seat number found is same there =
      let here : waits (numbers_of attendance.arrivals) seat ≡ found =
      subst (λ n. waits (numbers_of attendance.arrivals) n ≡ found) same (waits-any attendance.arrivals number ∙ sym is) in (
        λ apart. (there, here ∙ falsity found apart),
        λ held. truth found (sym here ∙ held.1),
      )
    where
      falsity : (b : Bool) → IsTrue (not b) → b ≡ false
      falsity true e = absurd cc
      falsity false e = refl

      truth : (b : Bool) → b ≡ false → IsTrue (not b)
      truth true e = absurd cc
      truth false e = refl
