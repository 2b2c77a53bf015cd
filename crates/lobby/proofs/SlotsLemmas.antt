-- What a seat put into its slot, or taken out of it, does to the book.
use Rattle.std.proofs.Common.{◌≡◌, ℕ, zero, suc, ◌<◌, ◌⊎◌, inl, inr, List, [], ◌∷◌, length, map, Option, Some, None, option_map, All, slice_get, set, get_or, refl, ap, sym, ◌∙◌, subst, arith}
use Rattle.std.proofs.lemmas.List.{get_or-map, length-map, length-set}
use Rattle.std.proofs.lemmas.Option.{slice_get-map, slice_get-get_or, slice_get_within, get_or_from_slice_get}
use Rattle.pipes.specs.declared.limits.TheConstants.{MAX_SEATS}
use Rattle.lobby.specs.Book.{free, taken}
use Rattle.lobby.specs.Slot.{status_of, IsSound, IsEmptyBelow, TakesLowest}
use Rattle.lobby.proofs.Numbers.{each_once_from_complete}

-- after a write, an index has what was written, if it is the index written to, and otherwise what it had
slice_get-set_cases : {X : Type 0} (xs : List X) (i k : ℕ) (x y : X) → slice_get (set xs i x) k ≡ Some y → ((x ≡ y) × (k ≡ i)) ⊎ (slice_get xs k ≡ Some y)
slice_get-set_cases [] i k x y e = inr e
slice_get-set_cases (z ∷ zs) zero zero x y e = let same : x ≡ y = cc in inl (same, refl)
slice_get-set_cases (z ∷ zs) zero (suc k) x y e = inr e
slice_get-set_cases (z ∷ zs) (suc i) zero x y e = inr e
slice_get-set_cases (z ∷ zs) (suc i) (suc k) x y e =
    elim (slice_get-set_cases zs i k x y e) [ inl h ↦ inl (h.0, ap suc h.1) | inr h ↦ inr h ]

-- a slot may be set to nothing, or to the seat of its own number
IsSound-set : (slots : List (Option ℕ)) (index : ℕ) (slot : Option ℕ) → ((seat : ℕ) → slot ≡ Some seat → seat ≡ index) → IsSound slots → IsSound (set slots index slot)
IsSound-set slots index slot own sound = record {
  complete = length-set slots index slot ∙ sound.complete;
  own = λ k seat e. elim (slice_get-set_cases slots index k slot (Some seat) e) [ inl h ↦ own seat h.0 ∙ sym h.1 | inr h ↦ sound.own k seat h ];
  each_once =
      each_once_from_complete (map status_of (set slots index slot)) (length-map (set slots index slot) status_of ∙ (length-set slots index slot ∙ sound.complete));
}

pub IsSound-put : (slots : List (Option ℕ)) (seat : ℕ) (after : List (Option ℕ)) → after ≡ set slots seat (Some seat) → IsSound slots → IsSound after
IsSound-put slots seat after puts sound =
    subst IsSound (sym puts) (IsSound-set slots seat (Some seat) (λ other e. let same : seat ≡ other = cc in sym same) sound)

pub IsSound-taken : (slots : List (Option ℕ)) (seat : Option ℕ) (after : List (Option ℕ)) → TakesLowest slots seat after → IsSound slots → IsSound after
IsSound-taken slots None after takes sound = subst IsSound (sym takes.1) sound
IsSound-taken slots (Some seat) after takes sound = subst IsSound (sym takes.1.3) (IsSound-set slots takes.0 None (λ other e. cc) sound)

-- if all seats are there in the order of their numbers
slot-is : (slots : List (Option ℕ)) (seats : List ℕ) → slots ≡ map Some seats → (index : ℕ) → index < length slots
    → (index < length seats) × (get_or slots index None ≡ Some (get_or seats index 0))
slot-is slots seats are index low =
    let same : length slots ≡ length seats = ap length are ∙ length-map seats Some in
    let low' : index < length seats = omega arith in
    (low', ap (λ xs. get_or xs index None) are ∙ get_or-map Some seats index 0 None low')

pub IsSound-all : (slots : List (Option ℕ)) (seats : List ℕ) → slots ≡ map Some seats → length seats ≡ MAX_SEATS
    → ((number : ℕ) → number < length seats → get_or seats number 0 ≡ number) → IsSound slots
IsSound-all slots seats are count each = record {
  complete = complete;
  own = λ index seat e.
      let here = slot-is slots seats are index (slice_get_within slots index (Some seat) e) in
      let found = get_or_from_slice_get slots index (Some seat) None e in
      let number = each index here.0 in
      let same : Some seat ≡ Some (get_or seats index 0) = sym found ∙ here.1 in cc;
  each_once = each_once_from_complete (map status_of slots) (length-map slots status_of ∙ complete);
}
  where
    complete : length slots ≡ MAX_SEATS
    complete = ap length are ∙ (length-map seats Some ∙ count)

pub All-free : (slots : List (Option ℕ)) (seats : List ℕ) → slots ≡ map Some seats → All (λ status. status ≡ free) (map status_of slots)
All-free slots seats are index default low =
    let low' : index < length slots = omega (arith, length-map slots status_of) in
    get_or-map status_of slots index None default low' ∙ ap status_of (slot-is slots seats are index low').1

-- if no slot holds a seat
pub All-taken : (slots : List (Option ℕ)) → IsEmptyBelow slots (length slots) → All (λ status. status ≡ taken) (map status_of slots)
All-taken slots none index default low =
    let low' : index < length slots = omega (arith, length-map slots status_of) in
    get_or-map status_of slots index None default low' ∙ ap status_of (none index low')

-- the status of the number `index`
pub status-at : (slots : List (Option ℕ)) (index : ℕ) (slot : Option ℕ) → index < length slots → get_or slots index None ≡ slot
    → slice_get (map status_of slots) index ≡ Some (status_of slot)
status-at slots index slot low is =
    slice_get-map status_of slots index ∙ ap (option_map status_of) (slice_get-get_or slots index None low ∙ ap Some is)

-- a seat has the number of its slot
pub own-at : (slots : List (Option ℕ)) (index seat : ℕ) → IsSound slots → index < length slots → get_or slots index None ≡ Some seat → seat ≡ index
own-at slots index seat sound low is = sound.own index seat (slice_get-get_or slots index None low ∙ ap Some is)
