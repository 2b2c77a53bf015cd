-- The positions of the calls, and the calls up to one of them.
use Rattle.std.proofs.Common.{◌≡◌, ℕ, zero, suc, ◌+◌, ◌-◌, ◌<◌, ◌≤◌, ◌++◌, true, false, cond, leb, List, [], ◌∷◌, length, take, Result, Ok, Err, is_ok, IsOk, Vec, vec_len, Global, slice_index_or, refl, sym, ap, subst, ◌∙◌, arith, max, le_refl}
use Rattle.std.proofs.Math.Nat.{max-le}
use Rattle.std.specs.Vec.{vec_capacity}
use Rattle.std.proofs.lemmas.Bool.{leb-true, leb-false}
use Rattle.std.specs.List.Sorted.{IsNonDecreasingBy, IsPartitionPoint}
use Rattle.model.specs.declared.call.Call.{Call}
use Rattle.model.specs.State.{State, start_state}
use Rattle.model.specs.Call.{after_call, cut_at, cut_changing, cut_from, is_changing, position_from, position_of}
use Rattle.machine.specs.Sound.{position_with}
use Rattle.connections.specs.Session.{positions_from, positions_of}

-- ---- one for each call

length-from : (s : State) (p : ℕ) (calls : List Call) → length (positions_from s p calls) ≡ length calls
length-from s p [] = refl
length-from s p (call ∷ calls) = ap suc (length-from (after_call s call) (position_with s p call) calls)

pub length-positions : (calls : List Call) → length (positions_of calls) ≡ length calls
length-positions calls = length-from start_state 0 calls

-- ---- one more call

from-append : (s : State) (p : ℕ) (calls : List Call) (call : Call) → positions_from s p (calls ++ call ∷ []) ≡ positions_from s p calls ++ (p + position_from s (calls ++ call ∷ [])) ∷ []
from-append s p [] call =
    let last : position_with s p call ≡ p + position_from s (call ∷ []) = omega arith in
    ap (λ n. n ∷ []) last
from-append s p (first ∷ calls) call =
    let after = after_call s first in
    let q = position_with s p first in
    let last : q + position_from after (calls ++ call ∷ []) ≡ p + position_from s (first ∷ (calls ++ call ∷ [])) = omega arith in
    ap (λ ps. q ∷ ps) (from-append after q calls call ∙ ap (λ n. positions_from after q calls ++ n ∷ []) last)

-- the position after it goes last
pub positions-pushed : (positions : List ℕ) (calls : List Call) (call : Call) (position : ℕ) → positions ≡ positions_of calls → position ≡ position_of (calls ++ call ∷ [])
    → positions ++ position ∷ [] ≡ positions_of (calls ++ call ∷ [])
positions-pushed positions calls call position are is =
    let last : position ≡ 0 + position_of (calls ++ call ∷ []) = omega (arith, is) in
    ap (λ ps. ps ++ position ∷ []) are ∙ ap (λ n. positions_of calls ++ n ∷ []) last ∙ sym (from-append start_state 0 calls call)

-- where there is room for a call there is room for its position
pub pushed-in-room : {T E : Type 0} (calls : Vec Call Global) (before : Vec ℕ Global) (all : List Call) (position : ℕ) (result : Result T E) (after : Vec ℕ Global)
    → calls.items ≡ all → before.items ≡ positions_of all → vec_capacity calls ≤ vec_capacity before → vec_len calls < vec_capacity calls
    → after.items ≡ cond (is_ok result) (before.items ++ position ∷ []) before.items → (vec_len before < vec_capacity before → IsOk result) → vec_capacity before ≤ vec_capacity after
    → (after.items ≡ before.items ++ position ∷ []) × (vec_capacity calls ≤ vec_capacity after)
pushed-in-room calls before all position (Ok value) after are positions room few items succeeds grows = (items, omega (arith, room, grows))
pushed-in-room calls before all position (Err failed) after are positions room few items succeeds grows =
    let space : vec_len before < vec_capacity before = omega (arith, calls.ok.0, before.ok.0, few, room, ap length are, ap length positions, length-positions all) in
    absurd (never (succeeds space))
  where
    never : false ≡ true → ⊥
    never e = cc

-- ---- they never fall

from-above : (s : State) (p : ℕ) (calls : List Call) (j : ℕ) (d : ℕ) → j < length (positions_from s p calls) → p ≤ slice_index_or (positions_from s p calls) j d
from-above s p [] j d lt = absurd (omega arith)
from-above s p (call ∷ calls) zero d lt = omega arith
from-above s p (call ∷ calls) (suc j) d lt =
    let rest = from-above (after_call s call) (position_with s p call) calls j d (omega arith) in
    omega arith

from-rise : (s : State) (p : ℕ) (calls : List Call) → IsNonDecreasingBy (λ (q : ℕ). q) (positions_from s p calls)
from-rise s p [] i j d le lt = absurd (omega arith)
from-rise s p (call ∷ calls) zero zero d le lt = omega arith
from-rise s p (call ∷ calls) zero (suc j) d le lt = from-above (after_call s call) (position_with s p call) calls j d (omega arith)
from-rise s p (call ∷ calls) (suc i) zero d le lt = absurd (omega arith)
from-rise s p (call ∷ calls) (suc i) (suc j) d le lt = from-rise (after_call s call) (position_with s p call) calls i j d (omega arith) (omega arith)

pub positions-rise : (positions : List ℕ) (calls : List Call) → positions ≡ positions_of calls → IsNonDecreasingBy (λ (q : ℕ). q) positions
positions-rise positions calls are = subst (IsNonDecreasingBy (λ (q : ℕ). q)) (sym are) (from-rise start_state 0 calls)

-- ---- the calls up to a position

-- so many positions are at the limit or below it
abbrev pub IsCount : ℕ → List ℕ → ℕ → Type 0
IsCount limit positions n = IsPartitionPoint (λ q. leb q limit ≡ true) (λ q. leb q limit ≡ false) positions n

count-rest : (limit first : ℕ) (positions : List ℕ) (n : ℕ) → IsCount limit (first ∷ positions) (suc n) → IsCount limit positions n
count-rest limit first positions n point =
    ((λ k d low high. point.0 (suc k) d (omega arith) (omega arith)), (λ k d low high. point.1 (suc k) d (omega arith) (omega arith)))

cut-taken : (s : State) (p limit : ℕ) (calls : List Call) (n : ℕ) → p ≤ limit → n ≤ length (positions_from s p calls) → IsCount limit (positions_from s p calls) n → take n calls ≡ cut_from s calls (limit - p)
cut-taken s p limit [] zero le within point = refl
cut-taken s p limit [] (suc n) le within point = refl
cut-taken s p limit (call ∷ calls) zero le within point =
    let above : leb (position_with s p call) limit ≡ false = point.1 0 0 (omega arith) (omega arith) in
    let lt = leb-false (position_with s p call) limit above in
    elim (is_changing s call) as (λ b. limit < p + cond b 1 0 → [] ≡ cond b (cut_changing call (cut_from (after_call s call) calls) (limit - p)) (call ∷ cut_from (after_call s call) calls (limit - p))) [
      | true ↦ λ h. let none : 0 ≡ limit - p = omega arith in ap (cut_changing call (cut_from (after_call s call) calls)) none
      | false ↦ λ h. absurd (omega arith)
    ] lt
cut-taken s p limit (call ∷ calls) (suc n) le within point =
    let after = after_call s call in
    let first : leb (position_with s p call) limit ≡ true = point.0 0 0 (omega arith) (omega arith) in
    let below = leb-true (position_with s p call) limit first in
    let rest : take n calls ≡ cut_from after calls (limit - position_with s p call) =
    cut-taken after (position_with s p call) limit calls n below (omega arith) (count-rest limit (position_with s p call) (positions_from after (position_with s p call) calls) n point) in
    elim (is_changing s call) as (λ b. p + cond b 1 0 ≤ limit → take n calls ≡ cut_from after calls (limit - (p + cond b 1 0))
    → call ∷ take n calls ≡ cond b (cut_changing call (cut_from after calls) (limit - p)) (call ∷ cut_from after calls (limit - p))) [
      | true ↦ λ h same.
          let one : suc (limit - (p + 1)) ≡ limit - p = omega arith in
          ap (λ cs. call ∷ cs) same ∙ ap (cut_changing call (cut_from after calls)) one
      | false ↦ λ h same. let all : limit - (p + 0) ≡ limit - p = omega arith in ap (λ cs. call ∷ cs) (same ∙ ap (cut_from after calls) all)
    ] below rest

-- where n counts the positions up to this one, the first n calls are those that the list has there
pub take-cut : (positions : List ℕ) (calls : List Call) (limit n : ℕ) → positions ≡ positions_of calls → n ≤ length positions → IsCount limit positions n → take n calls ≡ cut_at calls limit
take-cut positions calls limit n are within point =
    let all : limit - 0 ≡ limit = omega arith in
    let counted : IsCount limit (positions_of calls) n = subst (λ (ps : List ℕ). IsCount limit ps n) are point in
    let few : n ≤ length (positions_of calls) = subst (λ (ps : List ℕ). n ≤ length ps) are within in
    cut-taken start_state 0 limit calls n (omega arith) few counted ∙ ap (cut_at calls) all

-- their positions are those of the first n calls
from-take : (s : State) (p : ℕ) (calls : List Call) (n : ℕ) → take n (positions_from s p calls) ≡ positions_from s p (take n calls)
from-take s p [] zero = refl
from-take s p [] (suc n) = refl
from-take s p (call ∷ calls) zero = refl
from-take s p (call ∷ calls) (suc n) = ap (λ ps. position_with s p call ∷ ps) (from-take (after_call s call) (position_with s p call) calls n)

pub take-positions : (positions : List ℕ) (calls : List Call) (n : ℕ) → positions ≡ positions_of calls → take n positions ≡ positions_of (take n calls)
take-positions positions calls n are = ap (take n) are ∙ from-take start_state 0 calls n

-- ---- room for more

-- there is room for as many positions, where both lists get room for the same number more
pub room-made : (calls calls' : Vec Call Global) (positions : Vec ℕ Global) (all : List Call) (more : ℕ) → calls.items ≡ all → positions.items ≡ positions_of all
    → vec_capacity calls ≤ vec_len calls → vec_capacity calls' ≡ max (vec_capacity calls) (vec_len calls + more) → vec_len positions + more ≤ vec_capacity positions → vec_capacity calls' ≤ vec_capacity positions
room-made calls calls' positions all more are before full exact room =
    let few : max (vec_capacity calls) (vec_len calls + more) ≤ vec_len calls + more = max-le (omega (arith, full)) (le_refl (vec_len calls + more)) in
    omega (arith, exact, few, room, calls.ok.0, positions.ok.0, ap length are, ap length before, length-positions all)
