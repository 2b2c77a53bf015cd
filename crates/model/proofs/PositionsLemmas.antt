-- Laws of the changes of a list by their position.
use Rattle.std.proofs.Common.{◌≡◌, ℕ, zero, suc, ◌+◌, ◌<◌, ◌≤◌, true, cond, List, [], ◌∷◌, ◌++◌, refl, sym, ap, ◌∙◌, arith, add-one, add-zero}
use Rattle.kv_types.specs.Keyspace.{play_all}
use Rattle.kv_types.proofs.PlayLemmas.{play_all-append}
use Rattle.model.specs.declared.call.Call.{Call}
use Rattle.model.specs.State.{State, start_state}
use Rattle.model.specs.Call.{changes_of, after_call, state_from, state_after, keyspace_after, is_changing, position_from, position_of, cut_from, cut_at}
use Rattle.model.specs.Position.{changes_at_from, changes_at, changes_since}
use Rattle.model.proofs.CallsLemmas.{state_from-cut_zero}

-- the changes of a position take the keyspace of the cut there to that of the next cut
pub state_from-cut_suc : (s : State) (calls : List Call) (p : ℕ) → p < position_from s calls → (state_from s (cut_from s calls (suc p))).keyspace ≡ play_all (state_from s (cut_from s calls p)).keyspace (changes_at_from s calls p)
state_from-cut_suc s [] p lt = absurd (omega arith)
state_from-cut_suc s (call ∷ calls) zero lt = grind (arith, state_from-cut_zero (after_call s call) calls, state_from-cut_suc (after_call s call) calls 0)
state_from-cut_suc s (call ∷ calls) (suc p) lt = grind (arith, state_from-cut_suc (after_call s call) calls p, state_from-cut_suc (after_call s call) calls (suc p))

-- a list that grows keeps the changes of each position that it had
pub changes_at_from-append : (s : State) (xs ys : List Call) (p : ℕ) → p < position_from s xs → changes_at_from s (xs ++ ys) p ≡ changes_at_from s xs p
changes_at_from-append s [] ys p lt = absurd (omega arith)
changes_at_from-append s (call ∷ xs) ys zero lt = grind (arith, changes_at_from-append (after_call s call) xs ys 0)
changes_at_from-append s (call ∷ xs) ys (suc p) lt = grind (arith, changes_at_from-append (after_call s call) xs ys p, changes_at_from-append (after_call s call) xs ys (suc p))

-- the later positions are those of what was appended
pub changes_at_from-later : (s : State) (xs ys : List Call) (p : ℕ) → changes_at_from s (xs ++ ys) (position_from s xs + p) ≡ changes_at_from (state_from s xs) ys p
changes_at_from-later s [] ys p = let same : 0 + p ≡ p = omega arith in ap (changes_at_from s ys) same
changes_at_from-later s (call ∷ xs) ys p = grind (arith, changes_at_from-later (after_call s call) xs ys p)

-- ---- of the whole list

pub keyspace_after-cut_at-next : (calls : List Call) (p : ℕ) → p < position_of calls → keyspace_after (cut_at calls (p + 1)) ≡ play_all (keyspace_after (cut_at calls p)) (changes_at calls p)
keyspace_after-cut_at-next calls p lt = rw add-one (state_from-cut_suc start_state calls p lt)

pub changes_at-append : (xs ys : List Call) (p : ℕ) → p < position_of xs → changes_at (xs ++ ys) p ≡ changes_at xs p
changes_at-append xs ys p lt = changes_at_from-append start_state xs ys p lt

-- the changes of the newest position are those of the call that was just made
pub changes_at-push : (calls : List Call) (call : Call) → is_changing (state_after calls) call ≡ true → changes_at (calls ++ call ∷ []) (position_of calls) ≡ changes_of (state_after calls) call
changes_at-push calls call e =
    ap (changes_at (calls ++ call ∷ [])) (sym (add-zero (position_of calls))) ∙ changes_at_from-later start_state calls (call ∷ []) 0
    ∙ ap (λ b. cond b (changes_of (state_after calls) call) []) e

-- the changes of `count` positions from `p` on take the keyspace of the cut at `p` to that of the cut at `p + count`
pub keyspace_after-cut_at-since : (calls : List Call) (p count : ℕ) → p + count ≤ position_of calls → keyspace_after (cut_at calls (p + count)) ≡ play_all (keyspace_after (cut_at calls p)) (changes_since calls p count)
keyspace_after-cut_at-since calls p zero le = ap (λ n. keyspace_after (cut_at calls n)) (add-zero p)
keyspace_after-cut_at-since calls p (suc count) le =
    let same : p + suc count ≡ p + 1 + count = omega arith in
    rw (same, keyspace_after-cut_at-since calls (p + 1) count (omega arith), keyspace_after-cut_at-next calls p (omega arith))
    (sym (play_all-append (keyspace_after (cut_at calls p)) (changes_at calls p) (changes_since calls (p + 1) count)))

pub changes_since-append : (xs ys : List Call) (p count : ℕ) → p + count ≤ position_of xs → changes_since (xs ++ ys) p count ≡ changes_since xs p count
changes_since-append xs ys p zero le = refl
changes_since-append xs ys p (suc count) le = grind (arith, changes_at-append xs ys p, changes_since-append xs ys (p + 1) count)
