-- Laws of the list of calls: how legality, keyspace, position, cut and the lists of one connection grow with it.
use Rattle.std.proofs.Common.{◌≡◌, ℕ, zero, suc, ◌+◌, ◌-◌, ◌≤◌, min, false, cond, List, [], ◌∷◌, ◌++◌, refl, sym, ap, subst, ◌∙◌, arith, add-zero}
use Rattle.std.proofs.lemmas.Bool.{cond_both}
use Rattle.kv_types.specs.declared.reply.Reply.{Error}
use Rattle.kv_types.specs.Keyspace.{Keyspace, IsKeyspace, play_all}
use Rattle.kv_types.proofs.PlayLemmas.{is_keyspace-empty, is_keyspace-play_all}
use Rattle.model.specs.declared.call.Call.{Call}
use Rattle.multi_watch.specs.Admission.{Admission, Answer, Run, RunAll}
use Rattle.model.specs.State.{State, start_state}
use Rattle.model.specs.Call.{MayReply, admission_at, changes_for, all_made, changes_of, after_call, IsLegalFrom, IsLegal, state_from, state_after, keyspace_after, is_nonempty, is_changing, AreAlike, position_from, position_of, cut_from, cut_at, IsPrefix}
use Rattle.model.proofs.PrefixLemmas.{IsPrefix-itself, IsPrefix-none, IsPrefix-cons}

-- ---- one more call

pub state_from-append : (s : State) (xs ys : List Call) → state_from s (xs ++ ys) ≡ state_from (state_from s xs) ys
state_from-append s [] ys = refl
state_from-append s (call ∷ xs) ys = state_from-append (after_call s call) xs ys

pub IsLegalFrom-append : (s : State) (xs ys : List Call) → IsLegalFrom s xs → IsLegalFrom (state_from s xs) ys → IsLegalFrom s (xs ++ ys)
IsLegalFrom-append s [] ys prefix rest = rest
IsLegalFrom-append s (call ∷ xs) ys prefix rest = (prefix.0, IsLegalFrom-append (after_call s call) xs ys prefix.1 rest)

pub IsLegalFrom-prefix : (s : State) (xs ys : List Call) → IsLegalFrom s (xs ++ ys) → IsLegalFrom s xs
IsLegalFrom-prefix s [] ys all = tt
IsLegalFrom-prefix s (call ∷ xs) ys all = (all.0, IsLegalFrom-prefix (after_call s call) xs ys all.1)

pub IsLegalFrom-rest : (s : State) (xs ys : List Call) → IsLegalFrom s (xs ++ ys) → IsLegalFrom (state_from s xs) ys
IsLegalFrom-rest s [] ys all = all
IsLegalFrom-rest s (call ∷ xs) ys all = IsLegalFrom-rest (after_call s call) xs ys all.1

pub position_from-append : (s : State) (xs ys : List Call) → position_from s (xs ++ ys) ≡ position_from s xs + position_from (state_from s xs) ys
position_from-append s [] ys = omega arith
position_from-append s (call ∷ xs) ys = let rest = position_from-append (after_call s call) xs ys in omega arith

pub IsKeyspace-state_from : (s : State) (calls : List Call) → IsKeyspace s.keyspace → IsKeyspace (state_from s calls).keyspace
IsKeyspace-state_from s [] lawful = lawful
IsKeyspace-state_from s (call ∷ calls) lawful = IsKeyspace-state_from (after_call s call) calls (is_keyspace-play_all s.keyspace (changes_of s call) lawful)

pub IsKeyspace-keyspace_after : (calls : List Call) → IsKeyspace (keyspace_after calls)
IsKeyspace-keyspace_after calls = IsKeyspace-state_from start_state calls is_keyspace-empty

-- what one more call changes about the whole list

pub state_after-push : (calls : List Call) (call : Call) → state_after (calls ++ call ∷ []) ≡ after_call (state_after calls) call
state_after-push calls call = state_from-append start_state calls (call ∷ [])

pub keyspace_after-push : (calls : List Call) (call : Call) → keyspace_after (calls ++ call ∷ []) ≡ play_all (keyspace_after calls) (changes_of (state_after calls) call)
keyspace_after-push calls call = ap (λ (s : State). s.keyspace) (state_after-push calls call)

pub IsLegal-push : (calls : List Call) (call : Call) → IsLegal calls → MayReply (state_after calls) call → IsLegal (calls ++ call ∷ [])
IsLegal-push calls call prefix may = IsLegalFrom-append start_state calls (call ∷ []) prefix (may, tt)

pub IsLegal-prefix : (xs ys : List Call) → IsLegal (xs ++ ys) → IsLegal xs
IsLegal-prefix xs ys all = IsLegalFrom-prefix start_state xs ys all

pub position_of-append : (xs ys : List Call) → position_of (xs ++ ys) ≡ position_of xs + position_from (state_after xs) ys
position_of-append xs ys = position_from-append start_state xs ys

pub position_of-push : (calls : List Call) (call : Call) → position_of (calls ++ call ∷ []) ≡ position_of calls + cond (is_changing (state_after calls) call) 1 0
position_of-push calls call = position_from-append start_state calls (call ∷ []) ∙ ap (λ n. position_of calls + n) (add-zero (cond (is_changing (state_after calls) call) 1 0))

pub position_of_grows : (xs ys : List Call) → position_of xs ≤ position_of (xs ++ ys)
position_of_grows xs ys = omega (arith, position_of-append xs ys)

-- ---- calls that look the same

pub MayReply-alike : (s t : State) (a b : Call) → AreAlike s a t b → MayReply s a → MayReply t b
MayReply-alike s t a b alike may = simp (sym alike.keyspace, sym alike.session, sym alike.item, sym alike.reply) may

pub changes_of-alike : (s t : State) (a b : Call) → AreAlike s a t b → changes_of s a ≡ changes_of t b
changes_of-alike s t a b alike = cc

-- ---- a call that changes nothing

no_elements : {X : Type 0} (xs : List X) → is_nonempty xs ≡ false → xs ≡ []
no_elements [] e = refl
no_elements (x ∷ xs) e = cc

-- a call that is not changing leaves the keyspace
pub after_call_unchanging : (s : State) (call : Call) → is_changing s call ≡ false → (after_call s call).keyspace ≡ s.keyspace
after_call_unchanging s call e = ap (play_all s.keyspace) (no_elements (changes_of s call) e)

none_made : (s : Keyspace) (requests : List (List (List ℕ))) → all_made s requests [] ≡ []
none_made s [] = refl
none_made s (words ∷ requests) = refl

pub changes_for-error : (s : Keyspace) (admission : Admission) (text : List ℕ) → changes_for s admission (Error text) ≡ []
changes_for-error s (Answer proper) text = refl
changes_for-error s (Run words) text = refl
changes_for-error s (RunAll requests) text = none_made s requests

-- and so does one that was answered with an error
pub after_call_error : (s : State) (call : Call) (text : List ℕ) → call.reply ≡ Error text → (after_call s call).keyspace ≡ s.keyspace
after_call_error s call text e =
    let admission = admission_at s call.connection call.item in
    rw e (ap (play_all s.keyspace) (changes_for-error s.keyspace admission text))

-- ---- cuts

-- at position 0 the keyspace is the first one
pub state_from-cut_zero : (s : State) (calls : List Call) → (state_from s (cut_from s calls 0)).keyspace ≡ s.keyspace
state_from-cut_zero s [] = refl
state_from-cut_zero s (call ∷ calls) = grind (arith, after_call_unchanging s call, state_from-cut_zero (after_call s call) calls)

-- a cut within the list has the same keyspace, whatever follows the list
pub state_from-cut-append : (s : State) (xs ys : List Call) (p : ℕ) → p ≤ position_from s xs → (state_from s (cut_from s (xs ++ ys) p)).keyspace ≡ (state_from s (cut_from s xs p)).keyspace
state_from-cut-append s [] ys p le = let none : p ≡ 0 = omega arith in ap (λ n. (state_from s (cut_from s ys n)).keyspace) none ∙ state_from-cut_zero s ys
state_from-cut-append s (call ∷ xs) ys zero le = grind (arith, state_from-cut-append (after_call s call) xs ys 0)
state_from-cut-append s (call ∷ xs) ys (suc p) le = grind (arith, state_from-cut-append (after_call s call) xs ys p, state_from-cut-append (after_call s call) xs ys (suc p))

-- a cut at the whole position is the whole list
pub cut_from-all : (s : State) (calls : List Call) (p : ℕ) → position_from s calls ≤ p → cut_from s calls p ≡ calls
cut_from-all s [] p le = refl
cut_from-all s (call ∷ calls) zero le = grind (arith, cut_from-all (after_call s call) calls 0)
cut_from-all s (call ∷ calls) (suc p) le = grind (arith, cut_from-all (after_call s call) calls p, cut_from-all (after_call s call) calls (suc p))

pub position_from-cut : (s : State) (calls : List Call) (p : ℕ) → position_from s (cut_from s calls p) ≡ min p (position_from s calls)
position_from-cut s [] p = omega arith
position_from-cut s (call ∷ calls) zero = grind (arith, position_from-cut (after_call s call) calls 0)
position_from-cut s (call ∷ calls) (suc p) = grind (arith, position_from-cut (after_call s call) calls p, position_from-cut (after_call s call) calls (suc p))

-- the calls up to a position are in the cut at it
pub cut_from-append : (s : State) (xs ys : List Call) (p : ℕ) → position_from s xs ≤ p → cut_from s (xs ++ ys) p ≡ xs ++ cut_from (state_from s xs) ys (p - position_from s xs)
cut_from-append s [] ys p le = let same : p ≡ p - 0 = omega arith in ap (cut_from s ys) same
cut_from-append s (call ∷ xs) ys zero le = grind (arith, cut_from-append (after_call s call) xs ys 0)
cut_from-append s (call ∷ xs) ys (suc p) le = grind (arith, cut_from-append (after_call s call) xs ys p, cut_from-append (after_call s call) xs ys (suc p))

-- ---- cuts of the whole list

pub cut_from-prefix : (s : State) (calls : List Call) (p : ℕ) → IsPrefix (cut_from s calls p) calls
cut_from-prefix s [] p = IsPrefix-itself []
cut_from-prefix s (call ∷ calls) zero =
    cond_both (is_changing s call) _ _ (λ cut. IsPrefix cut (call ∷ calls)) (λ e. IsPrefix-none (call ∷ calls)) (λ e. IsPrefix-cons call (cut_from-prefix (after_call s call) calls 0))
cut_from-prefix s (call ∷ calls) (suc p) =
    cond_both (is_changing s call) _ _ (λ cut. IsPrefix cut (call ∷ calls))
    (λ e. IsPrefix-cons call (cut_from-prefix (after_call s call) calls p)) (λ e. IsPrefix-cons call (cut_from-prefix (after_call s call) calls (suc p)))

pub IsPrefix-cut_at : (calls : List Call) (p : ℕ) → IsPrefix (cut_at calls p) calls
IsPrefix-cut_at calls p = cut_from-prefix start_state calls p

pub IsLegal-IsPrefix : {xs ys : List Call} → IsPrefix xs ys → IsLegal ys → IsLegal xs
IsLegal-IsPrefix {xs} a legal = IsLegal-prefix xs a.rest (subst IsLegal (sym a.joined) legal)

pub IsLegal-cut_at : (calls : List Call) (p : ℕ) → IsLegal calls → IsLegal (cut_at calls p)
IsLegal-cut_at calls p legal = IsLegal-IsPrefix (IsPrefix-cut_at calls p) legal

-- the keyspace of a cut is stable while the list grows
pub keyspace_after-cut_at-append : (xs ys : List Call) (p : ℕ) → p ≤ position_of xs → keyspace_after (cut_at (xs ++ ys) p) ≡ keyspace_after (cut_at xs p)
keyspace_after-cut_at-append xs ys p le = state_from-cut-append start_state xs ys p le

pub cut_at-all : (calls : List Call) (p : ℕ) → position_of calls ≤ p → cut_at calls p ≡ calls
cut_at-all calls p le = cut_from-all start_state calls p le

-- the cut at the position of the list has the keyspace of the list
pub keyspace_after-cut_at-position : (calls : List Call) → keyspace_after (cut_at calls (position_of calls)) ≡ keyspace_after calls
keyspace_after-cut_at-position calls = ap keyspace_after (cut_at-all calls (position_of calls) (omega arith))

pub keyspace_after-cut_at-zero : (calls : List Call) → keyspace_after (cut_at calls 0) ≡ []
keyspace_after-cut_at-zero calls = state_from-cut_zero start_state calls

pub position_of-cut_at : (calls : List Call) (p : ℕ) → position_of (cut_at calls p) ≡ min p (position_of calls)
position_of-cut_at calls p = position_from-cut start_state calls p

pub IsPrefix-into-cut_at : {prefix calls : List Call} (p : ℕ) → IsPrefix prefix calls → position_of prefix ≤ p → IsPrefix prefix (cut_at calls p)
IsPrefix-into-cut_at {prefix} p a le =
    record { rest = cut_from (state_after prefix) a.rest (p - position_of prefix); joined = sym (cut_from-append start_state prefix a.rest p le) ∙ ap (λ whole. cut_at whole p) a.joined }
