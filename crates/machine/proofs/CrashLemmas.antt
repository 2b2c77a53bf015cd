-- What is left of the connections after a crash of the primary: calls that the image holds, and what was released.
use Rattle.std.proofs.Common.{◌≡◌, ℕ, zero, suc, ◌+◌, ◌≤◌, Bool, true, false, cond, nat_eq, List, [], ◌∷◌, ◌++◌, map, All, refl, sym, ap, subst, arith, le_refl}
use Rattle.std.proofs.lemmas.List.Elements.{All-nil, All-cons, All-append, All-head, All-tail, All-weaker}
use Rattle.kv_types.specs.declared.reply.Held.{Held}
use Rattle.kv_types.specs.declared.reply.Reply.{Reply}
use Rattle.model.specs.declared.call.Call.{Call}
use Rattle.model.specs.State.{State, start_state}
use Rattle.model.specs.Call.{IsPrefix, after_call, cut_at, cut_changing, cut_from, is_changing, items_of}
use Rattle.model.proofs.CallsLemmas.{IsPrefix-cut_at}
use Rattle.model.proofs.PrefixLemmas.{IsPrefix-none, IsPrefix-cons, IsPrefix-trans}
use Rattle.model.proofs.ServesLemmas.{IsPrefix-items_of}
use Rattle.machine.specs.Event.{Connection, asked, get_connection, count_open, left}
use Rattle.machine.specs.Sound.{IsHeldAt, SoundOver, SoundReleased, answer_at, answers_from, answers_to, position_with}

-- ---- answers

abbrev IsFrom : ℕ → Held → Type 0
IsFrom low reply = low ≤ reply.position

own-from : (b : Bool) (reply : Reply) (position : ℕ) → All (IsFrom position) (cond b (record { reply = reply; position = position } ∷ []) [])
own-from true reply position = All-cons (IsFrom position) (record { reply = reply; position = position }) [] (le_refl position) (All-nil (IsFrom position))
own-from false reply position = All-nil (IsFrom position)

-- no reply of calls has a position below the one after the first of them, nor below the one that the list had before them
answers-from_next : (s : State) (q c : ℕ) (call : Call) (calls : List Call) → let next = position_with s q call in
    All (IsFrom next) (answers_from (after_call s call) next c calls) → All (IsFrom next) (answers_from s q c (call ∷ calls))
answers-from_next s q c call calls rest =
    let next = position_with s q call in
    All-append (IsFrom next) (answer_at s q c call) (answers_from (after_call s call) next c calls) (own-from (nat_eq call.connection c) call.reply next) rest

answers-from : (s : State) (q c : ℕ) (calls : List Call) → All (IsFrom q) (answers_from s q c calls)
answers-from s q c [] = All-nil (IsFrom q)
answers-from s q c (call ∷ calls) =
    let rest = answers-from (after_call s call) (position_with s q call) c calls in
    All-weaker (IsFrom (position_with s q call)) (IsFrom q) (λ reply h. omega (arith, h)) (answers_from s q c (call ∷ calls)) (answers-from_next s q c call calls rest)

-- of replies that begin those of the first call and then others, the others that are left
prefix-of-answer : (b : Bool) (reply : Held) (out rest kept : List Held) → IsPrefix out (cond b (reply ∷ []) [] ++ rest)
    → ((more : List Held) → (x : List Held) × (out ≡ x ++ more) → IsPrefix more rest → IsPrefix more kept) → IsPrefix out (cond b (reply ∷ []) [] ++ kept)
prefix-of-answer false reply out rest kept prefix shorter = shorter out ([], refl) prefix
prefix-of-answer true reply [] rest kept prefix shorter = IsPrefix-none (reply ∷ kept)
prefix-of-answer true reply (x ∷ out) rest kept prefix shorter =
    let joined : x ∷ (out ++ prefix.rest) ≡ reply ∷ rest = prefix.joined in
    let same : x ≡ reply = cc in
    let others : out ++ prefix.rest ≡ rest = cc in
    subst (λ (y : Held). IsPrefix (x ∷ out) (y ∷ kept)) same (IsPrefix-cons x (shorter out (x ∷ [], refl) (record { rest = prefix.rest; joined = others })))

All-rest : (P : Held → Type 0) (xs ys : List Held) → All P (xs ++ ys) → All P ys
All-rest P [] ys all = all
All-rest P (x ∷ xs) ys all = All-rest P xs ys (All-tail P x (xs ++ ys) all)

-- The first call of these stays in a cut, given what a cut of those after it leaves.
answers-kept : (s : State) (q c : ℕ) (call : Call) (calls cut : List Call) (high : ℕ) (out : List Held) → IsPrefix out (answers_from s q c (call ∷ calls)) → All (IsHeldAt high) out
    → ((more : List Held) → IsPrefix more (answers_from (after_call s call) (position_with s q call) c calls) → All (IsHeldAt high) more → IsPrefix more (answers_from (after_call s call) (position_with s q call) c cut))
    → IsPrefix out (answers_from s q c (call ∷ cut))
answers-kept s q c call calls cut high out prefix held others =
    let after = after_call s call in
    let next = position_with s q call in
    prefix-of-answer (nat_eq call.connection c) (record { reply = call.reply; position = next }) out (answers_from after next c calls) (answers_from after next c cut) prefix
    (λ more split shorter. others more shorter (All-rest (IsHeldAt high) split.0 more (subst (All (IsHeldAt high)) split.1 held)))

-- where no change is left, no reply of a changing call or after it is held
none-held : (s : State) (q c : ℕ) (call : Call) (calls : List Call) (out : List Held) → is_changing s call ≡ true → IsPrefix out (answers_from s q c (call ∷ calls)) → All (IsHeldAt (q + 0)) out → IsPrefix out []
none-held s q c call calls [] e prefix held = IsPrefix-none []
none-held s q c call calls (x ∷ out) e prefix held =
    let next = position_with s q call in
    let more : next ≡ q + 1 = ap (λ b. q + cond b 1 0) e in
    let all = answers-from_next s q c call calls (answers-from (after_call s call) next c calls) in
    let first : IsFrom next x = All-head (IsFrom next) x (out ++ prefix.rest) (subst (All (IsFrom next)) (sym prefix.joined) all) in
    let low : IsHeldAt (q + 0) x = All-head (IsHeldAt (q + 0)) x out held in
    absurd (omega (arith, first, low, more))

-- replies of positions up to this one are replies of the calls that a cut there leaves
answers-cut : (s : State) (q c : ℕ) (calls : List Call) (p : ℕ) (out : List Held) → IsPrefix out (answers_from s q c calls) → All (IsHeldAt (q + p)) out → IsPrefix out (answers_from s q c (cut_from s calls p))
answers-cut s q c [] p out prefix held = prefix
answers-cut s q c (call ∷ calls) p out prefix held =
    let after = after_call s call in
    let next = position_with s q call in
    elim (is_changing s call) as (λ b. is_changing s call ≡ b → IsPrefix out (answers_from s q c (cond b (cut_changing call (cut_from after calls) p) (call ∷ cut_from after calls p)))) [
      | true ↦ λ e. elim p as (λ n. All (IsHeldAt (q + n)) out → IsPrefix out (answers_from s q c (cut_changing call (cut_from after calls) n))) [
        | zero ↦ λ h. none-held s q c call calls out e prefix h
        | suc n ↦ λ h.
            let more : next + n ≡ q + suc n = let one : next ≡ q + 1 = ap (λ b. q + cond b 1 0) e in omega (arith, one) in
            answers-kept s q c call calls (cut_from after calls n) (next + n) out prefix (subst (λ high. All (IsHeldAt high) out) (sym more) h) (λ xs shorter low. answers-cut after next c calls n xs shorter low)
      ] held
      | false ↦ λ e.
          let same : next + p ≡ q + p = let one : next ≡ q + 0 = ap (λ b. q + cond b 1 0) e in omega (arith, one) in
          answers-kept s q c call calls (cut_from after calls p) (next + p) out prefix (subst (λ high. All (IsHeldAt high) out) (sym same) held) (λ xs shorter low. answers-cut after next c calls p xs shorter low)
    ] refl

pub answers_to-cut : (c : ℕ) (calls : List Call) (p : ℕ) (out : List Held) → IsPrefix out (answers_to c calls) → All (IsHeldAt p) out → IsPrefix out (answers_to c (cut_at calls p))
answers_to-cut c calls p out prefix held = answers-cut start_state 0 c calls p out prefix (All-weaker (IsHeldAt p) (IsHeldAt (0 + p)) (λ reply h. omega (arith, h)) out held)

-- ---- connections

pub get-over : (connections : List Connection) (c : ℕ) → get_connection (map left connections) c ≡ left (get_connection connections c)
get-over [] c = refl
get-over (connection ∷ connections) zero = refl
get-over (connection ∷ connections) (suc c) = get-over connections c

pub all-over : (connections : List Connection) (c : ℕ) → (get_connection (map left connections) c).is_open ≡ false
all-over connections c = ap (λ (x : Connection). x.is_open) (get-over connections c)

pub count-over : (connections : List Connection) → count_open (map left connections) ≡ 0
count-over [] = refl
count-over (connection ∷ connections) = let rest = count-over connections in omega (arith, rest)

pub over-crashed : (calls : List Call) (c position p : ℕ) (connection : Connection) → position ≤ p → IsPrefix (items_of c calls) (asked connection.inbound.fed) → SoundReleased calls c position connection.outbound
    → SoundOver (cut_at calls p) c position (left connection)
over-crashed calls c position p connection le items r =
    search (
      IsPrefix-trans (IsPrefix-items_of c (IsPrefix-cut_at calls p)) items,
      answers_to-cut c calls p r.out r.replies (All-weaker (IsHeldAt position) (IsHeldAt p) (λ reply h. omega (arith, h)) r.out r.held),
    )
