-- Laws of the list of connections: what a change to one of them does to it and to the others.
use Rattle.std.proofs.Common.{◌≡◌, ◌≢◌, ℕ, zero, suc, ◌<◌, ◌≤◌, ◌+◌, true, false, cond, List, [], ◌∷◌, ◌++◌, length, refl, sym, ap, subst, arith}
use Rattle.std.proofs.Common.{inl, inr}
use Rattle.std.proofs.lemmas.Bool.{cases_eq}
use Rattle.machine.specs.Event.{Connection, no_connection, new_connection, get_connection, count_open, changed_at}

pub get-changed_same : (c : ℕ) (change : Connection → Connection) (connections : List Connection) → c < length connections → get_connection (changed_at c change connections) c ≡ change (get_connection connections c)
get-changed_same c change [] lt = absurd (omega arith)
get-changed_same zero change (connection ∷ connections) lt = refl
get-changed_same (suc c) change (connection ∷ connections) lt = get-changed_same c change connections (omega arith)

pub get-changed_other : (c d : ℕ) (change : Connection → Connection) (connections : List Connection) → c ≢ d → get_connection (changed_at c change connections) d ≡ get_connection connections d
get-changed_other c d change [] differ = refl
get-changed_other zero zero change (connection ∷ connections) differ = absurd (differ refl)
get-changed_other zero (suc d) change (connection ∷ connections) differ = refl
get-changed_other (suc c) zero change (connection ∷ connections) differ = refl
get-changed_other (suc c) (suc d) change (connection ∷ connections) differ = get-changed_other c d change connections (λ same. differ (ap suc same))

pub length-changed_at : (c : ℕ) (change : Connection → Connection) (connections : List Connection) → length (changed_at c change connections) ≡ length connections
length-changed_at c change [] = refl
length-changed_at zero change (connection ∷ connections) = refl
length-changed_at (suc c) change (connection ∷ connections) = ap suc (length-changed_at c change connections)

pub changed-twice : (c : ℕ) (first second : Connection → Connection) (connections : List Connection) → changed_at c second (changed_at c first connections) ≡ changed_at c (λ connection. second (first connection)) connections
changed-twice c first second [] = refl
changed-twice zero first second (connection ∷ connections) = refl
changed-twice (suc c) first second (connection ∷ connections) = ap (λ rest. connection ∷ rest) (changed-twice c first second connections)

-- beyond the last connection `get_connection` gives `no_connection`, and nothing has come from one that enters
pub get-entered : {X : Type 0} (part : Connection → X) → part new_connection ≡ part no_connection → (connections : List Connection) (c : ℕ) → part (get_connection (connections ++ new_connection ∷ []) c) ≡ part (get_connection connections c)
get-entered part new [] zero = new
get-entered part new [] (suc c) = refl
get-entered part new (connection ∷ connections) zero = refl
get-entered part new (connection ∷ connections) (suc c) = get-entered part new connections c

pub get-past : (connections : List Connection) (c : ℕ) → length connections ≤ c → get_connection connections c ≡ no_connection
get-past [] c le = refl
get-past (connection ∷ connections) zero le = absurd (omega arith)
get-past (connection ∷ connections) (suc c) le = get-past connections c (omega arith)

-- those that were there stay
pub get-before : (connections more : List Connection) (c : ℕ) → c < length connections → get_connection (connections ++ more) c ≡ get_connection connections c
get-before [] more c lt = absurd (omega arith)
get-before (connection ∷ connections) more zero lt = refl
get-before (connection ∷ connections) more (suc c) lt = get-before connections more c (omega arith)

-- What holds of each connection after one entered: it holds of that one, and of each other one as before.
pub each-entered : (P : ℕ → Connection → Type 0) (connections : List Connection) → ((d : ℕ) → P d (get_connection connections d)) → P (length connections) new_connection → (d : ℕ) → P d (get_connection (connections ++ new_connection ∷ []) d)
each-entered P [] others own zero = own
each-entered P [] others own (suc d) = others (suc d)
each-entered P (connection ∷ connections) others own zero = others zero
each-entered P (connection ∷ connections) others own (suc d) = each-entered (λ e. P (suc e)) connections (λ e. others (suc e)) own d

-- What holds of each connection after a change to one of them: it holds of that one changed, and of each other one unchanged.
pub each-changed : (P : ℕ → Connection → Type 0) (c : ℕ) (change : Connection → Connection) (connections : List Connection) → c < length connections
    → P c (change (get_connection connections c)) → ((d : ℕ) → c ≢ d → P d (get_connection connections d)) → (d : ℕ) → P d (get_connection (changed_at c change connections) d)
each-changed P c change connections lt own others d =
    elim (cases_eq c d) [
      | inl same ↦ subst (λ e. P e (get_connection (changed_at c change connections) e)) same (subst (P c) (sym (get-changed_same c change connections lt)) own)
      | inr differ ↦ subst (P d) (sym (get-changed_other c d change connections differ)) (others d differ)
    ]

-- each connection stands to what it is after a change to one of them as that one does, where each stands so to itself
pub each-related : (R : Connection → Connection → Type 0) → ((connection : Connection) → R connection connection) → (c : ℕ) (change : Connection → Connection) (connections : List Connection)
    → ((connection : Connection) → R connection (change connection)) → (d : ℕ) → R (get_connection connections d) (get_connection (changed_at c change connections) d)
each-related R itself c change [] each d = itself no_connection
each-related R itself zero change (connection ∷ connections) each zero = each connection
each-related R itself zero change (connection ∷ connections) each (suc d) = itself (get_connection connections d)
each-related R itself (suc c) change (connection ∷ connections) each zero = itself connection
each-related R itself (suc c) change (connection ∷ connections) each (suc d) = each-related R itself c change connections each d

-- a part that a change keeps of the connection that it changes is kept in all connections
pub same-changed : {X : Type 0} (part : Connection → X) (c : ℕ) (change : Connection → Connection) (connections : List Connection) → ((connection : Connection) → part (change connection) ≡ part connection)
    → (d : ℕ) → part (get_connection (changed_at c change connections) d) ≡ part (get_connection connections d)
same-changed part c change connections same d = each-related (λ old new. part new ≡ part old) (λ connection. refl) c change connections same d

-- ---- open connections

-- an open one is among them
pub open-lt : (connections : List Connection) (c : ℕ) → (get_connection connections c).is_open ≡ true → c < length connections
open-lt [] c e = cc
open-lt (connection ∷ connections) zero e = omega arith
open-lt (connection ∷ connections) (suc c) e = let lt = open-lt connections c e in omega arith

-- what changes of a connection when its condition stays leaves as many open
pub count-changed : (c : ℕ) (change : Connection → Connection) (connections : List Connection) → ((connection : Connection) → (change connection).is_open ≡ connection.is_open) → count_open (changed_at c change connections) ≡ count_open connections
count-changed c change [] same = refl
count-changed zero change (connection ∷ connections) same = ap (λ b. cond b 1 0 + count_open connections) (same connection)
count-changed (suc c) change (connection ∷ connections) same = ap (λ n. cond connection.is_open 1 0 + n) (count-changed c change connections same)

-- one that enters is one more
pub count-entered : (connections : List Connection) → count_open (connections ++ new_connection ∷ []) ≡ count_open connections + 1
count-entered [] = refl
count-entered (connection ∷ connections) = let rest = count-entered connections in omega (arith, rest)

-- and one that leaves is one less
pub count-left : (c : ℕ) (change : Connection → Connection) (connections : List Connection) → (get_connection connections c).is_open ≡ true → ((connection : Connection) → (change connection).is_open ≡ false)
    → count_open connections ≡ count_open (changed_at c change connections) + 1
count-left c change [] e shut = cc
count-left zero change (connection ∷ connections) e shut = simp (e, shut connection) (omega arith)
count-left (suc c) change (connection ∷ connections) e shut = let rest = count-left c change connections e shut in omega (arith, rest)
