-- Places of connections: those of nobody, and whose the one is who is there.
use Rattle.std.proofs.Common.{◌≡◌, ℕ, zero, suc, ◌++◌, List, [], ◌∷◌, length, Option, Some, None, IfSome, refl, sym}
use Rattle.pipes.specs.declared.limits.TheConstants.{MAX_SEATS}
use Rattle.serving.specs.declared.open_connection.OpenConnection.{OpenConnection}
use Rattle.serving.specs.Places.{AreInPlace, connection_at}

abbrev pub AreEmpty : List (Option OpenConnection) → Type 0
AreEmpty places = (k : ℕ) → connection_at places k ≡ None

pub none-empty : AreEmpty []
none-empty zero = refl
none-empty (suc k) = refl

pub empty-more : (places : List (Option OpenConnection)) → AreEmpty places → AreEmpty (places ++ None ∷ [])
empty-more [] empty zero = refl
empty-more [] empty (suc k) = refl
empty-more (place ∷ places) empty zero = empty zero
empty-more (place ∷ places) empty (suc k) = empty-more places (λ j. empty (suc j)) k

pub empty-in-place : (places : List (Option OpenConnection)) → length places ≡ MAX_SEATS → AreEmpty places → AreInPlace places
empty-in-place places all empty = record { all = all; own = λ k connection is. absurd (let none = empty k in cc) }

-- who is taken out of a place is of its seat
pub own-lifted : (places : List (Option OpenConnection)) (k : ℕ) (place : Option OpenConnection) → AreInPlace places → place ≡ connection_at places k
    → IfSome place (λ connection. connection.arrival.seat ≡ k)
own-lifted places k None are is = tt
own-lifted places k (Some connection) are is = are.own k connection (sym is)
