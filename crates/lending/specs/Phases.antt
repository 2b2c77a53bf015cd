-- Where a lent value is, and what each end then knows and has.
use Rattle.std.specs.Prelude.{ℕ, Bool, true, false, List, [], ◌∷◌, Option, Some, None}
use mathlib.Core.Option as maybe

pub data Phase (T : Type 0) : Type 0 where
  -- nobody has the place yet
  new : Phase T
  -- the lender has the place, and nothing is out
  home : Phase T
  -- a value lies there, for the borrower
  lent : T → Phase T
  -- the borrower has the place, and this value
  taken : T → Phase T
  -- the second value lies there for the lender, who lent the first
  returned : T → T → Phase T

module _ {T : Type 0} where
  abbrev pub word_of : Phase T → ℕ
  word_of new = 4
  word_of home = 0
  word_of (lent v) = 1
  word_of (taken v) = 2
  word_of (returned v w) = 3

  -- what lies at the place, unless an end has it
  abbrev pub place_of : Phase T → maybe.Option (Option T)
  place_of new = maybe.some None
  place_of home = maybe.none
  place_of (lent v) = maybe.some (Some v)
  place_of (taken v) = maybe.none
  place_of (returned v w) = maybe.some (Some w)

  abbrev pub is_new : Phase T → Bool
  is_new new = true
  is_new home = false
  is_new (lent v) = false
  is_new (taken v) = false
  is_new (returned v w) = false

  -- what is out, as it was lent
  abbrev pub lent_of : Phase T → Option T
  lent_of new = None
  lent_of home = None
  lent_of (lent v) = Some v
  lent_of (taken v) = Some v
  lent_of (returned v w) = Some v

  -- what the borrower has, as it took it
  abbrev pub taken_of : Phase T → Option T
  taken_of new = None
  taken_of home = None
  taken_of (lent v) = None
  taken_of (taken v) = Some v
  taken_of (returned v w) = None

  -- a value that is lent is one that the terms speak of, and one that was given back one that they allow of it
  abbrev pub Agrees : (T → Type 0) → (T → T → Type 0) → Phase T → Type 0
  Agrees offers keeps new = Unit {0}
  Agrees offers keeps home = Unit {0}
  Agrees offers keeps (lent v) = offers v
  Agrees offers keeps (taken v) = Unit {0}
  Agrees offers keeps (returned v w) = keeps v w

  -- the lender's seat has the empty place where nothing is out
  abbrev pub lender_has : Option T → List (ℕ × Option T)
  lender_has None = (0, None) ∷ []
  lender_has (Some v) = []

  -- the borrower's seat has the empty place while it has a value
  abbrev pub borrower_has : Option T → List (ℕ × Option T)
  borrower_has None = []
  borrower_has (Some v) = (0, None) ∷ []
