-- The rule of a lending, which holds between any two steps, and what each step tells its seat.
use Rattle.std.specs.Prelude.{◌≡◌, ◌≢◌, ℕ, ◌+◌, true, false, List, [], ◌∷◌, Option, Some, None}
use mathlib.Core.Option.{some}
use lib.ListN.{get_elem?}
use Rattle.atomic_table.specs.Table.{State, Me, Step, rest}
use Rattle.lending.specs.declared.view.LendingView.{LendingView}
use Rattle.lending.specs.Phases.{Phase, word_of, place_of, is_new, lent_of, taken_of, Agrees}

abbrev Seat : Type 0 → Type 0
Seat T = Me (Option T) (LendingView T)

abbrev At : Type 0 → Type 0
At T = Step (Option T)

module _ {T : Type 0} where
  -- A seat that lends is the lender's, and knows what is out. One that borrows is the borrower's, and knows what it has.
  pub record Suits (lender borrower : ℕ) (phase : Phase T) (seat : ℕ) (v : LendingView T) : Type 0 where
    pub lending : v.lends ≡ true → (seat ≡ lender) × (v.new ≡ is_new phase) × (v.lent ≡ lent_of phase)
    pub borrowing : v.borrows ≡ true → (seat ≡ borrower) × (v.taken ≡ taken_of phase)

  -- The word says where the value is, and what each seat knows suits that.
  pub record Ruled (offers : T → Type 0) (keeps : T → T → Type 0) (t : State (Option T) (LendingView T)) : Type 0 where
    pub phase : Phase T
    pub lender : ℕ
    pub borrower : ℕ
    pub words : t.words ≡ word_of phase ∷ []
    pub homes : t.homes ≡ place_of phase ∷ []
    pub agrees : Agrees offers keeps phase
    pub each : (seat : ℕ) (v : LendingView T) → get_elem? t.views seat ≡ some v → Suits lender borrower phase seat v

  -- the first seat is for both ends
  abbrev pub opening : LendingView T
  opening = record { lends = true; borrows = true; new = true; lent = None; taken = None; asked = 0; found = 0 }

  -- what a split leaves, and what it gives to the new seat
  abbrev pub lending : LendingView T → LendingView T
  lending v = record v { borrows = false }

  abbrev pub borrowing : LendingView T → LendingView T
  borrowing v = record v { lends = false }

  -- what the slot has that the seat took last
  abbrev pub front : List (ℕ × Option T) → Option T
  front [] = None
  front (x ∷ xs) = x.1

  -- the seat took the empty place
  abbrev pub Opens : At T → Seat T → ℕ → Seat T → Type 0
  Opens step m found m' = (m'.0 ≡ record m.0 { new = false }) × (m'.1 ≡ (0, None) ∷ m.1)

  -- the seat lent what it had at the place
  abbrev pub Lends : At T → Seat T → ℕ → Seat T → Type 0
  Lends step m found m' = (m'.0 ≡ record m.0 { lent = front m.1 }) × (m'.1 ≡ rest m.1)

  -- the seat gave back what it had at the place
  abbrev pub Gives : At T → Seat T → ℕ → Seat T → Type 0
  Gives step m found m' = (m'.0 ≡ record m.0 { taken = None }) × (m'.1 ≡ rest m.1)

  -- the seat asked once more, and found this word
  abbrev pub asking : ℕ → LendingView T → LendingView T
  asking found v = record v { asked = v.asked + 1; found = found }

  -- where the seat found the word that it looked for, it took the place, with a value of which the terms speak
  abbrev pub Takes : (T → Type 0) → At T → Seat T → ℕ → Seat T → Type 0
  Takes offers step m found m' =
      (found ≡ step.first → (v : T) × offers v × (m'.0 ≡ record (asking found m.0) { taken = Some v }) × (m'.1 ≡ (0, Some v) ∷ m.1))
      × (found ≢ step.first → (m'.0 ≡ asking found m.0) × (m'.1 ≡ m.1))

  -- where the seat found the word that it looked for, it took the place, with a value that the terms allow of the one that it lent
  abbrev pub TakesBack : (T → T → Type 0) → At T → Seat T → ℕ → Seat T → Type 0
  TakesBack keeps step m found m' =
      (found ≡ step.first → (v : T) × (w : T) × (m.0.lent ≡ Some v) × keeps v w × (m'.0 ≡ record (asking found m.0) { lent = None }) × (m'.1 ≡ (0, Some w) ∷ m.1))
      × (found ≢ step.first → (m'.0 ≡ asking found m.0) × (m'.1 ≡ m.1))
