-- The mark rule, which holds between any two steps, and what each step tells its seat.
use Rattle.std.specs.Prelude.{◌≡◌, ℕ, ◌≤◌, Bool, List, [], ◌∷◌, max, true}
use mathlib.Core.Option.{some}
use lib.ListN.{get_elem?}
use Rattle.atomic_table.specs.Table.{State, Me, Step}
use Rattle.marks.specs.declared.view.MarkView.{MarkView}

-- What a seat knows is at most the words. One that raises the local word is the committer's and knows it exactly; likewise the remote word and the link.
pub record Suits (committer link local remote heard seat : ℕ) (v : MarkView) : Type 0 where
  pub below_local : v.local ≤ local
  pub below_remote : v.remote ≤ remote
  pub below_heard : v.heard ≤ heard
  pub raising_local : v.raises_local ≡ true → (seat ≡ committer) × (v.local ≡ local)
  pub raising_remote : v.raises_remote ≡ true → (seat ≡ link) × (v.remote ≡ remote)

abbrev pub Table : Type 0
Table = State (Unit {0}) MarkView

-- There is a seat of this number, and its view has the raise.
abbrev pub Has : (MarkView → Bool) → List MarkView → ℕ → Type 0
Has raise views seat = (v : MarkView) × (get_elem? views seat ≡ some v) × (raise v ≡ true)

-- The words are three numbers, the last of them 0 or 1, and there are a committer and a link, such that what each seat knows suits them. So the local word is what the committer knows of it, and the remote word what the link knows of it.
pub record Marked (t : Table) : Type 0 where
  pub committer : ℕ
  pub link : ℕ
  pub local : ℕ
  pub remote : ℕ
  pub heard : ℕ
  pub words : t.words ≡ local ∷ remote ∷ heard ∷ []
  pub heard_once : heard ≤ 1
  pub has_committer : Has (λ v. v.raises_local) t.views committer
  pub has_link : Has (λ v. v.raises_remote) t.views link
  pub each : (seat : ℕ) (v : MarkView) → get_elem? t.views seat ≡ some v → Suits committer link local remote heard seat v

abbrev Seat : Type 0
Seat = Me (Unit {0}) MarkView

abbrev At : Type 0
At = Step (Unit {0})

-- afterwards the seat knows `v`, and nothing else of it changed
abbrev pub Learns : Seat → Seat → MarkView → Type 0
Learns m m' v = (m'.0 ≡ v) × (m'.1 ≡ m.1)

-- the seat raised the local word to the number of the step, if the word was below it
abbrev pub RaisesLocal : At → Seat → ℕ → Seat → Type 0
RaisesLocal step m found m' = Learns m m' (record m.0 { local = max m.0.local step.first })

abbrev pub RaisesRemote : At → Seat → ℕ → Seat → Type 0
RaisesRemote step m found m' = Learns m m' (record m.0 { remote = max m.0.remote step.first })

-- the seat found the local word no lower than it knew, and exactly as it knew if it raises that word
abbrev pub FindsLocal : At → Seat → ℕ → Seat → Type 0
FindsLocal step m found m' = (m.0.local ≤ found) × (m.0.raises_local ≡ true → found ≡ m.0.local) × Learns m m' (record m.0 { local = found })

abbrev pub FindsRemote : At → Seat → ℕ → Seat → Type 0
FindsRemote step m found m' = (m.0.remote ≤ found) × (m.0.raises_remote ≡ true → found ≡ m.0.remote) × Learns m m' (record m.0 { remote = found })

-- afterwards the seat knows that the heard word is 1
abbrev pub Hears : At → Seat → ℕ → Seat → Type 0
Hears step m found m' = Learns m m' (record m.0 { heard = 1 })

abbrev pub FindsHeard : At → Seat → ℕ → Seat → Type 0
FindsHeard step m found m' = (m.0.heard ≤ found) × (found ≤ 1) × Learns m m' (record m.0 { heard = found })
