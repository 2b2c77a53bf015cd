-- A number that one thread shows to others, between any two steps.
use Rattle.std.specs.Prelude.{◌≡◌, ℕ, [], ◌∷◌}
use Rattle.atomic_table.specs.Table.{State, Me, Step}
use Rattle.marks.specs.declared.gauge.GaugeView.{GaugeView}

abbrev pub showing : ℕ → GaugeView
showing value = record { shown = value }

-- There is one seat, and the word is what it knows.
pub record IsShown (t : State (Unit {0}) GaugeView) : Type 0 where
  pub value : ℕ
  pub words : t.words ≡ value ∷ []
  pub views : t.views ≡ showing value ∷ []

-- afterwards the seat knows the number of the step, and nothing else of it changed
abbrev pub SetsWord : Step (Unit {0}) → Me (Unit {0}) GaugeView → ℕ → Me (Unit {0}) GaugeView → Type 0
SetsWord step m found m' = (m'.0 ≡ showing step.first) × (m'.1 ≡ m.1)
