-- A number that is set is the one that is shown.
use Rattle.std.proofs.Common.{◌≡◌, ℕ, zero, suc, List, [], ◌∷◌, sym, refl, ap, ◌∙◌}
use mathlib.Core.Option.{none, some, some-ne-none}
use lib.ListN.{get_elem?}
use Rattle.std.specs.Prelude.{slice_set}
use Rattle.atomic_table.specs.Table.{step, keeps, Allows}
use Rattle.atomic_table.specs.Table as table
use Rattle.marks.specs.declared.gauge.GaugeView.{GaugeView}
use Rattle.marks.specs.Gauge.{IsShown, SetsWord, showing}

pub begins : (value : ℕ) → IsShown (table.opening (value ∷ []) [] (showing value))
begins value = record { value = value; words = refl; views = refl }

-- the only view is the first
only_first : (own : ℕ) (u v w : GaugeView) → get_elem? (u ∷ []) own ≡ some v → slice_set (u ∷ []) own w ≡ w ∷ []
only_first zero u v w e = refl
only_first (suc own) u v w e = absurd (some-ne-none v (sym e))

pub sets : (slots own : ℕ) (v : GaugeView) (held : List (ℕ × Unit {0})) (k : ℕ) → Allows IsShown slots own (v, held) 0 (λ _. k) (λ _. SetsWord (step slots 0 k 0 none) (v, held) k)
sets slots own v held k t m wide at fits = (
  showing k,
  keeps,
  tt,
  record {
    value = k;
    words = ap (λ ws. slice_set ws 0 k) m.words;
    views = ap (λ vs. slice_set vs own (showing k)) m.views ∙ only_first own (showing m.value) v (showing k) (ap (λ vs. get_elem? vs own) (sym m.views) ∙ at);
  },
  (refl, refl),
)
