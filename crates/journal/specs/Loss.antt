-- What a crash leaves of words that were written over zeros, and not synced since: each of them, by itself, is there or is 0.
use Rattle.std.specs.Prelude.{◌≡◌, ◌⊎◌, ℕ, List, [], ◌∷◌}

-- what a crash may leave of these words
abbrev pub IsLossOf : List ℕ → List ℕ → Type 0
IsLossOf [] left = left ≡ []
IsLossOf (x ∷ words) [] = ⊥
IsLossOf (x ∷ words) (y ∷ left) = ((y ≡ 0) ⊎ (y ≡ x)) × IsLossOf words left
