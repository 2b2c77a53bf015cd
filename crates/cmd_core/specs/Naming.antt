-- What is named more than once.
use Rattle.std.specs.Prelude.{ℕ, not, List, [], ◌∷◌}
use Rattle.std.specs.List.{filter}
use Rattle.cmd_core.specs.Contents.{same_bytes}

-- each once, in the order of first naming
abbrev pub firsts : List (List ℕ) → List (List ℕ)
firsts [] = []
firsts (name ∷ names) = name ∷ filter (λ other. not (same_bytes name other)) (firsts names)
