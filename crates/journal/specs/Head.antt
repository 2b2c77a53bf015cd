-- The head of a journal: the line behind the image. Its second word alone ever changes, so that a crash leaves the old head or the new one.
use Rattle.std.specs.Prelude.{ℕ, List, [], ◌∷◌}
use Rattle.journal.specs.declared.shape.TheConstants.{MAGIC}
use Rattle.journal.specs.declared.shape.Shape.{Shape}

-- the words of the head of a file of this shape
abbrev pub head_of : Shape → ℕ → List ℕ
head_of shape generation = MAGIC ∷ generation ∷ shape.lines ∷ shape.part ∷ 0 ∷ 0 ∷ 0 ∷ 0 ∷ []
