-- What stands behind what there was.
use Rattle.std.proofs.Common.{◌≡◌, ℕ, List, [], ◌++◌, refl, sym, ◌∙◌, append-nil}
use Rattle.reply_gate.specs.declared.parts.Parts.{Parts}
use Rattle.reply_gate.specs.Parts.{Grows}

-- text alone was put there
pub grows-text : (old new : Parts) → (rest : List ℕ) × (new.text.items ≡ old.text.items ++ rest) → new.values.items ≡ old.values.items → Grows old new
grows-text old new more values = record { texts = more.0; text = more.1; parts = []; values = values ∙ sym (append-nil old.values.items) }

-- nothing was
pub grows-same : (parts : Parts) → Grows parts parts
grows-same parts = grows-text parts parts ([], sym (append-nil parts.text.items)) refl
