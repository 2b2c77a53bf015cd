-- The bytes of replies, of which large values are shared.
use Rattle.std.specs.Prelude.{◌≡◌, ℕ, List, ◌++◌}
use Rattle.reply_gate.specs.declared.shared_part.SharedPart.{SharedPart}
use Rattle.reply_gate.specs.declared.parts.Parts.{Parts}
use Rattle.reply_gate.specs.Woven.{woven}

-- all of them, in order
abbrev pub all_bytes : Parts → List ℕ
all_bytes parts = woven parts.values.items parts.text.items

-- what there was is still there, with more behind it
pub record Grows (old new : Parts) : Type 0 where
  pub texts : List ℕ
  pub text : new.text.items ≡ old.text.items ++ texts
  pub parts : List SharedPart
  pub values : new.values.items ≡ old.values.items ++ parts
