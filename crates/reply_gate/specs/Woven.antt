-- A text in which shared values stand.
use Rattle.std.specs.Prelude.{◌≡◌, ℕ, ◌+◌, ◌^◌, ◌<◌, List, [], ◌∷◌, ◌++◌, ◌≤◌, length, take, drop, All}
use Rattle.reply_gate.specs.declared.shared_part.SharedPart.{SharedPart}

-- the bytes of the text with each value in its place
abbrev pub woven : List SharedPart → List ℕ → List ℕ
woven [] text = text
woven (part ∷ parts) text = take part.lead text ++ (part.bytes ++ woven parts (drop part.lead text))

-- how many bytes of text stand before the last value
abbrev pub led_by : List SharedPart → ℕ
led_by [] = 0
led_by (part ∷ parts) = part.lead + led_by parts

-- each value has its place in the text and is not empty, and the counts are right
pub record IsWoven (led shared : ℕ) (parts : List SharedPart) (text : List ℕ) : Type 0 where
  pub places : led ≡ led_by parts
  pub within : led ≤ length text
  pub counted : length (woven parts text) ≡ length text + shared
  pub bounded : shared < 2 ^ 63
  pub full : All (λ part. 0 < length part.bytes) parts
