-- The bytes of changes, and how many they are.
use Rattle.std.proofs.Common.{◌≡◌, ◌+◌, ◌<◌, List, [], ◌∷◌, ◌++◌, length, refl, sym, ap, ◌∙◌, arith, append_assoc, length-append}
use Rattle.kv_types.specs.declared.change.Change.{Change}
use Rattle.kv_types.specs.Change.{change_text, changes_text, changes_size}

-- a change has at least the byte that tells its kind
pub change_text_nonempty : (change : Change) → 0 < length (change_text change)
change_text_nonempty change = grind arith

pub changes_text-append : (xs ys : List Change) → changes_text (xs ++ ys) ≡ changes_text xs ++ changes_text ys
changes_text-append [] ys = refl
changes_text-append (change ∷ xs) ys = ap (λ rest. change_text change ++ rest) (changes_text-append xs ys) ∙ sym (append_assoc (change_text change) (changes_text xs) (changes_text ys))

pub changes_size-cons : (change : Change) (changes : List Change) → changes_size (change ∷ changes) ≡ length (change_text change) + changes_size changes
changes_size-cons change changes = length-append (change_text change) (changes_text changes)

pub changes_size-append : (xs ys : List Change) → changes_size (xs ++ ys) ≡ changes_size xs + changes_size ys
changes_size-append xs ys = ap length (changes_text-append xs ys) ∙ length-append (changes_text xs) (changes_text ys)
