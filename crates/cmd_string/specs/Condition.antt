-- The options of SET (its Redis page): NX and XX. That each may stand as often as wanted is this project's profile.
use Rattle.std.specs.Prelude.{ℕ, Bool, true, not, if◌then◌else◌, List, [], ◌∷◌, Option, Some, None, codes}
use Rattle.std.specs.List.{list_all}
use Rattle.std.specs.Str.{str_eq_ignore_ascii_case}
use Rattle.cmd_string.specs.declared.condition.Condition.{Condition}
use Rattle.cmd_string.specs.declared.condition.Condition.TheVariants.{Always, IfAbsent, IfPresent}

-- the word is the option, in any ASCII case
unfoldable pub is_option : List ℕ → List ℕ → Bool
is_option name word = str_eq_ignore_ascii_case word name

-- no option, NX alone or XX alone; both together and any other word are no options
abbrev pub condition_of : List (List ℕ) → Option Condition
condition_of [] = Some Always
condition_of (option ∷ options) =
    if list_all (is_option (codes "nx")) (option ∷ options) then Some IfAbsent
    else (if list_all (is_option (codes "xx")) (option ∷ options) then Some IfPresent else None)

-- the condition allows to write, where the key is present or not
abbrev pub allows : Condition → (is_present : Bool) → Bool
allows Always is_present = true
allows IfAbsent is_present = not is_present
allows IfPresent is_present = is_present
