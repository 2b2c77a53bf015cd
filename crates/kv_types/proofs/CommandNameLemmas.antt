-- Each command is found by its own name, and by no other word.
use Rattle.std.proofs.Common.{rules, ◌≡◌, ℕ, Bool, true, false, IsTrue, if◌then◌else◌, List, [], ◌∷◌, Some, refl, ◌∙◌}
use Rattle.std.specs.Str.{str_to_ascii_lowercase}
use Rattle.std.proofs.lemmas.Slice.Eq.{bytes_eq-Decides}
use Rattle.kv_types.specs.declared.command_name.CommandName.{CommandName}
use Rattle.kv_types.specs.declared.command_name.CommandName.TheVariants.{Get}
use Rattle.kv_types.specs.declared.command_name.TheConstants.{COMMANDS}
use Rattle.kv_types.specs.CommandName.{text, find, is_named}

-- what is found depends on the word in lower case alone
same_found : (cs : List CommandName) (a b : List ℕ) → str_to_ascii_lowercase a ≡ str_to_ascii_lowercase b → find cs a ≡ find cs b
unfolding is_named
same_found [] a b same = refl
same_found (c ∷ cs) a b same = rw (same, same_found cs a b same) refl

own_name : (c : CommandName) → find COMMANDS (text c) ≡ Some c
unfolding is_named
own_name Get = refl
own_name _ = refl

in_lower_case : (c : CommandName) → str_to_ascii_lowercase (text c) ≡ text c
in_lower_case Get = refl
in_lower_case _ = refl

lower_of_named : (expected word : List ℕ) → is_named expected word ≡ true → str_to_ascii_lowercase word ≡ str_to_ascii_lowercase expected
unfolding is_named
lower_of_named expected word named = (bytes_eq-Decides (str_to_ascii_lowercase word) (str_to_ascii_lowercase expected)).0 named

pub found : (c : CommandName) (word : List ℕ) → IsTrue (is_named (text c) word) → find COMMANDS word ≡ Some c
found c word named = same_found COMMANDS word (text c) (lower_of_named (text c) word named) ∙ own_name c

first_is_named : (cs : List CommandName) (word : List ℕ) (c : CommandName) → find cs word ≡ Some c → is_named (text c) word ≡ true
first_is_named [] word c is = absurd (search rules)
first_is_named (d ∷ cs) word c is = by_test (is_named (text d) word) refl is (first_is_named cs word c)
  where
    by_test : (b : Bool) → is_named (text d) word ≡ b → (if b then Some d else find cs word) ≡ Some c → (find cs word ≡ Some c → is_named (text c) word ≡ true) → is_named (text c) word ≡ true
    by_test true test same later = search rules
    by_test false test same later = later same

pub named : (c : CommandName) (word : List ℕ) → find COMMANDS word ≡ Some c → str_to_ascii_lowercase word ≡ text c
named c word is = lower_of_named (text c) word (first_is_named COMMANDS word c is) ∙ in_lower_case c
