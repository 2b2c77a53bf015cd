-- Each command that is served is found by its own name, and by no other word.
use Rattle.std.proofs.Common.{rules, ◌≡◌, ℕ, IsTrue, List, Option, Some, None, ap}
use Rattle.std.specs.Str.{str_to_ascii_lowercase}
use Rattle.kv_types.specs.declared.command_name.CommandName.{CommandName}
use Rattle.kv_types.specs.declared.command_name.TheConstants.{COMMANDS}
use Rattle.kv_types.specs.CommandName.{text, find, is_named}
use Rattle.kv_types.proofs.CommandNameLemmas as all
use Rattle.cmd_table.specs.Row.{if_served, command_named}

pub found : (c : CommandName) (word : List ℕ) → IsTrue (is_named (text c) word) → command_named word ≡ if_served (Some c)
found c word named = ap if_served (all.found c word named)

if_served-some : (o : Option CommandName) (c : CommandName) → if_served o ≡ Some c → o ≡ Some c
if_served-some None c is = is
if_served-some (Some d) c is = search rules

pub named : (c : CommandName) (word : List ℕ) → command_named word ≡ Some c → str_to_ascii_lowercase word ≡ text c
named c word is = all.named c word (if_served-some (find COMMANDS word) c is)
