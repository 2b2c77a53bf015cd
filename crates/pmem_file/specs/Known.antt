-- What a device over a file knows is a fact with one proof at most.
use Rattle.std.specs.Prelude.{ℕ, List}
use Rattle.std.specs.Coded.{Coded-set, coded_ℕ, coded_bool}
use Rattle.pmem_file.specs.declared.notes.Notes.{Notes}
use Rattle.pmem.specs.Device.{Word}
use Rattle.pmem_file.specs.Call.{Call}
use Rattle.pmem_file.specs.Holding.{Holds}
use Rattle.pmem_file.specs.Following.{Copies, IsBlankBehind}

pub Holds-prop : (copy : List ℕ) (notes : Notes) (read : List ℕ) (calls : List Call) (words : ℕ → Word) → IsProp (Holds copy notes read calls words)
Holds-prop copy notes read calls words = Prim.hlevel (Coded-set coded_ℕ, Coded-set coded_bool)

pub Copies-prop : (copy : List ℕ) (notes : Notes) (words : ℕ → Word) → IsProp (Copies copy notes words)
Copies-prop copy notes words = Prim.hlevel (Coded-set coded_ℕ, Coded-set coded_bool)

pub IsBlankBehind-prop : (lines : ℕ) (words : ℕ → Word) (past : List (ℕ → Word)) → IsProp (IsBlankBehind lines words past)
IsBlankBehind-prop lines words past = Prim.hlevel (Coded-set coded_ℕ, Coded-set coded_bool)
