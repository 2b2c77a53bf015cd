-- The invariants of a simulated device are propositions: each has at most one proof.
use Rattle.std.specs.Prelude.{ℕ, Bool, true, List, refl}
use Rattle.std.specs.Coded.{Coded, Coded-set, code_by, coded×, coded_ℕ, coded_bool, coded_list, coded_option, Unit-prop, le_prop}
use Rattle.pmem.specs.declared.cells.Cells.{Cells}
use Rattle.pmem.specs.declared.keep.Keep.{Keep}
use Rattle.pmem.specs.declared.keep.Keep.TheVariants.{Unasked, Awaited, Kept, Forgotten}
use Rattle.pmem.specs.declared.history.History.{History}
use Rattle.pmem.specs.Device.{Older, Word}
use Rattle.pmem.specs.Cell.{Holds}
use Rattle.pmem.specs.Keep.{HoldsKept}

abbrev older_code : Coded Older
older_code =
    code_by (ℕ × Bool) (coded× coded_ℕ coded_bool) (λ o. (o.value, o.passed)) (λ p. record { value = p.0; passed = p.1 }) (λ _. refl)

pub Holds-prop : (cells : Cells) (words : ℕ → Word) (starved : Bool) → IsProp (Holds cells words starved)
Holds-prop cells words starved =
    Prim.hlevel (Coded-set coded_ℕ, Coded-set coded_bool, Coded-set (coded_option coded_ℕ), Coded-set (coded_list older_code), le_prop)

abbrev word_code : Coded Word
word_code =
    code_by (ℕ × List Older) (coded× coded_ℕ (coded_list older_code)) (λ w. (w.newest, w.older)) (λ p. record { newest = p.0; older = p.1 }) (λ _. refl)

pub HoldsKept-prop : (keep : Keep) (lines : ℕ) (now : History) (starved : Bool) → IsProp (HoldsKept keep lines now starved)
HoldsKept-prop Unasked lines now starved = Unit-prop
HoldsKept-prop (Awaited more) lines now starved = Unit-prop
HoldsKept-prop (Kept cells after) lines now starved =
    Prim.hlevel (Coded-set coded_ℕ, Coded-set coded_bool, Coded-set (coded_option coded_ℕ), Coded-set (coded_list older_code), Coded-set word_code, le_prop)
HoldsKept-prop (Forgotten after) lines now starved = Coded-set coded_bool starved true
