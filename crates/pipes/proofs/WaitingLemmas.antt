-- A `Waiting` is determined by its items alone.
use Rattle.std.proofs.Common.{◌≡◌, ◌≤◌, length}
use Rattle.std.proofs.Props.{props}
use mathlib.Core.HLevel.{is_prop→PathP}
use Rattle.pipes.specs.declared.limits.TheConstants.{PIPE_ITEMS}
use Rattle.pipes.specs.Waiting.{Waiting}

-- pipes in which the same items wait are equal
pub Waiting-same : {T : Type 0} (a b : Waiting T) → a.items ≡ b.items → a ≡ b
Waiting-same a b e = λ i. record {
  items = e i;
  within = is_prop→PathP (λ j. length (e j) ≤ PIPE_ITEMS) (λ j. hlevel props) a.within b.within i;
}
