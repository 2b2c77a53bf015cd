-- What became of a newcomer.
use Rattle.std.specs.Prelude.{◌≡◌, ◌≢◌, ◌⊎◌, ℕ, Option, Some, Result, IfErr, IfOk}
use Rattle.kv_types.specs.declared.refusal.Refusal.{Refusal}
use Rattle.kv_types.specs.declared.refusal.Refusal.TheVariants.{Exhausted, Fault}
use Rattle.greeting.specs.declared.greeting.Greeting.{Greeting}
use Rattle.standby.specs.declared.standby.Standby.{Standby}
use Rattle.node_log.specs.declared.link_error.LinkError.{LinkError}
use Rattle.node_log.specs.declared.link_error.LinkError.TheVariants.{Stops}
use Rattle.links.specs.Copying.{AsksAndBrings, AsksAndEnds, Gatherer, Wire}
use Rattle.links.specs.Greeting.{Greets}
use Rattle.links.specs.declared.copying.Brought.{Brought}
use Rattle.links.specs.declared.left.Left.{Left}
use Rattle.links.specs.declared.copied.Copied.{Copied}
use Rattle.links.specs.declared.copied.Copied.TheVariants as copied
use Rattle.links.specs.declared.copied.Gathered.{Gathered}
use Rattle.links.specs.declared.copied.Gathered.TheVariants as gathered

-- where it is a standby, this holds of it and of why it takes no further link
abbrev pub IfStandby : {E K D : Type 0} → Copied E K D → (Standby E K D → Option Left → Type 0) → Type 0
IfStandby (copied.Standby node left) is = is node left
IfStandby (copied.Stopped refusal) is = Unit {0}

-- by what a newcomer is stopped
abbrev pub IsStop : Refusal → Type 0
IsStop refusal = (refusal ≡ Fault) ⊎ (refusal ≡ Exhausted)

-- where it is stopped, this holds of why
abbrev pub IfStopped : {E K D : Type 0} → Copied E K D → (Refusal → Type 0) → Type 0
IfStopped (copied.Standby node left) is = Unit {0}
IfStopped (copied.Stopped refusal) is = is refusal

-- the number is taken over by a node of this greeting, which has none
abbrev pub IsAdopted : Greeting → Option ℕ → Type 0
IsAdopted own found = (number : ℕ) → found ≡ Some number → (own.pair ≡ 0) × (number ≢ 0)

-- a newcomer of this greeting has its copy, as this says, or is stopped
abbrev pub IsGathered : Greeting → Gathered → Type 0 → Type 0
IsGathered own (gathered.Copy link) has = has × IsAdopted own link.number
IsGathered own (gathered.Stopped refusal) has = IsStop refusal

-- the newcomer is stopped by a link that ended so
abbrev pub IsStoppedBy : Gathered → LinkError → Type 0
IsStoppedBy (gathered.Copy link) end = ⊥
IsStoppedBy (gathered.Stopped refusal) end = end ≡ Stops refusal

-- What was read and written on a newcomer's link whose sides have greeted: what `serve_copy` says of it, behind the greetings.
pub record ServesNewcomer {N : Type 0} (node : Gatherer N) (own theirs : Greeting) (came : Result Brought LinkError) (first : N) (old : Wire) (last : N) (new : Wire) : Type 0 where
  pub behind : Wire
  pub greets : Greets own theirs old.remaining behind.remaining old.contents behind.contents
  pub brings : IfOk came (λ brought. AsksAndBrings node brought first behind last new)
  pub ends : IfErr came (λ end. AsksAndEnds node end first behind last new)
