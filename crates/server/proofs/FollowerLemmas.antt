-- What follows a primary stands where it is served.
use Rattle.std.proofs.Common.{◌≡◌, Bool, true, false, true≢false, Option, Some, None, sym, ap, subst}
use Rattle.std.specs.Prelude.{is_none}
use Rattle.kv_types.specs.declared.refusal.Refusal.TheVariants.{Fault}
use Rattle.pmem.specs.Device.{State}
use Rattle.model.specs.Group.{Contents, Versions}
use Rattle.mv_keyspace.specs.Table.{Table}
use Rattle.standby.specs.declared.standby.Standby.{Standby as Node}
use Rattle.standby.specs.Taking.{Stands}
use Rattle.links.specs.Copied.{IfStandby}
use Rattle.links.specs.declared.copied.Copied.{Copied}
use Rattle.links.specs.declared.copied.Copied.TheVariants.{Standby as Became}
use Rattle.links.specs.declared.left.Left.TheVariants.{Stopped}
use Rattle.server.specs.Follower.{IsReady}
use Rattle.server.specs.declared.follower.Follower.{Follower}
use Rattle.server.specs.declared.follower.Follower.TheVariants.{Standby}

module _ {E K D : Type 0} (device : E → State) (contents : E → Contents) (is_faulted : E → Bool) (table : K → Table) where
  -- a standby that was opened
  pub stands-opened : (staged : E → Versions) (opened : Follower E K D) (node' node : Node E K D) → IsReady device contents is_faulted staged table opened → opened ≡ Standby node' → node ≡ node'
      → Stands device contents is_faulted table node
  stands-opened staged opened node' node ready is same = subst (Stands device contents is_faulted table) (sym same) (subst (IsReady device contents is_faulted staged table) is ready)

  -- and one that a newcomer has become
  pub stands-copied : (copied : Copied E K D) (node' node : Node E K D)
      → IfStandby copied (λ at left. ¬ (left ≡ Some (Stopped Fault)) → Stands device contents is_faulted table at) → copied ≡ Became node' None → node ≡ node' → Stands device contents is_faulted table node
  stands-copied copied node' node stands is same =
      subst (Stands device contents is_faulted table) (sym same)
      (subst (λ found. IfStandby found (λ at left. ¬ (left ≡ Some (Stopped Fault)) → Stands device contents is_faulted table at)) is stands (λ some. true≢false (ap is_none some)))
