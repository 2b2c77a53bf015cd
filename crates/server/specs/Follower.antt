-- What an image was opened as, and what may come to it on a link.
use Rattle.std.specs.Prelude.{◌≡◌, Bool, Some, None}
use Rattle.pmem.specs.Device.{State}
use Rattle.model.specs.Group.{Contents, Versions}
use Rattle.mv_keyspace.specs.Table.{Table}
use Rattle.standby.specs.Newcomers.{AwaitsCopy}
use Rattle.standby.specs.Taking.{Stands}
use Rattle.links.specs.declared.copied.Copied.{Copied}
use Rattle.links.specs.declared.copied.Copied.TheVariants as copied
use Rattle.links.specs.declared.left.Left.{Left}
use Rattle.links.specs.declared.left.Left.TheVariants.{Stopped}
use Rattle.server.specs.declared.follower.Follower.{Follower}
use Rattle.server.specs.declared.follower.Follower.TheVariants.{Standby, Newcomer}

-- a standby may take frames, and a newcomer the parts of a copy
module _ {E K D : Type 0} (device : E → State) (contents : E → Contents) (is_faulted : E → Bool) (staged : E → Versions) (table : K → Table) where
  abbrev pub IsReady : Follower E K D → Type 0
  IsReady (Standby node) = Stands device contents is_faulted table node
  IsReady (Newcomer node) = AwaitsCopy device contents is_faulted staged table node

-- why a newcomer takes no further link, where what became of it says so
abbrev pub IsWhyNone : {E K D : Type 0} → Left → Copied E K D → Type 0
IsWhyNone left (copied.Standby node None) = ⊥
IsWhyNone left (copied.Standby node (Some why)) = left ≡ why
IsWhyNone left (copied.Stopped why) = left ≡ Stopped why
