-- What the link of a primary starts with.
use Rattle.std.specs.Prelude.{◌≡◌, ℕ, ◌^◌, ◌≤◌}
use Rattle.kv_types.specs.Change.{changes_size}
use Rattle.model.specs.declared.record.Role.TheVariants as role
use Rattle.model.specs.Group.{Contents}
use Rattle.model.specs.Image.{Image}
use Rattle.mv_keyspace.specs.Table.{records}
use Rattle.redis_core.specs.Sequencing.{Sequencing}
use Rattle.wbl_engine.specs.Restarting.{IsReopened}
use Rattle.primary.specs.Recalling.{AreKeyspaces, DeltaLeads, ImageRecalls, Past}
use Rattle.standby_stream.specs.Delta.{IsOpening, LeadsTo, delta_changes}
use Rattle.standby_stream.specs.Stream.{new_stream}
use Rattle.links.specs.declared.receiver.AckReceiver.{AckReceiver}
use Rattle.links.specs.declared.sender.LinkSender.{LinkSender}
use Rattle.links.specs.declared.standing.Standing.TheVariants.{Behind}

-- Of a primary whose image was opened with these contents: whatever the past, from each position from its floor on, the delta that is sent leads to the
-- keyspace that was opened.
abbrev pub LeadsFromEach : Contents → LinkSender → Type 0
LeadsFromEach contents sender =
    (past : Past) (lines' : ℕ) (image : Image) → AreKeyspaces past → ImageRecalls past image → IsReopened lines' image role.Primary contents
    → DeltaLeads contents.current.position past sender.outgoing.opening

-- Both ends are of the image that was opened with these contents: frames and acknowledgements are of its record's epoch, and what a standby is told that is
-- behind is what was in it, at its position; from wherever the image recalls the keyspace at which the standby stands, that leads to the one that is served.
-- Nothing was sent, nothing was acknowledged, and the standby was never ahead.
pub record IsLinkOf (contents : Contents) (s : Sequencing) (sender : LinkSender) (receiver : AckReceiver) : Type 0 where
  pub link : sender.outgoing.link ≡ new_stream contents.current.epoch
  pub opened_at : sender.outgoing.opening.position ≡ contents.current.position
  -- a standby below it, but for one at 0, is not served
  pub floor : sender.outgoing.opening.floor ≡ contents.current.floor
  pub told : IsOpening contents sender.outgoing.opening
  pub leads : LeadsTo contents sender.outgoing.opening (records s.table)
  pub delta : LeadsFromEach contents sender
  -- and one frame has room for it
  pub fits : (from : ℕ) → changes_size (delta_changes sender.outgoing.opening from) ≤ 2 ^ 40
  pub counts_in : receiver.epoch ≡ contents.current.epoch
  pub behind : receiver.standing ≡ Behind
