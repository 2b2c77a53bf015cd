-- What the link of a primary starts with that was opened.
use Rattle.std.proofs.Common.{ℕ, ◌^◌, ◌≤◌, sym, subst, ◌∙◌, ap}
use Rattle.kv_types.specs.Change.{changes_size}
use Rattle.model.specs.declared.record.Role.TheVariants as role
use Rattle.model.specs.Group.{Contents, IsConsistent}
use Rattle.mv_keyspace.specs.Table.{records}
use Rattle.redis_core.specs.Sequencing.{Sequencing}
use Rattle.standby_stream.specs.Delta.{IsOpening, LeadsTo, delta_changes}
use Rattle.standby_stream.specs.Stream.{new_stream}
use Rattle.standby_stream.specs.declared.opening.Opening.{Opening}
use Rattle.primary.specs.Recalling.{DeltaLeads}
use Rattle.primary.specs.Resuming.{IsOpened}
use Rattle.primary.proofs.KeptImages.{delta-leads}
use Rattle.links.specs.Ends.{Begin}
use Rattle.links.specs.declared.receiver.AckReceiver.{AckReceiver}
use Rattle.links.specs.declared.sender.LinkSender.{LinkSender}
use Rattle.serving.specs.Linking.{IsLinkOf}

pub link-of : (contents : Contents) (s : Sequencing) (opening : Opening) (position epoch keys : ℕ) (sender : LinkSender) (receiver : AckReceiver)
    → IsConsistent contents → IsOpened contents s opening position epoch keys → Begin epoch opening sender receiver → IsLinkOf contents s sender receiver
link-of contents s opening position epoch keys sender receiver consistent opened begun = record {
  link = begun.link ∙ ap new_stream opened.epoch_is;
  opened_at = ap (λ (o : Opening). o.position) begun.told ∙ opened.opened_at;
  floor = ap (λ (o : Opening). o.floor) begun.told ∙ opened.floor;
  told = subst (IsOpening contents) (sym begun.told) opened.opening_is;
  leads = subst (λ (o : Opening). LeadsTo contents o (records s.table)) (sym begun.told) opened.leads;
  delta = λ past lines' image keyspaces recalled reopened.
      subst (DeltaLeads contents.current.position past) (sym begun.told)
      (delta-leads past lines' image role.Primary contents recalled reopened s opened.over consistent keyspaces opening opened.opened_at opened.floor opened.leads);
  fits = subst (λ (o : Opening). (from : ℕ) → changes_size (delta_changes o from) ≤ 2 ^ 40) (sym begun.told) opened.fits;
  counts_in = begun.counts_in ∙ opened.epoch_is;
  behind = begun.behind;
}
