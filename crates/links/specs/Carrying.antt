-- What becomes of what a primary's sender holds, the frames of its link, the ring of groups and the marks, over one connection and over one after another.
use Rattle.std.specs.Prelude.{◌≡◌, ◌⊎◌, ℕ, List, [], Option}
use Rattle.kv_types.specs.declared.refusal.Refusal.TheVariants.{Memory}
use Rattle.model.specs.declared.group.Group.{Group}
use Rattle.pipes.specs.Ring.{RingTakes}
use Rattle.pipes.specs.declared.ring_pipe.RingInlet.{RingInlet}
use Rattle.links.specs.Hearing.{HasHeardBehind}
use Rattle.links.specs.Giving.{HasGiven}
use Rattle.links.specs.Opening.{HearsLink, OpensOrAwaits, OpensTo}
use Rattle.links.specs.Sending.{HasSent}
use Rattle.node_log.specs.declared.log.Lost.{Lost}
use Rattle.node_log.specs.declared.log.Lost.TheVariants.{Ended, Refused}
use Rattle.links.specs.declared.desk.CopyStep.{CopyStep}
use Rattle.links.specs.declared.opened.Peer.{Peer}
use Rattle.links.specs.declared.opened.Peer.TheVariants.{Standby, Newcomer}
use Rattle.standby_stream.specs.declared.copying.Copying.TheVariants.{Follows}
use Rattle.links.specs.declared.receiver.AckReceiver.{AckReceiver}
use Rattle.links.specs.declared.sender.LinkSender.{LinkSender}

module _ {P : Type 0} where
  -- what a take from the ring of groups gives
  abbrev pub GroupTakes : RingInlet Group P → Option Group → RingInlet Group P → Type 0
  GroupTakes = RingTakes {T = Group} {P = P} (λ _ _. Unit {0})

  -- what a take from the ring of a copy's steps gives
  abbrev pub StepTakes : RingInlet CopyStep P → Option CopyStep → RingInlet CopyStep P → Type 0
  StepTakes = RingTakes {T = CopyStep} {P = P} (λ _ _. Unit {0})

-- no group was taken, and no mark was read
abbrev pub TouchesNeither : LinkSender → LinkSender → Type 0
TouchesNeither old new = (new.groups ≡ old.groups) × (new.marks ≡ old.marks)

-- the same, and what is to be sent is what it was
abbrev pub KeepsAll : LinkSender → LinkSender → Type 0
KeepsAll old new = (new.outgoing.link ≡ old.outgoing.link) × (new.outgoing.opening ≡ old.outgoing.opening) × TouchesNeither old new

-- What went out on a link that was open until it ended for this reason, and what that left of the frames, the groups and the marks. Of the connection no more is
-- known.
abbrev pub SendsOnLink : Lost → LinkSender → LinkSender → Type 0
SendsOnLink why old new = (before : Option (List ℕ)) × (after : Option (List ℕ)) × (rest : List ℕ)
    × HasSent GroupTakes (why ≡ Refused Memory) old.marks.remote old.outgoing.link old.groups before new.marks.remote new.outgoing.link new.groups after rest
    × (why ≡ Ended → rest ≡ [])

-- What a newcomer was given on a link, and what that left of the frames, the groups and the steps of the copy. Of the connection no more is known.
abbrev pub GivesCopy : LinkSender → LinkSender → Type 0
GivesCopy old new = (attempt : ℕ) × (before : Option (List ℕ)) × (after : Option (List ℕ)) × (rest : List ℕ)
    × HasGiven GroupTakes StepTakes attempt old.outgoing.link old.groups old.desk.copies before new.outgoing.link new.groups new.desk.copies after rest

-- the same, and then nothing, or what goes out to a standby until the link ended for this reason
abbrev pub GivesAndSends : Lost → LinkSender → LinkSender → Type 0
GivesAndSends why old new = (middle : LinkSender) × GivesCopy old middle × (KeepsAll middle new ⊎ ((middle.outgoing.link.copying ≡ Follows) × SendsOnLink why middle new))

-- what goes out on a link to this peer until it ended for this reason
abbrev pub SendsTo : Peer → Lost → LinkSender → LinkSender → Type 0
SendsTo (Standby position) why old new = SendsOnLink why old new
SendsTo Newcomer why old new = GivesAndSends why old new

-- the same, or there was no thread for the receiver, and nothing was sent
abbrev pub GoesTo : Peer → LinkSender → LinkSender → Type 0
GoesTo peer old new = KeepsAll old new ⊎ ((why : Lost) × SendsTo peer why old new)

-- What a sender did over one connection, and what its receiver made of that.
pub data ServesLink : LinkSender → AckReceiver → LinkSender → AckReceiver → Type 0 where
  -- no link opened
  unopened : (old new : LinkSender) (receiver heard : AckReceiver) → HearsLink receiver heard → KeepsAll old new → ServesLink old receiver new heard
  -- one opened by the first message, and was let go before anything was sent
  let_go : (old new : LinkSender) (receiver heard : AckReceiver) → OpensOrAwaits receiver heard old.outgoing new.outgoing → TouchesNeither old new → ServesLink old receiver new heard
  -- one opened to this peer by its first message, and this went out on it and was heard behind that
  served : (old middle new : LinkSender) (receiver hearing heard : AckReceiver) (peer : Peer) (bytes left held : Option (List ℕ))
      → OpensTo bytes left peer held receiver hearing old.outgoing middle.outgoing → TouchesNeither old middle → GoesTo peer middle new → HasHeardBehind hearing held heard
      → ServesLink old receiver new heard

-- The same of connections one after another. From one to the next the sender and the receiver stay as they are.
pub data ServesLinks : LinkSender → AckReceiver → LinkSender → AckReceiver → Type 0 where
  begun : (sender : LinkSender) (receiver : AckReceiver) → ServesLinks sender receiver sender receiver
  another : (first middle last : LinkSender) (receiver hearing heard : AckReceiver) → ServesLinks first receiver middle hearing → ServesLink middle hearing last heard
      → ServesLinks first receiver last heard
