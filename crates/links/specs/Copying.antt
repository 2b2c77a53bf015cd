-- How a newcomer serves a link: it says that it wants a copy, takes the parts that come, and acknowledges the end of the copy alone.
use Rattle.std.specs.Prelude.{◌≡◌, ◌≢◌, ◌⊎◌, ℕ, nat_eq, if◌then◌else◌, Bool, true, false, List, [], ◌∷◌, ◌++◌, Option, None, Result, Ok, Err, IfOk}
use Rattle.std.specs.Io.KnownBytes.{Appends, Consumes}
use Rattle.kv_types.specs.declared.refusal.Refusal.{Refusal}
use Rattle.kv_types.specs.declared.refusal.Refusal.TheVariants.{FrameFault, Memory, PositionGap, WrongEpoch}
use Rattle.pmem.specs.Device.{State}
use Rattle.model.specs.Group.{Contents, Versions}
use Rattle.mv_keyspace.specs.Table.{Table}
use Rattle.frames.specs.declared.ack.Ack.{Ack}
use Rattle.frames.specs.declared.copy.CopyEnd.{CopyEnd}
use Rattle.frames.specs.declared.copy.CopyPart.{CopyPart}
use Rattle.standby.specs.declared.newcomer.Newcomer.{Newcomer}
use Rattle.standby.specs.Newcomers.{EndsCopy, TakesPart}
use Rattle.stream_codec.specs.Message.{Sent, Changes, Acknowledged, WantsCopy, sent_of_end, sent_of_part, sent_text}
use Rattle.stream_codec.specs.Stream.{Reaches, fed}
use Rattle.node_log.specs.declared.link_error.LinkError.{LinkError}
use Rattle.node_log.specs.declared.link_error.LinkError.TheVariants.{Closed, Refused}
use Rattle.links.specs.Serving.{ack_text, ends_by}
use Rattle.links.specs.declared.copying.Brought.{Brought}
use Rattle.links.specs.declared.copying.Brought.TheVariants as brought

-- what a node makes of the frames of a copy, and of which epoch it is
pub record Gatherer (N : Type 0) : Type 1 where
  pub takes : CopyPart → N → Result (Unit {0}) Refusal → N → Type 0
  pub ends : CopyEnd → N → Result Ack Refusal → N → Type 0
  pub epoch : N → ℕ

-- the same of a newcomer
abbrev pub newcomer : {E K D : Type 0} → (E → State) → (E → Contents) → (E → Bool) → (E → Versions) → (K → Table) → Gatherer (Newcomer E K D)
newcomer device contents is_faulted staged table = record {
  takes = TakesPart device contents is_faulted staged table;
  ends = EndsCopy device contents is_faulted staged table;
  epoch = λ node. (contents node.engine).current.epoch;
}

-- what a reader has left, and what a writer contains
pub record Wire : Type 0 where
  pub remaining : Option (List ℕ)
  pub contents : Option (List ℕ)

abbrev pub wire : Option (List ℕ) → Option (List ℕ) → Wire
wire remaining contents = record { remaining = remaining; contents = contents }

-- the frame by which a node of this epoch wants a copy, as bytes
unfoldable pub wanted_text : ℕ → List ℕ
wanted_text epoch = sent_text (WantsCopy epoch)

-- ---- messages

-- The node took these messages, in order, each of which is a part of a copy, and nothing else moved it.
pub data TakesParts {N : Type 0} (node : Gatherer N) : N → List Sent → N → Type 0 where
  none : (at : N) → TakesParts node at [] at
  more : (first middle last : N) (messages : List Sent) (part : CopyPart) → TakesParts node first messages middle → node.takes part middle (Ok tt) last
      → TakesParts node first (messages ++ sent_of_part part ∷ []) last

-- why a node of this epoch refuses a frame of that one, which is not for a newcomer
abbrev pub refusal_of_epoch : (own theirs : ℕ) → Refusal
refusal_of_epoch own theirs = if nat_eq theirs own then PositionGap else WrongEpoch

-- The message is for no newcomer, which refuses it so: a group, an acknowledgement, or that the other side wants a copy.
abbrev pub IsMisplaced : ℕ → Sent → Refusal → Type 0
IsMisplaced own (Changes epoch before after changes) refusal = refusal ≡ refusal_of_epoch own epoch
IsMisplaced own (Acknowledged epoch position) refusal = refusal ≡ refusal_of_epoch own epoch
IsMisplaced own (WantsCopy epoch) refusal = refusal ≡ FrameFault
IsMisplaced own other refusal = ⊥

-- The node refused the message so: as it says of a part or an end, or with nothing changed.
abbrev pub RefusesMessage : {N : Type 0} → Gatherer N → N → Sent → Refusal → N → Type 0
RefusesMessage node old message refusal new =
    ((part : CopyPart) × (message ≡ sent_of_part part) × node.takes part old (Err refusal) new)
    ⊎ (((end : CopyEnd) × (message ≡ sent_of_end end) × node.ends end old (Err refusal) new)
    ⊎ (IsMisplaced (node.epoch old) message refusal × (new ≡ old)))

-- The node took the first of these messages, which are parts, and refused the next one, by which the link ended so. It looked at none behind that.
pub record StopsShort {N : Type 0} (node : Gatherer N) (first : N) (messages : List Sent) (end : LinkError) (last : N) : Type 0 where
  pub taken : List Sent
  pub message : Sent
  pub rest : List Sent
  pub middle : N
  pub refusal : Refusal
  pub are : messages ≡ taken ++ message ∷ rest
  pub run : TakesParts node first taken middle
  pub refused : RefusesMessage node middle message refusal last
  pub ends : end ≡ ends_by refusal

-- What was written of this acknowledgement, with these messages behind what it answers, and whether the link has ended: by a write that failed, which may
-- have written the beginning of it; for want of memory, with nothing written; or because something came before it was written, which is a fault.
abbrev pub IsAcknowledged : Ack → List Sent → Result (Unit {0}) LinkError → Option (List ℕ) → Option (List ℕ) → Type 0
IsAcknowledged ack behind (Ok done) before after = (behind ≡ []) × Appends before after (ack_text ack)
IsAcknowledged ack behind (Err Closed) before after = (part : List ℕ) × (rest : List ℕ) × (ack_text ack ≡ part ++ rest) × Appends before after part
IsAcknowledged ack behind (Err (Refused Memory)) before after = Appends before after []
IsAcknowledged ack behind (Err (Refused FrameFault)) before after = (behind ≢ []) × Appends before after (ack_text ack)
IsAcknowledged ack behind other before after = ⊥

-- The node took the first of these messages, which are parts, and then the end of the copy, which it acknowledged. It looked at none behind that.
pub record TakesEnd {N : Type 0} (node : Gatherer N) (first : N) (messages : List Sent) (link : Result (Unit {0}) LinkError) (last : N) (before after : Option (List ℕ)) : Type 0 where
  pub parts : List Sent
  pub end : CopyEnd
  pub ack : Ack
  pub behind : List Sent
  pub middle : N
  pub are : messages ≡ parts ++ sent_of_end end ∷ behind
  pub run : TakesParts node first parts middle
  pub ended : node.ends end middle (Ok ack) last
  pub said : IsAcknowledged ack behind link before after

-- ---- one message, or one piece

-- the message is a part, and the node took it
abbrev pub TakesOnePart : {N : Type 0} → Gatherer N → N → Sent → N → Type 0
TakesOnePart node old message new = (part : CopyPart) × (message ≡ sent_of_part part) × node.takes part old (Ok tt) new

-- the message is the end of a copy, and the node took it, with this acknowledgement
abbrev pub TakesOneEnd : {N : Type 0} → Gatherer N → N → Sent → Ack → N → Type 0
TakesOneEnd node old message ack new = (end : CopyEnd) × (message ≡ sent_of_end end) × node.ends end old (Ok ack) new

-- whether nothing comes behind
abbrev pub IsLast : Bool → List Sent → Type 0
IsLast true behind = behind ≡ []
IsLast false behind = behind ≢ []

-- Why the link ended with a piece that a decoder was fed which held this.
abbrev pub IsPieceEnd : {N : Type 0} → Gatherer N → N → Option (List ℕ) → List ℕ → LinkError → N → Type 0
IsPieceEnd node first held piece end last =
    ((end ≡ Refused Memory) × (last ≡ first))
    ⊎ (((end ≡ Refused FrameFault) × ((fed held piece).unread ≡ None) × TakesParts node first (fed held piece).messages last)
    ⊎ StopsShort node first (fed held piece).messages end last)

-- ---- a link, behind the frame by which a copy is wanted

-- All frames that were read are parts, and the node took them, in order. Nothing was written.
pub record HasParts {N : Type 0} (node : Gatherer N) (first : N) (old : Wire) (unread : Option (List ℕ)) (last : N) (new : Wire) : Type 0 where
  pub text : List ℕ
  pub messages : List Sent
  pub consumed : Consumes old.remaining new.remaining text
  pub read : Reaches text messages unread
  pub run : TakesParts node first messages last
  pub quiet : new.contents ≡ old.contents

-- whether the link has ended, but for what a decoder holds where it has not
abbrev pub link_of : Result (Option (List ℕ)) LinkError → Result (Unit {0}) LinkError
link_of (Ok unread) = Ok tt
link_of (Err end) = Err end

-- The copy has ended: the node took its parts and its end, and what was written is its acknowledgement. What was read behind it the decoder of an open link holds.
pub record HasCopied {N : Type 0} (node : Gatherer N) (first : N) (old : Wire) (link : Result (Option (List ℕ)) LinkError) (last : N) (new : Wire) : Type 0 where
  pub text : List ℕ
  pub messages : List Sent
  pub unread : Option (List ℕ)
  pub consumed : Consumes old.remaining new.remaining text
  pub read : Reaches text messages unread
  pub ended : TakesEnd node first messages (link_of link) last old.contents new.contents
  pub behind : IfOk link (λ held. held ≡ unread)

-- Why the link ended with messages that were taken, or up to the one that was refused. A read failed; there was no memory for what was read last, which is
-- lost; no continuation of what was read is a frame; or a message was refused.
abbrev pub IsEnd : {N : Type 0} → Gatherer N → N → List Sent → Option (List ℕ) → List ℕ → LinkError → N → Type 0
IsEnd node first messages unread lost end last =
    ((end ≡ Closed) × (lost ≡ []) × TakesParts node first messages last)
    ⊎ (((end ≡ Refused Memory) × TakesParts node first messages last)
    ⊎ (((end ≡ Refused FrameFault) × (unread ≡ None) × TakesParts node first messages last)
    ⊎ ((lost ≡ []) × StopsShort node first messages end last)))

-- The link ended before the copy did. Nothing was written.
pub record EndsHalf {N : Type 0} (node : Gatherer N) (first : N) (old : Wire) (end : LinkError) (last : N) (new : Wire) : Type 0 where
  pub text : List ℕ
  pub lost : List ℕ
  pub messages : List Sent
  pub unread : Option (List ℕ)
  pub consumed : Consumes old.remaining new.remaining (text ++ lost)
  pub read : Reaches text messages unread
  pub why : IsEnd node first messages unread lost end last
  pub quiet : new.contents ≡ old.contents

-- what a link came to that did not end by a refusal, and by no read or write that failed, before the copy ended
abbrev pub Brings : {N : Type 0} → Gatherer N → Brought → N → Wire → N → Wire → Type 0
Brings node brought.Closed first old last new = (unread : Option (List ℕ)) × HasParts node first old unread last new
Brings node (brought.Copy link) first old last new = HasCopied node first old link last new

-- one of these, by whether the copy has ended
abbrev pub IsBrought : Brought → Type 0 → Type 0 → Type 0
IsBrought brought.Closed half whole = half
IsBrought (brought.Copy link) half whole = whole

-- the copy has ended, and the link is so
abbrev pub IfCopy : Brought → (Result (Option (List ℕ)) LinkError → Type 0) → Type 0
IfCopy brought.Closed is = ⊥
IfCopy (brought.Copy link) is = is link

-- the same link, with what the decoder holds where it is open
abbrev pub IsLinkWith : Result (Option (List ℕ)) LinkError → Result (Unit {0}) LinkError → Option (List ℕ) → Type 0
IsLinkWith found link unread = (link_of found ≡ link) × IfOk found (λ held. held ≡ unread)

-- ---- a whole link

-- The frame by which a copy is wanted was written whole, and nothing was read before.
pub record Asks (epoch : ℕ) (old asked : Wire) : Type 0 where
  pub same : asked.remaining ≡ old.remaining
  pub written : Appends old.contents asked.contents (wanted_text epoch)

-- That frame was written in part, by a write that failed, or not at all, for want of memory. Nothing was read, and the node is as it was.
pub record IsCutOff {N : Type 0} (node : Gatherer N) (first : N) (old : Wire) (end : LinkError) (last : N) (new : Wire) : Type 0 where
  pub same : last ≡ first
  pub unread : new.remaining ≡ old.remaining
  pub part : List ℕ
  pub rest : List ℕ
  pub split : wanted_text (node.epoch first) ≡ part ++ rest
  pub written : Appends old.contents new.contents part
  pub cause : (end ≡ Closed) ⊎ ((end ≡ Refused Memory) × (part ≡ []))

-- the node said that it wants a copy of its epoch, and then the link came to this
abbrev pub AsksAndBrings : {N : Type 0} → Gatherer N → Brought → N → Wire → N → Wire → Type 0
AsksAndBrings node came first old last new = (asked : Wire) × Asks (node.epoch first) old asked × Brings node came first asked last new

-- the node said in part that it wants a copy, or said it, and then the link ended so
abbrev pub AsksAndEnds : {N : Type 0} → Gatherer N → LinkError → N → Wire → N → Wire → Type 0
AsksAndEnds node end first old last new =
    IsCutOff node first old end last new ⊎ ((asked : Wire) × Asks (node.epoch first) old asked × EndsHalf node first asked end last new)
