-- What stays as it was: where a fence fails, of the nodes in any event, and where an event is behind the connections.
use Rattle.std.proofs.Common.{◌≡◌, ℕ, ◌+◌, ◌≤◌, ◌⊎◌, true, false, cond, nat_le, List, Option, refl, sym, ap, subst, arith, inl, inr, Some, None}
use Rattle.machine.specs.declared.event.Cut.{Cut}
use Rattle.machine.specs.declared.event.Node.{Node}
use Rattle.machine.specs.declared.event.Node.TheVariants as nodes
use Rattle.machine.specs.Event.{Span, Told, Changes, Part, End, Role, Follower, Uncopied, Copying, Follows, Awaited, Sending, TakesOwn, TakesChanges, TakesEnd, AsFollower, counts, sent, sent_with, ended_at, knowing, joined, Acknowledgement, Frame, Link, Applies, Disk, without_first, Standby, Remains, At, AsPrimary, World, Takes, told, crashed, halted, on_disk, asked_to_fail, left_by, Fails}

-- ---- a fence that fails

-- all but the condition of the nodes and of their devices is as it was
pub record Rests (old new : World) : Type 0 where
  pub connections : new.primary.connections ≡ old.primary.connections
  pub calls : new.primary.calls ≡ old.primary.calls
  pub committer : new.primary.committer ≡ old.primary.committer
  pub link : new.primary.link ≡ old.primary.link
  pub epoch : new.primary.epoch ≡ old.primary.epoch
  pub position : new.standby.position ≡ old.standby.position
  pub wire : new.wire ≡ old.wire

-- where it is another world only by its name
rests-as : {w is new : World} → new ≡ is → Rests w is → Rests w new
rests-as now rests = rw now rests

pub rests-Fails : (w new : World) (node : Node) (call : Cut) → Fails w node call new → Rests w new
rests-Fails w new nodes.Primary call fails =
    let is : Rests w (halted nodes.Primary (left_by w nodes.Primary call) w) =
    record { connections = refl; calls = refl; committer = refl; link = refl; epoch = refl; position = refl; wire = refl } in rests-as fails.now is
rests-Fails w new nodes.Standby call fails =
    let is : Rests w (halted nodes.Standby (left_by w nodes.Standby call) w) =
    record { connections = refl; calls = refl; committer = refl; link = refl; epoch = refl; position = refl; wire = refl } in rests-as fails.now is

-- ---- the nodes

-- both nodes have the devices that they had, and the epoch is the same
pub record KeepsNodes (w new : World) : Type 0 where
  pub primary_disk : new.primary.disk.number ≡ w.primary.disk.number
  pub standby_disk : new.standby.disk.number ≡ w.standby.disk.number
  pub epoch : new.primary.epoch ≡ w.primary.epoch

-- the nodes are the same, unless the standby was promoted, or its image was, or a newcomer came in its place
abbrev pub Stays : World → World → Type 0
Stays w new = KeepsNodes w new ⊎ (new.primary.epoch ≡ w.standby.epoch + 1) ⊎ (new ≡ joined w)

pub keeps-itself : (w : World) → KeepsNodes w w
keeps-itself w = record { primary_disk = refl; standby_disk = refl; epoch = refl }

taken-changes : (span : Span) (old new : Standby) (told : List Acknowledgement) → TakesChanges span old new told → new.disk ≡ old.disk
taken-changes span old new told takes = elim takes [
  | inl below ↦ ap (λ (x : Standby). x.disk) below.1
  | inr (inl next) ↦ ap (λ (x : Standby). x.disk) next.2
  | inr (inr other) ↦ ap (λ (x : Standby). x.disk) other.1.0
]

taken-end : (position parts : ℕ) (old new : Standby) (told : List Acknowledgement) → TakesEnd position parts old new told → new.disk ≡ old.disk
taken-end position parts old new told takes = elim takes [
  | inl whole ↦ ap (λ (x : Standby). x.disk) whole.1
  | inr (inl other) ↦ ap (λ (x : Standby). x.disk) other.0
  | inr (inr freed) ↦ ap (λ (x : Standby). x.disk) freed.1
]

taken-own : (role : Role) (tells : Told) (old new : Standby) (told : List Acknowledgement) → TakesOwn role tells old new told → new.disk ≡ old.disk
taken-own Follower (Changes span) old new told takes = taken-changes span old new told takes
taken-own Follower (Part position number) old new told takes = ap (λ (x : Standby). x.disk) takes.0
taken-own Follower (End position parts) old new told takes = elim takes [
  | inl below ↦ ap (λ (x : Standby). x.disk) below.1
  | inr other ↦ ap (λ (x : Standby). x.disk) other.1.0
]
taken-own Uncopied (Changes span) old new told takes = ap (λ (x : Standby). x.disk) takes.0
taken-own Uncopied (Part position number) old new told takes = ap (λ (x : Standby). x.disk) takes.2
taken-own Uncopied (End position parts) old new told takes = taken-end position parts old new told takes

taken : (frame : Frame) (old new : Standby) (told : List Acknowledgement) → Takes frame old new told → new.disk ≡ old.disk
taken frame old new told takes = elim takes [
  | inl other ↦ ap (λ (x : Standby). x.disk) other.1.0
  | inr own ↦ taken-own old.role frame.told old new told own.1
]

pub after-crash : (w : World) (node : Node) (remain : Remains) → Stays w (crashed node remain w)
after-crash w nodes.Primary (At position) = inl (search (keeps-itself w))
after-crash w nodes.Primary AsPrimary = inl (search (keeps-itself w))
after-crash w nodes.Standby (At position) = inl (search (keeps-itself w))
after-crash w nodes.Standby AsPrimary = inr (inl refl)
after-crash w nodes.Primary (AsFollower position) = inl (search (keeps-itself w))
after-crash w nodes.Standby (AsFollower position) = inl (search (keeps-itself w))

-- ---- behind the connections

-- the connections and the list of calls are as they were, and so are the nodes
pub record Behind (old new : World) : Type 0 where
  pub connections : new.primary.connections ≡ old.primary.connections
  pub calls : new.primary.calls ≡ old.primary.calls
  pub nodes : KeepsNodes old new
  pub came : new.came ≡ old.came

pub behind-itself : (w : World) → Behind w w
behind-itself w = record { connections = refl; calls = refl; nodes = keeps-itself w; came = refl }

-- what is sent is behind the connections
pub behind-sent : (w : World) → Behind w (sent w)
behind-sent w = elim w.primary.link.copying as (λ copying. Behind w (sent_with copying w)) [
  | Follows ↦ search (behind-itself w)
  | Awaited ↦ search (behind-itself w)
  | Sending pinned ↦ search (behind-itself w)
]

pub behind-applied : (w new : World) → Applies w new → Behind w new
behind-applied w new applies =
    let disk = ap (λ (x : Disk). x.number) (taken applies.frame (without_first w.standby) applies.standby applies.told applies.takes) in
    subst (Behind w) (sym applies.now) (record { connections = refl; calls = refl; nodes = record { primary_disk = refl; standby_disk = disk; epoch = refl }; came = refl })

-- and nothing moved that the laws of runs go by: no record, no remote mark, nothing on the wire
pub record Unmoved (old new : World) : Type 0 where
  pub behind : Behind old new
  pub committer : new.primary.committer.position ≡ old.primary.committer.position
  pub standby : new.standby.position ≡ old.standby.position
  pub remote : new.primary.link.remote ≡ old.primary.link.remote
  pub wire : new.wire ≡ old.wire

pub unmoved-itself : (w : World) → Unmoved w w
unmoved-itself w = record { behind = behind-itself w; committer = refl; standby = refl; remote = refl; wire = refl }

pub unmoved-asked : (w : World) (node : Node) (n : ℕ) → Unmoved w (on_disk node (asked_to_fail n) w)
unmoved-asked w nodes.Primary n = search (unmoved-itself w)
unmoved-asked w nodes.Standby n = search (unmoved-itself w)

pub unmoved-Fails : (w new : World) (node : Node) (call : Cut) → Fails w node call new → Unmoved w new
unmoved-Fails w new nodes.Primary call fails = subst (Unmoved w) (sym fails.now) (search (unmoved-itself w))
unmoved-Fails w new nodes.Standby call fails = subst (Unmoved w) (sym fails.now) (search (unmoved-itself w))

-- ---- the remote mark

-- the end of a copy moves no mark
pub ended-marks : (position : ℕ) (copying : Copying) (link : Link) → ((ended_at position copying link).known ≡ link.known) × ((ended_at position copying link).remote ≡ link.remote)
ended-marks position Follows link = (refl, refl)
ended-marks position Awaited link = (refl, refl)
ended-marks position (Sending pinned) link =
    elim (nat_le pinned.position position) as (λ b. let new = cond b (record link { again = link.kept; copying = Follows }) link in (new.known ≡ link.known) × (new.remote ≡ link.remote)) [ true ↦ (refl, refl) | false ↦ (refl, refl) ]

pub told-remote : (epoch own : ℕ) (ack : Option Acknowledgement) (link : Link) → (told epoch own ack link).remote ≡ link.remote
told-remote epoch own None link = refl
told-remote epoch own (Some ack) link =
    elim (counts epoch own ack) as (λ b. (cond b (knowing ack.position link) link).remote ≡ link.remote) [ true ↦ (ended-marks ack.position link.copying _).1 | false ↦ refl ]

pub remote-crashed : (w : World) (node : Node) (remain : Remains) → (crashed node remain w).primary.link.remote ≤ w.primary.link.remote
remote-crashed w nodes.Primary (At position) = omega arith
remote-crashed w nodes.Primary AsPrimary = omega arith
remote-crashed w nodes.Standby (At position) = omega arith
remote-crashed w nodes.Standby AsPrimary = omega arith
remote-crashed w nodes.Primary (AsFollower position) = omega arith
remote-crashed w nodes.Standby (AsFollower position) = omega arith
