-- What a crash, a promotion, and a fence that fails leave sound.
use Rattle.std.proofs.Common.{◌≡◌, ℕ, ◌+◌, ◌<◌, ◌≤◌, false, List, [], ◌∷◌, ◌++◌, map, All, refl, sym, subst, arith, le_refl, inl, inr}
use Rattle.std.specs.Prelude.{Contains}
use Rattle.std.proofs.lemmas.Bool.{cases_Bool}
use Rattle.std.proofs.lemmas.List.Elements.{All-append, All-cons, All-contains, All-weaker, All-nil}
use Rattle.model.specs.declared.call.Call.{Call}
use Rattle.model.specs.Call.{IsPrefix, cut_at, items_of, position_of}
use Rattle.model.proofs.CallsLemmas.{IsLegal-cut_at, position_of-cut_at}
use Rattle.machine.specs.declared.event.Cut.{Cut}
use Rattle.machine.specs.declared.event.Cut.TheVariants as cut
use Rattle.machine.specs.declared.event.Node.{Node}
use Rattle.machine.specs.declared.event.Node.TheVariants as nodes
use Rattle.machine.specs.declared.event.Event.TheVariants.{Commit}
use Rattle.machine.specs.Event.{Work, Commits, Frees, Role, Follower, reach, AsFollower, Remains, At, AsPrimary, Life, Stopped, Disk, World, connection_of, get_connection, with_primary, with_standby, on_disk, torn, asked_to_fail, failed, halted, Fails, OpensPrimary, Standby, crashed_primary, crashed_standby, promoted, next_primary, left_by, may_remain, left, spans_of, from_group, committed_first, asked, crashed, is_open, new_committer}
use Rattle.machine.specs.Sound.{IsChain, IsFrameWithin, IsHeldAt, IsPrimaryLeft, IsStandbyLeft, IsToldWithin, SoundOver, SoundCommitter, Sound}
use Rattle.machine.proofs.GroupLemmas.{StaysNewcomer, chain-le, frames-later, frames_within-weaker, frames-earlier, link-new}
use Rattle.machine.proofs.OverLemmas.{sound-released}
use Rattle.machine.proofs.InboundLemmas.{inbound-items}
use Rattle.machine.proofs.CrashLemmas.{all-over, count-over, get-over, over-crashed}
use Rattle.machine.proofs.WorkLemmas.{spans_of-from_group, committer-new}
use Rattle.machine.proofs.StandbyLemmas.{left-first, newcomer-follower, told-earlier, wire-grown}
use Rattle.machine.proofs.SoundConnection.{both_ways, reach-low, standby_left-grown}

-- ---- crashes

-- each connection's calls take its items in order
pub sound-items : (w : World) → Sound w → (c : ℕ) → IsPrefix (items_of c w.primary.calls) (asked (connection_of w c).inbound.fed)
sound-items w s c = elim (cases_Bool (is_open w c)) [ inl e ↦ inbound-items w.primary.calls c (connection_of w c).inbound (s.inbound c e) | inr e ↦ (s.over c e).items ]

-- the list is cut where an image stands that holds what the standby does, and the primary is opened from it as of this epoch
sound-over : (w : World) (position : ℕ) → w.standby.position ≤ position → position ≤ position_of w.primary.calls → Sound w
    → (c : ℕ) → SoundOver (cut_at w.primary.calls position) c w.standby.position (get_connection (map left w.primary.connections) c)
sound-over w position held within s c =
    subst (SoundOver (cut_at w.primary.calls position) c w.standby.position) (sym (get-over w.primary.connections c))
    (over-crashed w.primary.calls c w.standby.position position (connection_of w c) held (sound-items w s c) (sound-released w s c))

committer-cut : (calls : List Call) (position : ℕ) → position ≤ position_of calls → SoundCommitter (position_of (cut_at calls position)) (new_committer position)
committer-cut calls position within =
    let there : position ≡ position_of (cut_at calls position) = omega (arith, position_of-cut_at calls position, within) in subst (λ p. SoundCommitter p (new_committer position)) there (committer-new position)

-- a primary's image that a crash leaves at this position
sound-crashed_primary : (w : World) (position : ℕ) → w.primary.committer.position ≤ position → position ≤ position_of w.primary.calls → Sound w → Sound (with_primary (crashed_primary position w.primary) w)
sound-crashed_primary w position low within s =
    let epoch = w.primary.epoch in
    let later : reach w ≤ position = omega (arith, reach-low w.primary.link.copying w.primary.committer.position, low) in
    let held : w.standby.position ≤ position = omega (arith, s.standby.behind, later) in
    record {
      connections = record { seats = omega (arith, count-over w.primary.connections) };
      legal = IsLegal-cut_at w.primary.calls position s.legal;
      inbound = λ c is_one. absurd (both_ways _ is_one (all-over w.primary.connections c));
      outbound = λ c is_one. absurd (both_ways _ is_one (all-over w.primary.connections c));
      over = λ c shut. sound-over w position held within s c;
      committer = committer-cut w.primary.calls position within;
      sent = position;
      link = link-new position;
      pinned = tt;
      standby = record { epoch_is = s.standby.epoch_is; frames = frames_within-weaker epoch w.standby.role w.standby.position (reach w) position w.standby.waiting later s.standby.frames; behind = held; known = omega arith };
      wire = wire-grown epoch w.standby.role w.standby.position (reach w) position w.wire later s.wire;
      primary_left = All-nil (IsPrimaryLeft position (position_of (cut_at w.primary.calls position)));
      standby_left = standby_left-grown w.standby.role w.standby.position (reach w) position (torn w.standby.life) later s.standby_left;
    }

-- what a crash leaves of the node that follows: its image at this position, which is a newcomer's only where it was one
sound-crashed_as : (w : World) (s : Sound w) (role : Role) (position : ℕ) → StaysNewcomer w.standby.role w.standby.position role position → w.standby.position ≤ position → position ≤ reach w
    → Sound (with_standby (record (crashed_standby position w.standby) { role = role }) w)
sound-crashed_as w s role position stays low within =
    let epoch = w.primary.epoch in
    let over : (c : ℕ) → is_open w c ≡ false → SoundOver w.primary.calls c position (connection_of w c) =
    λ c shut. let o = s.over c shut in
    search (o, All-weaker (IsHeldAt w.standby.position) (IsHeldAt position) (λ reply h. omega (arith, h, low)) o.released.out o.released.held) in
    let told : All (IsToldWithin epoch position) w.wire.acknowledgements =
    All-weaker (IsToldWithin epoch w.standby.position) (IsToldWithin epoch position) (λ ack h. record { epoch_is = h.epoch_is; within = λ same. let high = h.within same in omega (arith, high, low) }) w.wire.acknowledgements s.wire.acknowledged in
    record {
      connections = s.connections;
      legal = s.legal;
      inbound = s.inbound;
      outbound = s.outbound;
      over = over;
      committer = s.committer;
      sent = s.sent;
      link = s.link;
      pinned = s.pinned;
      standby = record { epoch_is = s.standby.epoch_is; frames = All-nil (IsFrameWithin epoch role position (reach w)); behind = within; known = omega (arith, s.standby.known, low) };
      wire = record { frames = frames-later epoch w.standby.role w.standby.position role position (reach w) (reach w) w.wire.frames stays (le_refl (reach w)) s.wire.frames; acknowledged = told };
      primary_left = s.primary_left;
      standby_left = All-nil (IsStandbyLeft role position (reach w));
    }

-- the standby's image is that of a primary of the next epoch
pub sound-promoted : (w : World) → Sound w → Sound (promoted w)
sound-promoted w s =
    let epoch = w.primary.epoch in
    let later = w.standby.epoch + 1 in
    let position = w.standby.position in
    let next : epoch < later = omega (arith, s.standby.epoch_is) in
    let within : position ≤ position_of w.primary.calls = omega (arith, s.standby.behind, reach-low w.primary.link.copying w.primary.committer.position, s.committer.closed, chain-le _ _ _ s.committer.waiting) in
    record {
      connections = record { seats = omega (arith, count-over w.primary.connections) };
      legal = IsLegal-cut_at w.primary.calls position s.legal;
      inbound = λ c is_one. absurd (both_ways _ is_one (all-over w.primary.connections c));
      outbound = λ c is_one. absurd (both_ways _ is_one (all-over w.primary.connections c));
      over = λ c shut. sound-over w position (le_refl position) within s c;
      committer = committer-cut w.primary.calls position within;
      sent = position;
      link = link-new position;
      pinned = tt;
      standby = record { epoch_is = refl; frames = All-nil (IsFrameWithin later w.standby.role position position); behind = le_refl position; known = omega arith };
      wire = record {
        frames = frames-earlier epoch w.standby.role position (reach w) later w.standby.role position position w.wire.frames next s.wire.frames;
        acknowledged = told-earlier epoch position later position w.wire.acknowledgements next s.wire.acknowledged;
      };
      primary_left = All-nil (IsPrimaryLeft position (position_of (cut_at w.primary.calls position)));
      standby_left = All-nil (IsStandbyLeft w.standby.role position position);
    }

-- the primary commits up to a position of the list
pub next_primary-within : (w : World) → Sound w → (w.primary.committer.position ≤ next_primary w) × (next_primary w ≤ position_of w.primary.calls)
next_primary-within w s =
    let committer = w.primary.committer in
    go (from_group committer.waiting) (subst (λ groups. IsChain committer.position groups committer.closed) (sym (spans_of-from_group committer.waiting)) s.committer.waiting)
  where
    go : (works : List Work) → IsChain w.primary.committer.position (spans_of works) w.primary.committer.closed
        → let next = (committed_first works w.primary.committer).position in (w.primary.committer.position ≤ next) × (next ≤ position_of w.primary.calls)
    go [] chain = (le_refl _, omega (arith, s.committer.closed, chain-le _ _ _ s.committer.waiting))
    go (Frees newest ∷ works) chain = (le_refl _, omega (arith, s.committer.closed, chain-le _ _ _ s.committer.waiting))
    go (Commits group ∷ works) chain = (omega (arith, chain.1), omega (arith, s.committer.closed, chain-le _ _ _ chain.2))

-- what a call of the primary that is cut leaves lies within the list
primary_left-by : (w : World) (call : Cut) → Sound w → All (IsPrimaryLeft w.primary.committer.position (position_of w.primary.calls)) (left_by w nodes.Primary call)
primary_left-by w cut.Commit s =
    let P = IsPrimaryLeft w.primary.committer.position (position_of w.primary.calls) in
    All-cons P (At (next_primary w)) [] (next_primary-within w s) (All-nil P)
primary_left-by w _ s = All-nil (IsPrimaryLeft w.primary.committer.position (position_of w.primary.calls))

standby_left-by : (w : World) (call : Cut) (s : Sound w) → All (IsStandbyLeft w.standby.role w.standby.position (reach w)) (left_by w nodes.Standby call)
standby_left-by w cut.Apply s = left-first w.primary.epoch (reach w) w.standby w.standby.waiting s.standby.epoch_is s.standby.frames
standby_left-by w cut.Promote s = let P = IsStandbyLeft w.standby.role w.standby.position (reach w) in All-cons P AsPrimary [] tt (All-nil P)
standby_left-by w _ s = All-nil (IsStandbyLeft w.standby.role w.standby.position (reach w))

-- what a crash may leave of either node
pub primary-remains : (w : World) (call : Cut) (remain : Remains) → Contains (may_remain w nodes.Primary call) remain → Sound w → IsPrimaryLeft w.primary.committer.position (position_of w.primary.calls) remain
primary-remains w call remain one s =
    let P = IsPrimaryLeft w.primary.committer.position (position_of w.primary.calls) in
    let own : IsPrimaryLeft w.primary.committer.position (position_of w.primary.calls) (At w.primary.committer.position) =
    (le_refl w.primary.committer.position, omega (arith, s.committer.closed, chain-le _ _ _ s.committer.waiting)) in
    let others = torn w.primary.life ++ left_by w nodes.Primary call in
    All-contains P (may_remain w nodes.Primary call) remain (All-cons P (At w.primary.committer.position) others own (All-append P (torn w.primary.life) (left_by w nodes.Primary call) s.primary_left (primary_left-by w call s))) one

pub standby-remains : (w : World) (call : Cut) (remain : Remains) → Contains (may_remain w nodes.Standby call) remain → (s : Sound w) → IsStandbyLeft w.standby.role w.standby.position (reach w) remain
standby-remains w call remain one s =
    let P = IsStandbyLeft w.standby.role w.standby.position (reach w) in
    let own : IsStandbyLeft w.standby.role w.standby.position (reach w) (At w.standby.position) = (le_refl w.standby.position, s.standby.behind, λ newcomer. le_refl w.standby.position) in
    let others = torn w.standby.life ++ left_by w nodes.Standby call in
    All-contains P (may_remain w nodes.Standby call) remain (All-cons P (At w.standby.position) others own (All-append P (torn w.standby.life) (left_by w nodes.Standby call) s.standby_left (standby_left-by w call s))) one

pub sound-crashed : (w : World) (node : Node) (call : Cut) (remain : Remains) → Contains (may_remain w node call) remain → Sound w → Sound (crashed node remain w)
sound-crashed w nodes.Primary call (At position) one s = let at = primary-remains w call (At position) one s in sound-crashed_primary w position at.0 at.1 s
sound-crashed w nodes.Primary call AsPrimary one s = s
sound-crashed w nodes.Primary call (AsFollower position) one s = s
sound-crashed w nodes.Standby call (At position) one s = let at = standby-remains w call (At position) one s in sound-crashed_as w s w.standby.role position (λ newcomer. (newcomer, at.2 newcomer)) at.0 at.1
sound-crashed w nodes.Standby call AsPrimary one s = sound-promoted w s
sound-crashed w nodes.Standby call (AsFollower position) one s = let at = standby-remains w call (AsFollower position) one s in sound-crashed_as w s Follower position (λ newcomer. absurd (newcomer-follower newcomer)) at.0 at.1

-- ---- the condition of a node and of its device

pub sound-primary_life : (w : World) (life : Life) (disk : Disk) → All (IsPrimaryLeft w.primary.committer.position (position_of w.primary.calls)) (torn life) → Sound w → Sound (with_primary (record w.primary { life = life; disk = disk }) w)
sound-primary_life w life disk left s = search (left, s)

pub sound-standby_life : (w : World) (life : Life) (disk : Disk) (s : Sound w) → All (IsStandbyLeft w.standby.role w.standby.position (reach w)) (torn life) → Sound (with_standby (record w.standby { life = life; disk = disk }) w)
sound-standby_life w life disk s left = search (left, s)

pub sound-asked : (w : World) (node : Node) (n : ℕ) → Sound w → Sound (on_disk node (asked_to_fail n) w)
sound-asked w nodes.Primary n s = sound-primary_life w w.primary.life (asked_to_fail n w.primary.disk) s.primary_left s
sound-asked w nodes.Standby n s = sound-standby_life w w.standby.life (asked_to_fail n w.standby.disk) s s.standby_left

sound-failed : (w : World) (node : Node) (call : Cut) → Sound w → Sound (halted node (left_by w node call) w)
sound-failed w nodes.Primary call s = sound-primary_life w (Stopped (left_by w nodes.Primary call)) (failed w.primary.disk) (primary_left-by w call s) s
sound-failed w nodes.Standby call s =
    let left = standby_left-by w call s in
    let none = All-nil (IsFrameWithin w.primary.epoch w.standby.role w.standby.position (reach w)) in
    search (left, none, s)

pub sound-Fails : (w new : World) (node : Node) (call : Cut) → Fails w node call new → Sound w → Sound new
sound-Fails w new node call fails s = subst Sound (sym fails.now) (sound-failed w node call s)

-- the primary's image is opened
pub sound-opened : {made : ℕ} (w new : World) → OpensPrimary made w new → Sound w → Sound new
sound-opened w new opens s =
    let left = All-nil (IsPrimaryLeft w.primary.committer.position (position_of w.primary.calls)) in
    subst Sound (sym opens.now) (search (left, s))
